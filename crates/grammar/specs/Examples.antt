-- What the definitions say of small texts.
use Rattle.std.specs.Prelude.{◌≡◌, ℕ, true, false, List, [], ◌∷◌, Some, None, Ok, Err, codes}
use Rattle.books.specs.Meaning.{Meaning}
use Rattle.books.specs.declared.fault.ReadFault.TheVariants.{Byte, NotRising, Number, TooMany, AtomMissing}
use Rattle.books.specs.declared.fault.Fault.TheVariants.{Reading}
use Rattle.stamps.specs.declared.tick.Tick.{Tick}
use Rattle.grammar.specs.Notations.{ticks, routes, pairs}
use Rattle.grammar.specs.Pieces.{kept, plain}
use Rattle.grammar.specs.Theorems.{read_as, written_of, SpeltBy}

-- with leading zeros
abbrev pub zeros : List ℕ
zeros = codes "(order tick)\n(atom 00 in 01)\n(atom 1 out 2)\n(rule 0 1 (000) ())\n(void 1)\n(end)\n"

-- without
abbrev pub bare : List ℕ
bare = codes "(order tick)\n(atom 0 in 1)\n(atom 1 out 2)\n(rule 0 1 (0) ())\n(void 1)\n(end)\n"

-- a reading at tick 1, an atom at tick 2 that follows from it, and a vacant number
abbrev pub two : Meaning Tick
two =
    record {
      atoms = record { stamp = record { 0 = 1 }; reading = true } ∷ record { stamp = record { 0 = 2 }; reading = false } ∷ [];
      rules = Some (record { head = 1; positives = 0 ∷ []; negatives = [] }) ∷ None ∷ [];
    }

-- both texts spell the book, one of them is what is written of it, and each fault has its place
pub record ExamplesHold : Type 0 where
  pub zeros_read : read_as ticks zeros 2 2 ≡ Ok two
  pub bare_read : read_as ticks bare 2 2 ≡ Ok two
  pub written : written_of ticks two ≡ bare
  pub zeros_kept : SpeltBy ticks kept two zeros
  pub zeros_not_plain : SpeltBy ticks plain two zeros → ⊥
  pub bare_plain : SpeltBy ticks plain two bare
  pub wrong_byte : read_as ticks (codes "(order tick)\n(atom x") 2 2 ≡ Err (Reading (Byte 19))
  pub broken_off : read_as ticks (codes "(order tick)") 2 2 ≡ Err (Reading (Byte 12))
  pub not_next : read_as ticks (codes "(order tick)\n(atom 1") 2 2 ≡ Err (Reading (Number 19))
  pub no_room : read_as ticks bare 1 2 ≡ Err (Reading (TooMany 27))
  pub undeclared : read_as ticks (codes "(order tick)\n(rule 0 0") 2 2 ≡ Err (Reading (AtomMissing 0 0))
  pub falling : read_as routes (codes "(order route)\n(atom 0 in (5 3))") 2 2 ≡ Err (Reading (NotRising 28))
  pub route : read_as routes (codes "(order route)\n(atom 0 in (2 5 9))\n(end)\n") 2 2 ≡ Ok (record { atoms = record { stamp = record { aisles = 548 }; reading = true } ∷ []; rules = [] })
  pub pair : read_as pairs (codes "(order then)\n(atom 0 out (3 1))\n(end)\n") 2 2 ≡ Ok (record { atoms = record { stamp = record { first = record { 0 = 3 }; second = record { 0 = 1 } }; reading = false } ∷ []; rules = [] })
