-- Worked cases of the definitions, in one table.
use Rattle.std.specs.Prelude.{◌≡◌, ℕ, true, false, [], ◌∷◌, Some, None, Option}
use Rattle.std.specs.Option.{option_map}
use Rattle.stamps.specs.Aisles.{part_of, proper_part}
use Rattle.books.specs.Meaning.{Atom, Meaning}
use Rattle.books.specs.Check.{book_fault}
use Rattle.books.specs.Faults.{check_refusal, checking_at}
use Rattle.books.specs.declared.fault.Refusal.{Refusal}
use Rattle.stamps.specs.Orders.{tick_tests}

-- a derived atom at a tick
abbrev at : ℕ → Atom ℕ
at tick = record { stamp = tick; reading = false }

-- atom 1 at tick 5 from atom 0 at the tick
abbrev pub leans_on : ℕ → Meaning ℕ
leans_on tick = record { atoms = at tick ∷ at 5 ∷ []; rules = Some (record { head = 1; positives = 0 ∷ []; negatives = [] }) ∷ [] }

-- atom 1 at tick 5 from not atom 0 at the tick
abbrev pub leans_on_no : ℕ → Meaning ℕ
leans_on_no tick = record { atoms = at tick ∷ at 5 ∷ []; rules = Some (record { head = 1; positives = []; negatives = 0 ∷ [] }) ∷ [] }

-- what the check tells of a book stamped by ticks
abbrev pub told : Meaning ℕ → Option Refusal
told m = option_map check_refusal (book_fault (tick_tests (λ n. n)) m)

-- what the check tells of literals level with the head, before and after it, and how three routes stand
pub record Cases : Type 0 where
  pub negative_level : told (leans_on_no 5) ≡ Some (checking_at 7 0 1)
  pub negative_before : told (leans_on_no 4) ≡ None
  pub positive_level : told (leans_on 5) ≡ None
  pub positive_after : told (leans_on 6) ≡ Some (checking_at 6 0 1)
  -- the routes {2, 5} and {2, 5, 9}
  pub route_before : proper_part 36 548 ≡ true
  -- the routes {2} and {5}
  pub routes_unordered : (part_of 4 32 ≡ false) × (part_of 32 4 ≡ false) × (proper_part 4 32 ≡ false) × (proper_part 32 4 ≡ false)
