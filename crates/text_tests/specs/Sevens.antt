-- A book whose one rule has seven positive atoms.
use Rattle.std.specs.Prelude.{false, [], ◌∷◌, Some}
use Rattle.books.specs.Meaning.{Rule, Atom, Meaning}
use Rattle.stamps.specs.declared.tick.Tick.{Tick}

-- its one atom
abbrev pub only_atom : Atom Tick
only_atom = record { stamp = record { 0 = 1 }; reading = false }

-- its one rule
abbrev pub only_rule : Rule
only_rule = record { head = 0; positives = 0 ∷ 0 ∷ 0 ∷ 0 ∷ 0 ∷ 0 ∷ 0 ∷ []; negatives = [] }

-- one atom, and one rule over it
abbrev pub seven_meaning : Meaning Tick
seven_meaning = record { atoms = only_atom ∷ []; rules = Some only_rule ∷ [] }
