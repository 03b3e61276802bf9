-- What the rows of a flat book mean.
use Rattle.std.specs.Prelude.{ℕ, List, map, Option}
use Rattle.std.specs.Option.{option_map}
use Rattle.books.specs.Meaning.{Rule, Atom, Meaning}
use Rattle.makes.specs.Bodies.{body_items}
use Rattle.makes.specs.declared.rows.AtomRow.{AtomRow}
use Rattle.makes.specs.declared.rows.RuleRow.{RuleRow}

-- the atom that a row is
abbrev pub atom_of : {S : Type 0} → AtomRow S → Atom S
atom_of a = record { stamp = a.stamp; reading = a.reading }

-- a rule by its parts
abbrev pub rule_by : ℕ → List ℕ → List ℕ → Rule
rule_by head positives negatives = record { head = head; positives = positives; negatives = negatives }

-- the rule that a row is
abbrev pub rule_of : RuleRow → Rule
rule_of r = rule_by r.head (body_items r.positives) (body_items r.negatives)

-- row k is atom or rule number k; a rule number whose row is None is vacant
abbrev pub flat_meaning : {S : Type 0} → List (AtomRow S) → List (Option RuleRow) → Meaning S
flat_meaning atoms rules = record { atoms = map atom_of atoms; rules = map (option_map rule_of) rules }
