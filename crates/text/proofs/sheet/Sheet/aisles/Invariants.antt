use Rattle.text.specs.Spelt.{aisle_text}
use Rattle.text.proofs.Laid.{WritesBelow}
use Rattle.text.proofs.sheet.Sheet.aisles.Given as goal

-- the aisles below this one are written
abbrev pub invariant-loop-aisle : goal.invariant-loop-aisle
invariant-loop-aisle l = WritesBelow l.initial.self (aisle_text l.aisles) 21 l.aisle l.self
