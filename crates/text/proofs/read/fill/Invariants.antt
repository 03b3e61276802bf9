use Rattle.text.proofs.Filled.{Fills}
use Rattle.text.proofs.read.fill.Given as goal

-- so many turns have passed, and the tables hold what they gave
abbrev pub invariant-loop-turn : goal.invariant-loop-turn
invariant-loop-turn g l = Fills g.S.Spelled.stamp_at g.S.Spelled.spelling l.text l.room l._turn l.reader l.initial.atoms l.atoms l.initial.rules l.rules
