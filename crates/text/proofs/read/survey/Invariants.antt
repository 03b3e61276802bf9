use Rattle.text.proofs.Surveyed.{Surveys}
use Rattle.text.proofs.read.survey.Given as goal

-- so many turns have passed
abbrev pub invariant-loop-turn : goal.invariant-loop-turn
invariant-loop-turn g l = Surveys g.S.Spelled.stamp_at g.S.Spelled.spelling l.text l.room l._turn l.reader
