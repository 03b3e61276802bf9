use Rattle.std.proofs.Common.{true, false, inl, inr}
use Rattle.std.proofs.lemmas.Result.{err_from_is_err_and}
use Rattle.text.proofs.Surveyed.{surveys_none, surveys_more, survey_refused, survey_over}
use Rattle.text.proofs.read.survey.Goals as goal
use Rattle.text.proofs.read.survey.Goals.{else-loop-turn-test, then-loop-turn-test+then-is_finished}

pub loop-turn-init : goal.loop-turn-init
loop-turn-init g c = surveys_none g.S.Spelled.stamp_at g.S.Spelled.spelling c.args.text.now c.args.room

pub loop-turn-preserved : goal.loop-turn-preserved
loop-turn-preserved g c =
    let v = c.in_ok-step.ensures.value in
    surveys_more c.loop-turn.invariant c.if-is_finished.ensures _ _ v.0 _ v.1

pub returns-in_err-step : goal.returns-in_err-step
returns-in_err-step g c =
    let p = err_from_is_err_and c.from_residual.result c.from_residual.ensures.1 in
    rw (p.1, p.2) (survey_refused c.loop-turn.invariant c.if-is_finished.ensures _ c.in_err-step.ensures.value.0 c.loop-turn-test.true)

pub returns-then-is_end : goal.returns-then-is_end
returns-then-is_end g c =
    survey_over c.loop-turn.invariant
    (elim c.loop-turn-test.branch [ else-loop-turn-test w ↦ inl w.loop-turn-test.false | then-loop-turn-test+then-is_finished w ↦ inr w.if-is_finished.ensures ])
    c.loop-turn.auto._turn-end true c.if-is_end.ensures

pub returns-else-is_end : goal.returns-else-is_end
returns-else-is_end g c =
    rw c.into.ensures (survey_over c.loop-turn.invariant
    (elim c.loop-turn-test.branch [ else-loop-turn-test w ↦ inl w.loop-turn-test.false | then-loop-turn-test+then-is_finished w ↦ inr w.if-is_finished.ensures ])
    c.loop-turn.auto._turn-end false c.if-is_end.ensures)
