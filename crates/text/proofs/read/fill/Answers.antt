use Rattle.std.proofs.Common.{length, arith}
use Rattle.std.proofs.lemmas.Result.{err_from_is_err_and}
use Rattle.text.proofs.Filled.{fills_none, fills_more, fill_refused, filled_all, filled_last, roomier}
use Rattle.text.proofs.read.fill.Goals as goal

pub loop-turn-init : goal.loop-turn-init
loop-turn-init g c = fills_none g.S.Spelled.stamp_at g.S.Spelled.spelling c.args.text.now c.args.room c.args.atoms.now c.args.rules.now

pub loop-turn-preserved : goal.loop-turn-preserved
loop-turn-preserved g c =
    let l = c.loop-turn in
    let f = c.in_ok-form in
    let fits = roomier c.args.room (record { atoms = length l.atoms; rules = length l.rules }) l.reader f.form (omega arith) (omega arith) f.ensures.roomy in
    fills_more l.invariant c.if-is_finished.ensures f.form _ f.ensures.value.0 fits _ f.ensures.value.1 _ c.put.ensures.atoms _ c.put.ensures.rules

pub returns-in_err-form : goal.returns-in_err-form
returns-in_err-form g c =
    let p = err_from_is_err_and c.from_residual.result c.from_residual.ensures.1 in
    rw (p.1, p.2) (fill_refused c.loop-turn.invariant c.if-is_finished.ensures _ c.in_err-form.ensures.value.0 c.loop-turn-test.true)

pub returns-then-is_finished : goal.returns-then-is_finished
returns-then-is_finished g c = filled_all c.loop-turn.invariant c.if-is_finished.ensures c.loop-turn.auto._turn-end

pub returns-after-loop-turn : goal.returns-after-loop-turn
returns-after-loop-turn g c = filled_last c.loop-turn.invariant c.loop-turn-test.false c.loop-turn.auto._turn-end
