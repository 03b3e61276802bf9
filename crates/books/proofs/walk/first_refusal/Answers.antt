use Rattle.std.proofs.Common.{Err}
use Rattle.std.proofs.lemmas.Result.{err_from_is_err_and}
use Rattle.books.proofs.First.{goes_on, ends_at}
use Rattle.books.proofs.walk.first_refusal.Goals as goal

pub returns-in_err-test : goal.returns-in_err-test
returns-in_err-test g c f answers =
    let p = err_from_is_err_and c.from_residual.result c.from_residual.ensures.1 in
    rw (p.1, p.2)
    (ends_at f c.loop-i.i c.args.count c.in_err-test.field-0.0 (c.loop-i.invariant f answers) (answers c.loop-i.i (Err c.in_err-test.field-0.0) c.loop-i-test.true c.in_err-test.ensures) c.loop-i-test.true)

pub loop-i-preserved : goal.loop-i-preserved
loop-i-preserved g c f answers =
    goes_on f c.loop-i.i (c.loop-i.invariant f answers) (answers c.loop-i.i _ c.loop-i-test.true c.in_ok-test.ensures)
