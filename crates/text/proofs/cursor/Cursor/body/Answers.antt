use Rattle.std.proofs.Common.{◌∙◌}
use Rattle.std.proofs.lemmas.Result.{err_from_is_err_and}
use Rattle.makes.proofs.Bodies.{few_items}
use Rattle.text.proofs.Bodied.{reads_none, reads_more, body_refused, body_read}
use Rattle.text.proofs.cursor.Cursor.body.Goals as goal

pub loop-more-init : goal.loop-more-init
loop-more-init c = record { same = c.in_ok-more.ensures.1; reads = reads_none _ _ _ _ _ c.empty-body.ensures }

pub loop-more-preserved : goal.loop-more-preserved
loop-more-preserved c =
    let i = c.loop-more.invariant in
    let e = rw i.same at c.in_ok-more-2.ensures.value.0 in
    record {
      same = c.in_ok-more-2.ensures.value.1 ∙ i.same;
      reads = reads_more _ _ _ _ _ i.reads c.loop-more-test.true _ e c.in_ok-more-2.ensures.longer;
    }

pub returns-in_err-more-2-clause-value : goal.returns-in_err-more-2-clause-value
returns-in_err-more-2-clause-value c =
    let i = c.loop-more.invariant in
    let p = err_from_is_err_and c.from_residual-in_err-more-2.result c.from_residual-in_err-more-2.ensures.1 in
    let e = rw i.same at c.in_err-more-2.ensures.value.0 in
    rw (p.1, p.2) (body_refused _ _ _ _ _ i.reads c.loop-more-test.true _ c.in_ok-more.ensures.0 (few_items c.loop-more.body) _ e, c.in_err-more-2.ensures.value.1 ∙ i.same)

pub returns-clause-value : goal.returns-clause-value
returns-clause-value c =
    let i = c.loop-more.invariant in
    (body_read _ _ _ _ _ i.reads c.loop-more-test.false _ c.in_ok-more.ensures.0 (few_items c.loop-more.body), i.same)
