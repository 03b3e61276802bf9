use Rattle.std.proofs.Common.{arith, ◌∙◌}
use Rattle.std.proofs.lemmas.Nat.{one_shl}
use Rattle.std.proofs.lemmas.Result.{err_from_is_err_and}
use Rattle.text.proofs.Risen.{risen_none, number_refused, not_rising, onward_refused, risen_more, route_refused, route_read}
use Rattle.text.proofs.cursor.Cursor.route.Goals as goal

pub loop-more-init : goal.loop-more-init
loop-more-init c = record { same = c.in_ok-more.ensures.1; risen = risen_none _ _ }

pub loop-more-preserved : goal.loop-more-preserved
loop-more-preserved c =
    let i = c.loop-more.invariant in
    let e = rw i.same at c.in_ok-aisle.ensures.value.0 in
    let t = c.in_ok-aisle.ensures.value.1 ∙ i.same in
    let m = rw t at c.in_ok-more-2.ensures.0 in
    record {
      same = c.in_ok-more-2.ensures.1 ∙ t;
      risen = risen_more _ _ c.loop-more-test.true _ _ e i.risen (omega arith) c.in_ok-aisle.ensures.within (_, _) m _ (one_shl c.in_ok-aisle.aisle 64 (omega (arith, c.in_ok-aisle.ensures.within)));
    }

pub returns-in_err-aisle : goal.returns-in_err-aisle
returns-in_err-aisle c =
    let i = c.loop-more.invariant in
    let p = err_from_is_err_and c.from_residual-in_err-aisle.result c.from_residual-in_err-aisle.ensures.1 in
    let e = rw i.same at c.in_err-aisle.ensures.value.0 in
    rw (p.1, p.2) (route_refused _ _ _ c.in_ok-more.ensures.0 _ i.risen _ (number_refused _ _ c.loop-more-test.true _ e), c.in_err-aisle.ensures.value.1 ∙ i.same)

pub returns-then-aisle-least : goal.returns-then-aisle-least
returns-then-aisle-least c =
    let i = c.loop-more.invariant in
    let e = rw i.same at c.in_ok-aisle.ensures.value.0 in
    (route_refused _ _ _ c.in_ok-more.ensures.0 _ i.risen _ (not_rising _ _ c.loop-more-test.true _ _ e c.if-aisle-least.true), c.in_ok-aisle.ensures.value.1 ∙ i.same)

pub returns-in_err-more-2 : goal.returns-in_err-more-2
returns-in_err-more-2 c =
    let i = c.loop-more.invariant in
    let p = err_from_is_err_and c.from_residual-in_err-more-2.result c.from_residual-in_err-more-2.ensures.1 in
    let e = rw i.same at c.in_ok-aisle.ensures.value.0 in
    let m = rw (c.in_ok-aisle.ensures.value.1 ∙ i.same) at c.in_err-more-2.ensures.0 in
    rw (p.1, p.2) (route_refused _ _ _ c.in_ok-more.ensures.0 _ i.risen _ (onward_refused _ _ c.loop-more-test.true _ _ e c.if-aisle-least.false _ m), c.in_err-more-2.ensures.1 ∙ (c.in_ok-aisle.ensures.value.1 ∙ i.same))

pub returns : goal.returns
returns c =
    let i = c.loop-more.invariant in
    (route_read _ _ _ c.in_ok-more.ensures.0 _ i.risen c.loop-more-test.false, i.same)
