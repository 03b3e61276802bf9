use Rattle.std.proofs.Common.{sym, ◌∙◌}
use Rattle.std.proofs.lemmas.List.{at_drop_all}
use Rattle.std.proofs.lemmas.Result.{err_from_is_err_and}
use Rattle.text.specs.Words.{pass_word}
use Rattle.text.proofs.Worded.{passes_more}
use Rattle.text.proofs.cursor.Cursor.word.Goals as goal

pub loop-byte-preserved : goal.loop-byte-preserved
loop-byte-preserved c =
    let l = c.loop-byte in
    let e = rw l.invariant.same at c.in_ok-pass.ensures.0 in
    record {
      same = c.in_ok-pass.ensures.1 ∙ l.invariant.same;
      left = sym (passes_more c.args.word.now c.args.self.now.text.now l.self.at l.byte-index c.loop-byte-test.true _ e) ∙ l.invariant.left;
    }

pub returns-in_err-pass : goal.returns-in_err-pass
returns-in_err-pass c =
    let l = c.loop-byte in
    let p = err_from_is_err_and c.from_residual.result c.from_residual.ensures.1 in
    let e = rw l.invariant.same at c.in_err-pass.ensures.0 in
    rw (p.1, p.2) (sym (passes_more c.args.word.now c.args.self.now.text.now l.self.at l.byte-index c.loop-byte-test.true _ e) ∙ l.invariant.left, c.in_err-pass.ensures.1 ∙ l.invariant.same)

pub returns : goal.returns
unfolding pass_word
returns c =
    let l = c.loop-byte in
    (sym (at_drop_all (λ w. pass_word w c.args.self.now.text.now l.self.at) c.args.word.now l.byte-index c.loop-byte-test.false) ∙ l.invariant.left, l.invariant.same)
