use Rattle.std.proofs.Common.{ℕ, ◌+◌, List, get_or, drop, sym, ap, ◌∙◌, arith}
use Rattle.std.proofs.lemmas.List.{set_past}
use Rattle.text.specs.Written.{laid}
use Rattle.text.proofs.Laid.{laid_more, laid_all}
use Rattle.text.proofs.sheet.Sheet.put.Goals as goal
use Rattle.text.proofs.sheet.Sheet.put.Goals.{then-self, else-self}

pub loop-byte-preserved : goal.loop-byte-preserved
loop-byte-preserved c =
    let l = c.loop-byte in
    let bytes = c.args.bytes.now in
    let more = laid_more l.self.bytes.now bytes l.self.at l.byte-index c.loop-byte-test.true in
    let after : List ℕ → List ℕ = λ s. laid s (l.self.at + 1) (drop (l.byte-index + 1) bytes) in
    elim c.if-self.branch [
      | then-self w ↦ rw w.self-is (record { held = sym more ∙ l.invariant.held; place = omega arith; same = l.invariant.same })
      | else-self w ↦ rw w.self-is (record { held = ap after (sym (set_past l.self.bytes.now l.self.at (get_or bytes l.byte-index 0) w.if-self.false)) ∙ sym more ∙ l.invariant.held; place = omega arith; same = l.invariant.same })
    ]

pub returns : goal.returns
returns c =
    let l = c.loop-byte in
    let bytes = c.args.bytes.now in
    record {
      wrote = record { held = sym (laid_all l.self.bytes.now bytes l.self.at l.byte-index c.loop-byte-test.false) ∙ l.invariant.held; place = omega arith };
      same = l.invariant.same;
    }
