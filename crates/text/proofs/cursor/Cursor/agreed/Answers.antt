use Rattle.std.proofs.Common.{get_or, Some, sym, ap, ◌∙◌}
use Rattle.std.proofs.lemmas.Bool.{ne_eqb}
use Rattle.std.proofs.lemmas.List.{at_drop_all}
use Rattle.std.proofs.lemmas.Option.{slice_get-get_or, slice_get_past}
use Rattle.text.specs.Words.{agrees_to, is_byte}
use Rattle.text.proofs.Worded.{agrees_more, agrees_no_more}
use Rattle.text.proofs.cursor.Cursor.agreed.Goals as goal

pub returns-in_default : goal.returns-in_default
returns-in_default c =
    let l = c.loop-byte in
    let byte = get_or c.args.word.now l.byte-index 0 in
    let there = c.in-Some.ensures.lookup.3 in
    let found = ap Some (there.1 0) ∙ sym (slice_get-get_or c.args.self.now.text.now l.next 0 there.0) in
    agrees_no_more c.args.word.now c.args.self.now.text.now l.next l.byte-index c.loop-byte-test.true (ap (is_byte byte) (sym found) ∙ ne_eqb c.in-Some.found.now byte c.if-found-byte.false) ∙ l.invariant

pub returns-in_default-2 : goal.returns-in_default-2
returns-in_default-2 c =
    let l = c.loop-byte in
    let past = rw c.in_default.is at c.get.ensures.lookup in
    agrees_no_more c.args.word.now c.args.self.now.text.now l.next l.byte-index c.loop-byte-test.true (ap (is_byte (get_or c.args.word.now l.byte-index 0)) (slice_get_past c.args.self.now.text.now l.next past.3)) ∙ l.invariant

pub loop-byte-preserved : goal.loop-byte-preserved
loop-byte-preserved c =
    let l = c.loop-byte in
    let there = c.in-Some.ensures.lookup.3 in
    let found = ap Some (there.1 0) ∙ sym (slice_get-get_or c.args.self.now.text.now l.next 0 there.0) in
    sym (agrees_more c.args.word.now c.args.self.now.text.now l.next l.byte-index c.loop-byte-test.true (ap Some (sym c.if-found-byte.true) ∙ found)) ∙ l.invariant

pub returns : goal.returns
unfolding agrees_to
returns c =
    let l = c.loop-byte in
    sym (at_drop_all (λ w. agrees_to w c.args.self.now.text.now l.next) c.args.word.now l.byte-index c.loop-byte-test.false) ∙ l.invariant
