use Rattle.std.proofs.Common.{◌≡◌, length, sym, ap, ◌∙◌, arith}
use Rattle.std.specs.List.{slice_get}
use Rattle.books.specs.Meaning.{rule_at}
use Rattle.text.specs.Spelt.{item, body_in}
use Rattle.text.proofs.Laid.{writes_start, ◌then◌, writes_more, writes_as}
use Rattle.writing.proofs.Lined.{atom_in_body}
use Rattle.writing.proofs.lines.Lines.body.Goals as goal

pub loop-i-init : goal.loop-i-init
loop-i-init g c = writes_start _ _ _

pub loop-i-preserved : goal.loop-i-preserved
loop-i-preserved g c =
    let i = c.loop-i.i in
    let o = rule_at (g.B.Book.meaning c.args.self.now.book.now) c.args.rule in
    let xs = body_in c.args.sign o in
    let atom = c.body_atom.ensures ∙ atom_in_body c.args.sign o i in
    writes_more _ _ _ (λ k. item k (slice_get xs k)) _ i c.loop-i.invariant (writes_as _ (sym (ap (item i) atom)) c.put_item.ensures.wrote) c.put_item.ensures.short

pub returns-clause-wrote : goal.returns-clause-wrote
returns-clause-wrote g c =
    let done : c.loop-i.i ≡ length (body_in c.args.sign (rule_at (g.B.Book.meaning c.args.self.now.book.now) c.args.rule)) = omega arith in
    let items = rw done at c.loop-i.invariant.written in
    c.put.ensures then items then c.put-2.ensures
