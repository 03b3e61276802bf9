use Rattle.std.specs.List.{slice_get}
use Rattle.books.specs.Meaning.{rule_at}
use Rattle.text.specs.Spelt.{item, body_in}
use Rattle.text.proofs.Laid.{WritesBelow}
use Rattle.writing.proofs.lines.Lines.body.Given as goal

-- the numbers below this one are written
abbrev pub invariant-loop-i : goal.invariant-loop-i
invariant-loop-i g l = WritesBelow l.initial.sheet (λ i. item i (slice_get (body_in l.sign (rule_at (g.B.Book.meaning l.self.book.now) l.rule)) i)) 21 l.i l.sheet
