use Rattle.text.specs.Spelt.{rule_line_of}
use Rattle.text.proofs.Laid.{WritesBelow}
use Rattle.writing.proofs.lines.Lines.rule_lines.Given as goal

-- the lines below this number are written
abbrev pub invariant-loop-rule : goal.invariant-loop-rule
invariant-loop-rule g l = WritesBelow l.initial.sheet (rule_line_of (g.B.Book.meaning l.self.book.now)) 400 l.rule l.sheet
