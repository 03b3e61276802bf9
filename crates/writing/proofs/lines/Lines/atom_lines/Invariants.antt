use Rattle.text.specs.Spelt.{atom_line_of}
use Rattle.text.proofs.Laid.{WritesBelow}
use Rattle.writing.proofs.lines.Lines.atom_lines.Given as goal

-- the lines below this number are written
abbrev pub invariant-loop-atom : goal.invariant-loop-atom
invariant-loop-atom g l = WritesBelow l.initial.sheet (atom_line_of g.B.Stamp.Spelled.spelt (g.B.Book.meaning l.self.book.now)) 2100 l.atom l.sheet
