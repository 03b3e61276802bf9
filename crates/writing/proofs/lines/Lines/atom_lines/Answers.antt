use Rattle.text.proofs.Laid.{writes_start, writes_more}
use Rattle.writing.proofs.lines.Lines.atom_lines.Goals as goal

pub loop-atom-init : goal.loop-atom-init
loop-atom-init g c = writes_start _ _ _

pub loop-atom-preserved : goal.loop-atom-preserved
loop-atom-preserved g c = writes_more _ _ _ _ _ c.loop-atom.atom c.loop-atom.invariant c.atom_line.ensures.wrote c.atom_line.ensures.short
