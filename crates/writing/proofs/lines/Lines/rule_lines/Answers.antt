use Rattle.text.proofs.Laid.{writes_start, writes_more}
use Rattle.writing.proofs.lines.Lines.rule_lines.Goals as goal

pub loop-rule-init : goal.loop-rule-init
loop-rule-init g c = writes_start _ _ _

pub loop-rule-preserved : goal.loop-rule-preserved
loop-rule-preserved g c = writes_more _ _ _ _ _ c.loop-rule.rule c.loop-rule.invariant c.rule_line.ensures.wrote c.rule_line.ensures.short
