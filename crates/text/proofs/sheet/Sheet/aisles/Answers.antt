use Rattle.text.proofs.Laid.{writes_start, writes_more}
use Rattle.text.proofs.sheet.Sheet.aisles.Goals as goal

pub loop-aisle-init : goal.loop-aisle-init
loop-aisle-init c = writes_start _ _ _

pub loop-aisle-preserved : goal.loop-aisle-preserved
loop-aisle-preserved c = writes_more _ _ _ _ _ c.loop-aisle.aisle c.loop-aisle.invariant c.aisle.ensures.wrote c.aisle.ensures.short
