use Rattle.std.proofs.Common.{refl}
use Rattle.text.proofs.Aisled.{no_aisle_lem}
use Rattle.text.proofs.Laid.{writes_none, writes_as}
use Rattle.text.proofs.sheet.Sheet.aisle.Goals as goal

pub returns-else-aisles-bit-eq1-clause-wrote : goal.returns-else-aisles-bit-eq1-clause-wrote
returns-else-aisles-bit-eq1-clause-wrote c = writes_as _ (no_aisle_lem c.args.aisles c.args.aisle _ c.requires.is_aisle refl c.if-aisles-bit-eq1.false) (writes_none c.args.self.now)
