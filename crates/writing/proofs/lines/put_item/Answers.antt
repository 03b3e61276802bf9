use Rattle.std.proofs.Common.{ap}
use Rattle.text.specs.Spelt.{item}
use Rattle.text.proofs.Laid.{writes_none, writes_as}
use Rattle.writing.proofs.lines.put_item.Goals as goal

pub returns-in_default-clause-wrote : goal.returns-in_default-clause-wrote
returns-in_default-clause-wrote c = writes_as _ (ap (item c.args.i) c.in_default.is) (writes_none c.args.sheet.now)
