use Rattle.text.proofs.Laid.{◌then◌}
use Rattle.writing.proofs.lines.put_void_line.Goals as goal

pub returns-clause-wrote : goal.returns-clause-wrote
returns-clause-wrote c = c.put.ensures then c.number.ensures.wrote then c.put-2.ensures
