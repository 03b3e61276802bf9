use Rattle.text.proofs.Laid.{◌then◌}
use Rattle.text.proofs.stamp.ThenTickTickSpelled.spell.Goals as goal

pub returns-clause-wrote : goal.returns-clause-wrote
returns-clause-wrote c = c.put.ensures then c.number.ensures.wrote then c.put-2.ensures then c.number-2.ensures.wrote then c.put-3.ensures
