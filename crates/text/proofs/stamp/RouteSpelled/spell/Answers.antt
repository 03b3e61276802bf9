use Rattle.text.proofs.Laid.{◌then◌}
use Rattle.text.proofs.stamp.RouteSpelled.spell.Goals as goal

pub returns-clause-wrote : goal.returns-clause-wrote
returns-clause-wrote c = c.put.ensures then c.aisles.ensures.wrote then c.put-2.ensures
