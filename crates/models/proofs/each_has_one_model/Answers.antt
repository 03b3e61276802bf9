use Rattle.models.proofs.Theorems.{each_has_one_model_lem}
use Rattle.models.proofs.each_has_one_model.Goals as goal

pub returns : goal.returns
returns g c = each_has_one_model_lem g.met.O.Order.lawful
