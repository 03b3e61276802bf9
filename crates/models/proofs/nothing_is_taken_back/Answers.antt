use Rattle.models.proofs.Theorems.{open_may_come, nothing_taken_back}
use Rattle.models.proofs.nothing_is_taken_back.Goals as goal

pub returns : goal.returns
returns g c = record { possible = open_may_come g.met.O.Order.lawful; told = nothing_taken_back g.met.O.Order.lawful }
