use Rattle.makes.proofs.Striking.{stands_over}
use Rattle.makes.proofs.struck.Struck.is_struck.Goals as goal

pub returns-clause-stands : goal.returns-clause-stands
returns-clause-stands g c = stands_over _ _ _
