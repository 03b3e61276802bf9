use Rattle.writing.proofs.Replying.{wrote_found}
use Rattle.writing.proofs.reply.reply.Goals as goal

pub returns-in-Ok : goal.returns-in-Ok
returns-in-Ok c = wrote_found _ _ _ _ c.in-Ok.ensures
