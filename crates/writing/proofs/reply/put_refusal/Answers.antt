use Rattle.std.proofs.Common.{rules}
use Rattle.text.proofs.Laid.{◌then◌}
use Rattle.writing.proofs.reply.put_refusal.Goals as goal

pub returns : goal.returns
returns c =
    let w = c.put.ensures then c.number.ensures.wrote then c.put-2.ensures then c.put_values.ensures.wrote then c.put-3.ensures in
    search rules
