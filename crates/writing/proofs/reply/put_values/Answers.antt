use Rattle.std.proofs.Common.{ap}
use Rattle.writing.specs.Replies.{values_text}
use Rattle.text.proofs.Laid.{◌then◌, writes_as}
use Rattle.writing.proofs.reply.put_values.Goals as goal

pub returns-in-RuleLiteral-clause-wrote : goal.returns-in-RuleLiteral-clause-wrote
returns-in-RuleLiteral-clause-wrote c =
    writes_as _ (ap values_text c.in-RuleLiteral.is)
    (c.number-in-RuleLiteral.ensures.wrote then c.put.ensures then c.number-in-RuleLiteral-2.ensures.wrote)
