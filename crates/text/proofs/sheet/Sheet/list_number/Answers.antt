use Rattle.text.proofs.Laid.{◌then◌}
use Rattle.text.proofs.sheet.Sheet.list_number.Goals as goal
use Rattle.text.proofs.sheet.Sheet.list_number.Goals.{then-not-first, else-not-first}

pub returns-clause-wrote : goal.returns-clause-wrote
returns-clause-wrote c =
    elim c.if-not-first.branch [
      | then-not-first w ↦ let k = rw w.self-is at c.number.ensures.wrote in rw w.if-not-first.true (w.put.ensures then k)
      | else-not-first w ↦ let k = rw w.self-is at c.number.ensures.wrote in rw w.if-not-first.false k
    ]
