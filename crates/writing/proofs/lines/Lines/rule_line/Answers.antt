use Rattle.books.specs.Meaning.{rule_at}
use Rattle.text.proofs.Laid.{◌then◌, writes_as}
use Rattle.writing.proofs.Lined.{rule_text_lem}
use Rattle.writing.proofs.lines.Lines.rule_line.Goals as goal

pub returns-clause-wrote : goal.returns-clause-wrote
returns-clause-wrote g c =
    let o = rule_at (g.B.Book.meaning c.args.self.now.book.now) c.args.rule in
    writes_as _ (rule_text_lem c.args.rule o c.in-Some.head c.in-Some.ensures)
    (c.put.ensures then c.number.ensures.wrote then c.put-2.ensures then c.number-2.ensures.wrote then c.put-3.ensures then c.body.ensures.wrote then c.put-4.ensures then c.body-2.ensures.wrote then c.put-5.ensures)
