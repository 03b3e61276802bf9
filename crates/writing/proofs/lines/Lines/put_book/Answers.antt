use Rattle.std.proofs.Common.{sym, rules}
use Rattle.text.specs.Spelt.{book_text}
use Rattle.text.proofs.Laid.{◌then◌, writes_as}
use Rattle.writing.proofs.lines.Lines.put_book.Goals as goal

pub returns : goal.returns
unfolding book_text
returns g c =
    let word = writes_as g.B.Stamp.Spelled.spelling (sym c.word.ensures.value) c.put-2.ensures in
    let w = c.put.ensures then word then c.put-3.ensures then c.atom_lines.ensures.wrote then c.rule_lines.ensures.wrote then c.put-4.ensures in
    search rules
