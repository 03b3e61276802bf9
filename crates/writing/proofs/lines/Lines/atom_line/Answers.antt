use Rattle.std.proofs.Common.{sym, ◌∙◌}
use Rattle.std.specs.List.{slice_get}
use Rattle.text.specs.Spelt.{kind_text}
use Rattle.text.proofs.Laid.{writes_none, ◌then◌, writes_as}
use Rattle.writing.proofs.Lined.{atom_text_lem, no_atom_lem}
use Rattle.writing.proofs.lines.Lines.atom_line.Goals as goal

pub returns-clause-wrote : goal.returns-clause-wrote
returns-clause-wrote g c =
    let a = c.in-Some-Some in
    let o = slice_get (g.B.Book.meaning c.args.self.now.book.now).atoms c.args.atom in
    let kind = writes_as (kind_text a.reading) (sym c.kind_word.ensures.value) c.put-2.ensures in
    writes_as _ (atom_text_lem g.B.Stamp.Spelled.spelt c.args.atom o a.stamp a.reading a.ensures a.ensures')
    (c.put.ensures then c.number.ensures.wrote then kind then c.spell.ensures.wrote then c.put-3.ensures)

pub returns-in_default-2-clause-wrote : goal.returns-in_default-2-clause-wrote
returns-in_default-2-clause-wrote g c =
    let o = slice_get (g.B.Book.meaning c.args.self.now.book.now).atoms c.args.atom in
    writes_as _ (no_atom_lem g.B.Stamp.Spelled.spelt c.args.atom o _ (sym c.in_default.is-0 ∙ c.stamp.ensures)) (writes_none c.args.sheet.now)
