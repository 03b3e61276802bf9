use Rattle.std.proofs.Common.{◌≤◌, length, ◌∙◌, arith}
use Rattle.books.proofs.First.{passed}
use Rattle.text.specs.Spelt.{book_text}
use Rattle.text.proofs.Laid.{laid_front}
use Rattle.writing.specs.Writes.{book_gap}
use Rattle.writing.proofs.Gapless.{few_everywhere}
use Rattle.writing.proofs.write.write.Goals as goal

pub invariant_of-lines-clause-few : goal.invariant_of-lines-clause-few
invariant_of-lines-clause-few g c = let m = g.B.Book.meaning c.args.book.now in few_everywhere m (passed (book_gap m) c.in_ok-check_gaps.ensures)

pub returns-clause-sheet : goal.returns-clause-sheet
returns-clause-sheet g c =
    let text = book_text g.B.Stamp.Spelled.spelling g.B.Stamp.Spelled.spelt (g.B.Book.meaning c.args.book.now) in
    let fits : length text ≤ length c.args.sheet.now = omega (arith, c.put_book-needed.ensures.place, c.if-needed-sheet.false) in
    c.put_book.ensures.held ∙ laid_front c.args.sheet.now text fits
