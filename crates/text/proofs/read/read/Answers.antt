use Rattle.std.proofs.Common.{Ok, Err, ap, ◌∙◌, subst}
use Rattle.std.proofs.lemmas.Result.{err_from_is_err_and}
use Rattle.text.specs.Reads.{book_at, ReadInto}
use Rattle.text.proofs.Verdict.{verdict_refused, verdict_none, verdict_accepted}
use Rattle.text.proofs.read.read.Goals as goal

pub returns-in_err-reader : goal.returns-in_err-reader
returns-in_err-reader g c =
    let p = err_from_is_err_and c.from_residual.result c.from_residual.ensures.1 in
    let text = c.args.text.now in
    subst (λ room. ReadInto (book_at g.S.Spelled.stamp_at g.S.Spelled.spelling text room) c.from_residual.result c.args.atoms.now c.args.atoms.now c.args.rules.now c.args.rules.now) c.room_of-room.ensures
    (verdict_refused g.S.Spelled.stamp_at g.S.Spelled.spelling text c.room_of-room.result _ c.from_residual.result c.args.atoms.now c.args.rules.now c.in_err-reader.ensures (p.1 ∙ ap Err p.2))

pub returns-in_err-fill : goal.returns-in_err-fill
returns-in_err-fill g c =
    absurd (verdict_none g.S.Spelled.stamp_at g.S.Spelled.spelling c.args.text.now c.room_of-room.result c.in_ok-reader.reader _ c.in_ok-reader.ensures c.in_err-fill.ensures)

pub returns : goal.returns
returns g c =
    let f = c.in_ok-fill.ensures in
    subst (λ room. ReadInto (book_at g.S.Spelled.stamp_at g.S.Spelled.spelling c.args.text.now room) (Ok (record { atoms = c.in_ok-reader.reader.atoms; rules = c.in_ok-reader.reader.rules })) c.args.atoms.now c.fill.new.atoms c.args.rules.now c.fill.new.rules) c.room_of-room.ensures
    (verdict_accepted g.S.Spelled.stamp_at g.S.Spelled.spelling c.args.text.now c.room_of-room.result c.in_ok-reader.reader c.args.atoms.now _ c.args.rules.now _ c.in_ok-reader.ensures f.0 f.1 f.2)
