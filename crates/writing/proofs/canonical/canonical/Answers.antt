use Rattle.std.proofs.Common.{◌≡◌, ℕ, List, length, take, Ok, Err, Option, Result, sym, ap}
use Rattle.books.specs.Meaning.{Meaning}
use Rattle.books.specs.declared.fault.Fault.{Fault}
use Rattle.makes.specs.Flats.{flat_meaning}
use Rattle.makes.specs.declared.rows.AtomRow.{AtomRow}
use Rattle.makes.specs.declared.rows.RuleRow.{RuleRow}
use Rattle.text.specs.Bytes.{and_then}
use Rattle.text.specs.Reads.{ReadInto}
use Rattle.text.specs.declared.counts.Counts.{Counts}
use Rattle.writing.specs.Replies.{checked_text}
use Rattle.writing.proofs.Replying.{replied_as}
use Rattle.writing.proofs.canonical.canonical.Goals as goal

-- the rows that were read mean the book of the text
taken : {S : Type 0} (a₀ a : List (AtomRow S)) (b₀ b : List (Option RuleRow)) (found : Result (Meaning S) Fault) (n : Counts) → ReadInto found (Ok n) a₀ a b₀ b → found ≡ Ok (flat_meaning (take n.atoms a) (take n.rules b))
taken a₀ a b₀ b (Err d) n h = let k = h.fault in cc
taken a₀ a b₀ b (Ok m) n h =
    let k = h.counts in
    let same : n ≡ record { atoms = length m.atoms; rules = length m.rules } = cc in
    rw (same, h.atoms.written, h.rules.written)

pub returns : goal.returns
returns g c =
    let text : Meaning g.row.S.Denot → Result (List ℕ) Fault = λ m. checked_text g.S.Spelled.spelling g.S.Spelled.spelt g.S.Order.tests m (length c.args.sheet.now) in
    let read = taken c.args.atoms.now c.read.new.atoms c.args.rules.now c.read.new.rules _ c.in_ok-counts.counts c.in_ok-counts.ensures in
    replied_as _ _ _ _ _ (sym (ap (λ r. and_then r text) read)) c.write_checked.ensures
