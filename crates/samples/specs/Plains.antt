-- A book of equal atoms and equal rules, to stand at the limits.
use Rattle.std.specs.Prelude.{ℕ, false, replicate, Some}
use Rattle.books.specs.Meaning.{Meaning}

-- all atoms are derived with the one stamp; each rule has head 0, and atom 0 so often as positive and negative
abbrev pub plain_meaning : {S : Type 0} → S → ℕ → ℕ → ℕ → ℕ → Meaning S
plain_meaning stamp atoms rules positives negatives = record {
  atoms = replicate atoms (record { stamp = stamp; reading = false });
  rules = replicate rules (Some (record { head = 0; positives = replicate positives 0; negatives = replicate negatives 0 }));
}
