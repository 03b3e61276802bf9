-- The answer of a reader, once both passes are done.
use Rattle.std.proofs.Common.{◌≡◌, ℕ, List, length, take, Ok, Err, Option, Result, sym, refl, ap, ◌∙◌, subst, arith}
use Rattle.std.proofs.lemmas.List.{length-map, length-take-le}
use Rattle.std.specs.Option.{option_map}
use Rattle.books.specs.Meaning.{Meaning}
use Rattle.books.specs.declared.fault.Fault.{Fault}
use Rattle.makes.specs.Flats.{atom_of, rule_of}
use Rattle.makes.specs.declared.rows.AtomRow.{AtomRow}
use Rattle.makes.specs.declared.rows.RuleRow.{RuleRow}
use Rattle.text.specs.Reads.{Progress, progress_at, survey_at, book_at, Rows, Held, Accepted, ReadInto}
use Rattle.text.specs.declared.counts.Counts.{Counts}
use Rattle.text.specs.declared.reader.Reader.{Reader}
use Rattle.text.proofs.Surveyed.{survey_of, book_of, survey_is, book_is, book_accepted, book_refused, no_fault}

-- so many rows are written as there are things that they mean
rows_count : {R M : Type 0} (meant : R → M) (n : ℕ) (ms : List M) (was rows : List R) → Rows meant n ms was rows → n ≡ length ms
rows_count meant n ms was rows h = sym (sym (ap length h.written) ∙ length-map (take n rows) meant ∙ length-take-le n rows h.within)

all_rows : {R M : Type 0} (meant : R → M) (n : ℕ) (ms : List M) (was rows : List R) → Rows meant n ms was rows → Rows meant (length ms) ms was rows
all_rows meant n ms was rows h = subst (λ k. Rows meant k ms was rows) (rows_count meant n ms was rows h) h

into_refused : {S : Type 0} (m : Result (Meaning S) Fault) (e : Fault) (answer : Result Counts Fault) (a : List (AtomRow S)) (b : List (Option RuleRow)) → Err e ≡ m → answer ≡ Err e → ReadInto m answer a a b b
into_refused (Ok m) e answer a b h k = let z : ◌≡◌ {A = ℕ} 0 1 = cc in absurd (omega arith)
into_refused (Err d) e answer a b h k = let same : e ≡ d = cc in record { fault = k ∙ ap Err same; atoms = refl; rules = refl }

module _ {S : Type 0} (stamp_at : List ℕ → ℕ → Result (S × ℕ) Fault) (spelling : List ℕ) (text : List ℕ) (room : Counts) where
  pub verdict_refused : (e : Fault) (answer : Result Counts Fault) (a : List (AtomRow S)) (b : List (Option RuleRow)) → Err e ≡ survey_at stamp_at spelling text room → answer ≡ Err e → ReadInto (book_at stamp_at spelling text room) answer a a b b
  verdict_refused e answer a b h k =
      into_refused (book_at stamp_at spelling text room) e answer a b
      (book_refused (length text) (progress_at stamp_at spelling text room) e (h ∙ survey_is stamp_at spelling text room) ∙ sym (book_is stamp_at spelling text room)) k

  pub verdict_none : (r : Reader) (e : Fault) → Ok r ≡ survey_at stamp_at spelling text room → Err e ≡ progress_at stamp_at spelling text room → ⊥
  verdict_none r e h k = no_fault (length text) (progress_at stamp_at spelling text room) r e k (h ∙ survey_is stamp_at spelling text room)

  pub verdict_accepted : (r : Reader) (a₀ a : List (AtomRow S)) (b₀ b : List (Option RuleRow)) → Ok r ≡ survey_at stamp_at spelling text room → (s : Progress S) → Ok s ≡ progress_at stamp_at spelling text room → Held s a₀ a b₀ b → ReadInto (book_at stamp_at spelling text room) (Ok (record { atoms = r.atoms; rules = r.rules })) a₀ a b₀ b
  verdict_accepted r a₀ a b₀ b h s k held =
      let n = length text in
      let p = book_accepted n s r (h ∙ survey_is stamp_at spelling text room ∙ ap (survey_of n) (sym k)) in
      let atoms = ap (λ (r : Reader). r.atoms) p.0 ∙ rows_count atom_of s.reader.atoms s.atoms a₀ a held.atoms in
      let rules = ap (λ (r : Reader). r.rules) p.0 ∙ rows_count (option_map rule_of) s.reader.rules s.rules b₀ b held.rules in
      let m : Meaning S = record { atoms = s.atoms; rules = s.rules } in
      let found : book_at stamp_at spelling text room ≡ Ok m = book_is stamp_at spelling text room ∙ ap (book_of n) (sym k) ∙ p.1 in
      let ok : Accepted m (Ok (record { atoms = r.atoms; rules = r.rules })) a₀ a b₀ b =
      record {
        counts = cc;
        atoms = all_rows atom_of s.reader.atoms s.atoms a₀ a held.atoms;
        rules = all_rows (option_map rule_of) s.reader.rules s.rules b₀ b held.rules;
      } in
      subst (λ x. ReadInto x (Ok (record { atoms = r.atoms; rules = r.rules })) a₀ a b₀ b) (sym found) ok
