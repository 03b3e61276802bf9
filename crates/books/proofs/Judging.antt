-- What the check meets in one rule, against what the rule is to be.
use Rattle.std.proofs.Common.{◌≡◌, ℕ, ◌+◌, ◌-◌, ◌*◌, ◌<◌, ◌≤◌, true, false, ◌||◌, ltb, ◌⊎◌, length, Some, None, Option, sym, refl, ap, ◌∙◌, subst, inl, inr, arith, length-append}
use Rattle.std.specs.Bool.{IsTrue}
use Rattle.std.specs.List.{slice_get}
use Rattle.std.proofs.iter.runs.Lists.{nth_left, nth_right}
use Rattle.std.proofs.lemmas.Option.{slice_get_within, slice_get_past, slice_get_cases}
use Rattle.std.proofs.lemmas.Bool.{cases_lt, cases_Bool}
use Rattle.std.proofs.lemmas.Bool.Decides.{nat_tests}
use Rattle.stamps.specs.Orders.{Tests}
use Rattle.books.specs.Meaning.{Rule, Atom, Meaning, rule_at, literals, stamp_of}
use Rattle.books.specs.Check.{literal_fault, head_fault, rule_fault}
use Rattle.books.specs.Judged.{relates, SoundRule, Breaks, rule_of, step_of, of_counts}
use Rattle.books.specs.declared.fault.CheckFault.{CheckFault}
use Rattle.books.specs.declared.fault.CheckFault.TheVariants.{TooLarge, BodyTooLong, HeadMissing, HeadIsReading, LiteralMissing, PositiveOutOfOrder, NegativeOutOfOrder}
use Rattle.books.proofs.First.{first_at, first_none, first_all, first_upto}
use Rattle.books.proofs.Places.{all_slice_get, slice_get_all}

-- the fault is one that the book has, in rule k
abbrev pub Told : {S : Type 0} → Tests S → Meaning S → ℕ → CheckFault → Type 0
Told tests m k f = Breaks tests m f × (of_counts f ≡ false) × (rule_of f ≡ k)

-- the check meets a fault in rule k, at that step of the rule or before
abbrev pub Met : {S : Type 0} → Tests S → Meaning S → ℕ → ℕ → Type 0
Met tests m k n = (f : CheckFault) × (rule_fault tests m k ≡ Some f) × (step_of f ≤ n)

module _ {S : Type 0} (tests : Tests S) (m : Meaning S) (k : ℕ) (r : Rule) (at : rule_at m k ≡ Some r) where
  abbrev p : ℕ
  p = length r.positives

  abbrev count : ℕ
  count = p + length r.negatives

  abbrev fault_at : S → ℕ → Option CheckFault
  fault_at = literal_fault tests m k p

  literal_told : (h : S) → stamp_of m r.head ≡ Some h → (i : ℕ) (f : CheckFault) → fault_at h i ≡ Some f → Told tests m k f
  literal_told h headed i f e = by_atom (slice_get (literals r) i) refl
    where
      by_stamp : (a : ℕ) → slice_get (literals r) i ≡ Some a → (o : Option S) → stamp_of m a ≡ o → Told tests m k f
      by_stamp a found None gone =
          let is : LiteralMissing k (i + 1) ≡ f = grind (arith, nat_tests) in
          subst (Told tests m k) is ((r, at, (i, refl, (a, found, grind (arith, slice_get_cases)))), refl, refl)
      by_stamp a found (Some s) there = elim (cases_lt i p) [
        | inl below ↦
            let is : PositiveOutOfOrder k (i + 1) ≡ f = grind (arith, nat_tests) in
            subst (Told tests m k) is ((r, at, (i, refl, (a, found, (below, (s, h, there, headed, grind (arith, nat_tests)))))), refl, refl)
        | inr past ↦
            let is : NegativeOutOfOrder k (i + 1) ≡ f = grind (arith, nat_tests) in
            subst (Told tests m k) is ((r, at, (i, refl, (a, found, (past, (s, h, there, headed, grind (arith, nat_tests)))))), refl, refl)
      ]

      by_atom : (o : Option ℕ) → slice_get (literals r) i ≡ o → Told tests m k f
      by_atom None gone = absurd (grind arith)
      by_atom (Some a) found = by_stamp a found (stamp_of m a) refl

  -- a fault that the check meets is one that the book has
  pub told : (f : CheckFault) → rule_fault tests m k ≡ Some f → Told tests m k f
  told f e = elim (cases_Bool (ltb 6 p || ltb 6 (length r.negatives))) [
    | inl long ↦ let is : BodyTooLong k ≡ f = grind arith in subst (Told tests m k) is ((r, at, grind (arith, nat_tests)), refl, refl)
    | inr short ↦ by_head (slice_get m.atoms r.head) refl short
  ]
    where
      by_head : (o : Option (Atom S)) → slice_get m.atoms r.head ≡ o → (ltb 6 p || ltb 6 (length r.negatives)) ≡ false → Told tests m k f
      by_head None gone short =
          let is : HeadMissing k ≡ f = grind arith in
          subst (Told tests m k) is ((r, at, grind (arith, slice_get_cases)), refl, refl)
      by_head (Some x) here short = elim (cases_Bool x.reading) [
        | inl reading ↦ let is : HeadIsReading k ≡ f = grind arith in subst (Told tests m k) is ((r, at, grind arith), refl, refl)
        | inr derived ↦ let w = first_at (fault_at x.stamp) count f (grind arith) in literal_told x.stamp (grind arith) w.0 f w.2
      ]

  -- a rule in which the check meets nothing is sound
  pub none_sound : rule_fault tests m k ≡ None → SoundRule tests m r
  none_sound e = by_head (slice_get m.atoms r.head) refl
    where
      by_head : (o : Option (Atom S)) → slice_get m.atoms r.head ≡ o → SoundRule tests m r
      by_head None gone = absurd (grind arith)
      by_head (Some x) here =
          let none = first_none (fault_at x.stamp) count (grind arith) in
          record {
            few_positives = grind (arith, nat_tests);
            few_negatives = grind (arith, nat_tests);
            derived = grind arith;
            positives = all_slice_get (λ a. IsTrue (relates tests.not_after m a r.head)) r.positives (λ i a at_i.
                let l = slice_get_within r.positives i a at_i in
                let found = nth_left r.positives r.negatives i l in
                let clear = none i (omega arith) in
                grind (arith, nat_tests));
            negatives = all_slice_get (λ a. IsTrue (relates tests.before m a r.head)) r.negatives (λ i a at_i.
                let l = slice_get_within r.negatives i a at_i in
                let found = nth_right r.positives r.negatives i in
                let clear = none (p + i) (omega arith) in
                grind (arith, nat_tests));
          }

  literal_clear : SoundRule tests m r → (h : S) → stamp_of m r.head ≡ Some h → (i : ℕ) → fault_at h i ≡ None
  literal_clear s h headed i = by_atom (slice_get (literals r) i) refl
    where
      by_atom : (o : Option ℕ) → slice_get (literals r) i ≡ o → fault_at h i ≡ None
      by_atom None gone = grind arith
      by_atom (Some a) found = elim (cases_lt i p) [
        | inl below ↦
            let fits = slice_get_all (λ b. IsTrue (relates tests.not_after m b r.head)) r.positives s.positives i a (sym (nth_left r.positives r.negatives i below) ∙ found) in
            grind (arith, nat_tests)
        | inr past ↦
            let j : i ≡ p + (i - p) = omega arith in
            let fits = slice_get_all (λ b. IsTrue (relates tests.before m b r.head)) r.negatives s.negatives (i - p) a (sym (ap (slice_get (literals r)) j ∙ nth_right r.positives r.negatives (i - p)) ∙ found) in
            grind (arith, nat_tests)
      ]

  -- and in a sound rule it meets nothing
  pub sound_none : SoundRule tests m r → rule_fault tests m k ≡ None
  sound_none s = by_head (slice_get m.atoms r.head) refl
    where
      by_head : (o : Option (Atom S)) → slice_get m.atoms r.head ≡ o → rule_fault tests m k ≡ None
      by_head None gone = let derived = s.derived in absurd (grind arith)
      by_head (Some x) here =
          let none = first_all (fault_at x.stamp) count (λ i _. literal_clear s x.stamp (grind arith) i) in
          grind (arith, nat_tests, s.few_positives, s.few_negatives, s.derived)

  -- past the lengths, it meets what it meets from the head on
  past_lengths : (n : ℕ) (f : CheckFault) → head_fault tests m k p (length r.negatives) (slice_get m.atoms r.head) ≡ Some f → step_of f ≤ n → Met tests m k n
  past_lengths n f e l = elim (cases_Bool (ltb 6 p || ltb 6 (length r.negatives))) [
    | inl long ↦ (BodyTooLong k, grind arith, omega arith)
    | inr short ↦ (f, grind arith, l)
  ]

  step_at : (h : S) (i : ℕ) (f : CheckFault) → fault_at h i ≡ Some f → step_of f ≤ 2 * i + 4
  step_at h i f e = grind (arith, nat_tests)

  -- past the head, it meets what it meets in the literals
  past_head : (i a : ℕ) (g : CheckFault) → 2 * i + 2 < step_of g → slice_get (literals r) i ≡ Some a → ((x : Atom S) → slice_get m.atoms r.head ≡ Some x → fault_at x.stamp i ≡ Some g) → Met tests m k (step_of g)
  past_head i a g late found fault = by_head (slice_get m.atoms r.head) refl
    where
      by_head : (o : Option (Atom S)) → slice_get m.atoms r.head ≡ o → Met tests m k (step_of g)
      by_head None gone = past_lengths (step_of g) (HeadMissing k) (grind arith) (omega arith)
      by_head (Some x) here = elim (cases_Bool x.reading) [
        | inl reading ↦ past_lengths (step_of g) (HeadIsReading k) (grind arith) (omega arith)
        | inr derived ↦
            let l = slice_get_within (literals r) i a found in
            let this = fault x here in
            let w = first_upto (fault_at x.stamp) i count g this (omega (arith, length-append {A = ℕ})) in
            let before : step_of w.1 ≤ step_of g = elim (cases_lt w.0 i) [
              | inl below ↦ (let step = step_at x.stamp w.0 w.1 w.3 in omega arith)
              | inr past ↦ (let same : w.0 ≡ i = omega (arith, w.2) in grind (arith, w.3))
            ] in
            past_lengths (step_of g) w.1 (grind (arith, w.4)) before
      ]

module _ {S : Type 0} (tests : Tests S) (m : Meaning S) where
  -- a fault that the book has is of its counts, or the check meets it or one that is looked for before it
  pub caught : (g : CheckFault) → Breaks tests m g → ((ltb 1024 (length m.atoms) || ltb 1024 (length m.rules)) ≡ true) ⊎ ((of_counts g ≡ false) × Met tests m (rule_of g) (step_of g))
  caught TooLarge b = inl (grind (arith, nat_tests))
  caught (BodyTooLong k) (r, at, long) = inr (refl, (BodyTooLong k, grind (arith, nat_tests), omega arith))
  caught (HeadMissing k) (r, at, past) = inr (refl, past_lengths tests m k r at 1 (HeadMissing k) (grind (arith, slice_get_past)) (omega arith))
  caught (HeadIsReading k) (r, at, reading) = inr (refl, past_lengths tests m k r at 2 (HeadIsReading k) (grind arith) (omega arith))
  caught (LiteralMissing k l) (r, at, (i, is, (a, found, past))) =
      inr (refl, past_head tests m k r at i a (LiteralMissing k l) (omega arith) found (λ x here. grind (arith, slice_get_past, nat_tests)))
  caught (PositiveOutOfOrder k l) (r, at, (i, is, (a, found, (below, fails)))) =
      inr (refl, past_head tests m k r at i a (PositiveOutOfOrder k l) (omega arith) found (λ x here. grind (arith, nat_tests, fails)))
  caught (NegativeOutOfOrder k l) (r, at, (i, is, (a, found, (past, fails)))) =
      inr (refl, past_head tests m k r at i a (NegativeOutOfOrder k l) (omega arith) found (λ x here. grind (arith, nat_tests, fails)))
