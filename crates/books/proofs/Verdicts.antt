-- The check's verdict on a whole book: it accepts exactly the sound ones, and a refusal names the first fault.
use Rattle.std.proofs.Common.{◌≡◌, ℕ, false, ◌||◌, ltb, length, Some, None, Option, Result, refl, subst, inl, inr, arith}
use Rattle.std.proofs.lemmas.Option.{slice_get_past}
use Rattle.std.proofs.lemmas.Bool.{cases_lt, cases_Bool}
use Rattle.std.proofs.lemmas.Bool.Decides.{nat_tests}
use Rattle.stamps.specs.Orders.{Tests}
use Rattle.books.specs.Meaning.{Rule, Meaning, rule_at}
use Rattle.books.specs.Check.{first_below, rule_fault, book_fault, unless}
use Rattle.books.specs.Judged.{Sound, Breaks, Precedes, rule_of, Judged}
use Rattle.books.specs.declared.fault.CheckFault.{CheckFault}
use Rattle.books.specs.declared.fault.CheckFault.TheVariants.{TooLarge}
use Rattle.books.specs.declared.fault.Fault.{Fault}
use Rattle.books.proofs.First.{first_at, first_none, first_all}
use Rattle.books.proofs.Judging.{Told, told, none_sound, sound_none, caught}

module _ {S : Type 0} (tests : Tests S) (m : Meaning S) where
  each_none : book_fault tests m ≡ None → (k : ℕ) → rule_fault tests m k ≡ None
  each_none e k = elim (cases_lt k (length m.rules)) [
    | inl below ↦ first_none (rule_fault tests m) (length m.rules) (grind arith) k below
    | inr past ↦ grind (arith, slice_get_past)
  ]

  none_accepted : book_fault tests m ≡ None → Sound tests m
  none_accepted e = record {
    few_atoms = grind (arith, nat_tests);
    few_rules = grind (arith, nat_tests);
    rules = λ k r at. none_sound tests m k r at (each_none e k);
  }

  sound_rule : Sound tests m → (k : ℕ) → rule_fault tests m k ≡ None
  sound_rule s k = by (rule_at m k) refl
    where
      by : (o : Option Rule) → rule_at m k ≡ o → rule_fault tests m k ≡ None
      by None vacant = grind arith
      by (Some r) at = sound_none tests m k r at (s.rules k r at)

  sound_accepted : Sound tests m → book_fault tests m ≡ None
  sound_accepted s =
      let none = first_all (rule_fault tests m) (length m.rules) (λ k _. sound_rule s k) in
      grind (arith, nat_tests, s.few_atoms, s.few_rules)

  -- a sound book has no fault
  sound_unbroken : Sound tests m → (g : CheckFault) → Breaks tests m g → ⊥
  sound_unbroken s g b = elim (caught tests m g b) [
    | inl large ↦ absurd (grind (arith, nat_tests, s.few_atoms, s.few_rules))
    | inr w ↦ (let none = sound_rule s (rule_of g) in absurd (grind (arith, w.1.1)))
  ]

  rule_told : (k : ℕ) (f : CheckFault) → rule_fault tests m k ≡ Some f → Told tests m k f
  rule_told k f e = by (rule_at m k) refl
    where
      by : (o : Option Rule) → rule_at m k ≡ o → Told tests m k f
      by None vacant = absurd (grind arith)
      by (Some r) at = told tests m k r at f e

  -- in a book within the limits, no fault is there that is looked for before the one that is met
  none_before : (ltb 1024 (length m.atoms) || ltb 1024 (length m.rules)) ≡ false → (k : ℕ) (f : CheckFault) → rule_fault tests m k ≡ Some f → rule_of f ≡ k → first_below k (rule_fault tests m) ≡ None → (g : CheckFault) → Precedes g f → Breaks tests m g → ⊥
  none_before small k f met is clear g before b = elim (caught tests m g b) [
    | inl large ↦ absurd (grind arith)
    | inr w ↦ elim before.1 [
      | inl counts ↦ absurd (grind (arith, w.0))
      | inr later ↦ elim later [
        | inl below ↦ (let none = first_none (rule_fault tests m) k clear (rule_of g) (omega arith) in absurd (grind (arith, w.1.1)))
        | inr same ↦ absurd (grind (arith, w.1.1, w.1.2))
      ]
    ]
  ]

  refused : (f : CheckFault) → book_fault tests m ≡ Some f → Breaks tests m f × ((g : CheckFault) → Precedes g f → Breaks tests m g → ⊥)
  refused f e = elim (cases_Bool (ltb 1024 (length m.atoms) || ltb 1024 (length m.rules))) [
    | inl large ↦
        let is : TooLarge ≡ f = grind arith in
        (subst (Breaks tests m) is (grind (arith, nat_tests)), λ g before _. absurd (grind (arith, before.0)))
    | inr small ↦
        let w = first_at (rule_fault tests m) (length m.rules) f (grind arith) in
        let t = rule_told w.0 f w.2 in
        (t.0, none_before small w.0 f w.2 t.2 w.3)
  ]

  -- whatever equals the definition is so judged
  pub judged_at : (r : Result (Unit {0}) Fault) → r ≡ unless (book_fault tests m) → Judged tests m r
  judged_at r e = by (book_fault tests m) refl
    where
      by : (o : Option CheckFault) → book_fault tests m ≡ o → Judged tests m r
      by None none = record {
        accepts = λ _. none_accepted none;
        sound = λ _. grind arith;
        checks = λ fault is. absurd (grind arith);
        refuses = λ f is. absurd (grind arith);
        first = λ f is. absurd (grind arith);
      }
      by (Some f) met = record {
        accepts = λ is. absurd (grind arith);
        sound = λ s. absurd (let none = sound_accepted s in grind arith);
        checks = λ fault is. (f, grind arith);
        refuses = λ g is. (refused g (grind arith)).0;
        first = λ g is. (refused g (grind arith)).1;
      }
