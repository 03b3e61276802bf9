-- Ticks, as numbers, keep the laws; and what the check accepts is one test that computes.
use Rattle.std.proofs.Common.{◌≡◌, ℕ, zero, suc, ◌≤◌, Bool, true, false, not, ◌&&◌, leb, List, [], ◌∷◌, length, Some, None, Option, refl, subst, arith}
use Rattle.std.specs.List.{AllByRecursion, list_all}
use Rattle.books.specs.Meaning.{Rule, Atom, Meaning, rule_at, reading_of}
use Rattle.books.specs.Judged.{Sound, SoundRule, relates}
use Rattle.models.specs.Sets.{Set}
use Rattle.models.specs.Verdicts.{passes, is_derived}
use Rattle.models.proofs.BookOrder.{book}
use Rattle.models.proofs.TrueTests.{and_left, and_right, never}
use Rattle.stamps.specs.Orders.{Tests}
use Rattle.std.specs.Bool.{IsTrue}
use Rattle.std.proofs.lemmas.Bool.{leb-true}
use Rattle.stamps.specs.Orders.{IsLawful}
use Rattle.stamps.specs.Laws.{tick_lawful}
use Rattle.models.specs.Examples.{numbers}

pub ticks : IsLawful numbers
ticks = tick_lawful (λ n. n)

every_all : (X : Set) (xs : List ℕ) → IsTrue (list_all X xs) → AllByRecursion (λ a. IsTrue (X a)) xs
every_all X [] t = tt
every_all X (x ∷ xs) t = (and_left (X x) (list_all X xs) t, every_all X xs (and_right (X x) (list_all X xs) t))

derived_out : (o : Option Bool) → IsTrue (passes not o) → o ≡ Some false
derived_out None t = never t
derived_out (Some true) t = never t
derived_out (Some false) t = refl

-- all rules of a list pass the test; a vacant number does
abbrev pub each_rule : (Rule → Bool) → List (Option Rule) → Bool
each_rule test [] = true
each_rule test (None ∷ rs) = each_rule test rs
each_rule test (Some r ∷ rs) = test r && each_rule test rs

at_number : {S : Type 0} (xs : List (Atom S)) (test : Rule → Bool) (rs : List (Option Rule)) → IsTrue (each_rule test rs) → (k : ℕ) (r : Rule) → rule_at (book xs rs) k ≡ Some r → IsTrue (test r)
at_number xs test [] t k r e = let z : ◌≡◌ {A = ℕ} 0 1 = cc in absurd (omega arith)
at_number xs test (None ∷ rs) t zero r e = let z : ◌≡◌ {A = ℕ} 0 1 = cc in absurd (omega arith)
at_number xs test (Some x ∷ rs) t zero r e =
    let same : x ≡ r = cc in subst (λ (y : Rule). IsTrue (test y)) same (and_left (test x) (each_rule test rs) t)
at_number xs test (None ∷ rs) t (suc k) r e = at_number xs test rs t k r e
at_number xs test (Some x ∷ rs) t (suc k) r e = at_number xs test rs (and_right (test x) (each_rule test rs) t) k r e

-- what the check accepts, as one test that computes
module _ {S : Type 0} (tests : Tests S) (m : Meaning S) where
  abbrev pub few : Rule → Bool
  few r = leb (length r.positives) 6 && leb (length r.negatives) 6

  abbrev pub ordered : Rule → Bool
  ordered r = list_all (λ a. relates tests.not_after m a r.head) r.positives && list_all (λ a. relates tests.before m a r.head) r.negatives

  abbrev pub fits : Rule → Bool
  fits r = few r && (is_derived m r.head && ordered r)

  fits_out : (r : Rule) → IsTrue (fits r) → SoundRule tests m r
  fits_out r t =
      let short = and_left (few r) (is_derived m r.head && ordered r) t in
      let rest = and_right (few r) (is_derived m r.head && ordered r) t in
      let order = and_right (is_derived m r.head) (ordered r) rest in
      let ps = list_all (λ a. relates tests.not_after m a r.head) r.positives in
      let ns = list_all (λ a. relates tests.before m a r.head) r.negatives in
      record {
        few_positives = leb-true (length r.positives) 6 (and_left (leb (length r.positives) 6) (leb (length r.negatives) 6) short);
        few_negatives = leb-true (length r.negatives) 6 (and_right (leb (length r.positives) 6) (leb (length r.negatives) 6) short);
        derived = derived_out (reading_of m r.head) (and_left (is_derived m r.head) (ordered r) rest);
        positives = every_all (λ a. relates tests.not_after m a r.head) r.positives (and_left ps ns order);
        negatives = every_all (λ a. relates tests.before m a r.head) r.negatives (and_right ps ns order);
      }

  pub sound_by : length m.atoms ≤ 1024 → length m.rules ≤ 1024 → IsTrue (each_rule fits m.rules) → Sound tests m
  sound_by a r t = record { few_atoms = a; few_rules = r; rules = λ k x e. fits_out x (at_number m.atoms fits m.rules t k x e) }
