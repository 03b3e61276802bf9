-- A struck book against the book below.
use Rattle.std.proofs.Common.{◌≡◌, ℕ, zero, suc, ◌+◌, Bool, true, cond, ◌||◌, eqb, List, [], ◌∷◌, length, Some, None, Option, sym, refl, ap, ◌∙◌, add-zero, arith}
use Rattle.std.specs.List.{slice_get}
use Rattle.std.specs.Option.{option_flatten}
use Rattle.std.proofs.lemmas.Bool.Decides.{nat_tests}
use Rattle.books.specs.Meaning.{Rule, Atom, Meaning, rule_at}
use Rattle.books.specs.Judged.{Sound}
use Rattle.stamps.specs.Orders.{Tests}
use Rattle.makes.specs.Strikes.{strike_from, struck_meaning, StandsOver}

length-strike_from : (struck : ℕ → Bool) (k : ℕ) (rs : List (Option Rule)) → length (strike_from struck k rs) ≡ length rs
length-strike_from struck k [] = refl
length-strike_from struck k (r ∷ rs) = ap suc (length-strike_from struck (suc k) rs)

pub struck_length : {S : Type 0} (struck : ℕ → Bool) (m : Meaning S) → length (struck_meaning struck m).rules ≡ length m.rules
struck_length struck m = length-strike_from struck 0 m.rules

-- rule i of the struck rules from k on
slice_get-strike_from : (struck : ℕ → Bool) (k : ℕ) (rs : List (Option Rule)) (i : ℕ) → option_flatten (slice_get (strike_from struck k rs) i) ≡ cond (struck (k + i)) None (option_flatten (slice_get rs i))
slice_get-strike_from struck k [] i = grind arith
slice_get-strike_from struck k (r ∷ rs) zero = rw (add-zero k) grind arith
slice_get-strike_from struck k (r ∷ rs) (suc i) = let at : k + suc i ≡ suc k + i = omega arith in rw at (slice_get-strike_from struck (suc k) rs i)

pub struck_rule : {S : Type 0} (struck : ℕ → Bool) (m : Meaning S) (k : ℕ) → rule_at (struck_meaning struck m) k ≡ cond (struck k) None (rule_at m k)
struck_rule struck m k = let same : 0 + k ≡ k = omega arith in slice_get-strike_from struck 0 m.rules k ∙ ap (λ n. cond (struck n) None (rule_at m k)) same

struck_same : (struck other : ℕ → Bool) → ((k : ℕ) → struck k ≡ other k) → (k : ℕ) (rs : List (Option Rule)) → strike_from struck k rs ≡ strike_from other k rs
struck_same struck other e k [] = refl
struck_same struck other e k (r ∷ rs) = rw (e k, struck_same struck other e (suc k) rs) refl

-- a sound book stays sound where rules become vacant
sound_less : {S : Type 0} (tests : Tests S) (atoms : List (Atom S)) (rules less : List (Option Rule)) → length less ≡ length rules → ((k : ℕ) (r : Rule) → option_flatten (slice_get less k) ≡ Some r → option_flatten (slice_get rules k) ≡ Some r) → Sound tests (record { atoms = atoms; rules = rules }) → Sound tests (record { atoms = atoms; rules = less })
sound_less tests atoms rules less count kept s = record {
  few_atoms = s.few_atoms;
  few_rules = rw count s.few_rules;
  rules = λ k r at. (let q = s.rules k r (kept k r at) in record {
    few_positives = q.few_positives;
    few_negatives = q.few_negatives;
    derived = q.derived;
    positives = q.positives;
    negatives = q.negatives;
  });
}

pub stands_over : {S : Type 0} (tests : Tests S) (m : Meaning S) (struck : ℕ → Bool) → StandsOver tests struck m (struck_meaning struck m)
stands_over tests m struck = record {
  atoms = refl;
  count = struck_length struck m;
  rule = struck_rule struck m;
  passes = sound_less tests m.atoms m.rules _ (struck_length struck m) (λ k r at. let e = struck_rule struck m k in grind arith);
}

-- one number more is struck
module _ {S : Type 0} (m : Meaning S) (struck more : ℕ → Bool) (n : ℕ) (only : (k : ℕ) → more k ≡ (eqb k n || struck k)) where
  more_rule : (k : ℕ) → rule_at (struck_meaning more m) k ≡ cond (eqb k n) None (rule_at (struck_meaning struck m) k)
  more_rule k = let e = struck_rule more m k in let o = struck_rule struck m k in let p = only k in grind arith

  more_length : length (struck_meaning more m).rules ≡ length (struck_meaning struck m).rules
  more_length = struck_length more m ∙ sym (struck_length struck m)

  pub stands_more : (tests : Tests S) → StandsOver tests (λ k. eqb k n) (struck_meaning struck m) (struck_meaning more m)
  stands_more tests = record {
    atoms = refl;
    count = more_length;
    rule = more_rule;
    passes = sound_less tests m.atoms _ _ more_length (λ k r at. let e = more_rule k in grind arith);
  }

  again_same : struck n ≡ true → (k : ℕ) → more k ≡ struck k
  again_same e k = let p = only k in grind (arith, nat_tests)

  -- striking a number again changes nothing
  pub struck_again : struck n ≡ true → struck_meaning more m ≡ struck_meaning struck m
  struck_again e = ap (λ rs. record { atoms = m.atoms; rules = rs }) (struck_same more struck (again_same e) 0 m.rules)
