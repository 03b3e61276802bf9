-- How many numbers below another are in a set.
use Rattle.std.proofs.Common.{◌≡◌, ℕ, zero, suc, ◌+◌, ◌<◌, ◌≤◌, Bool, true, false, refl, subst, ⊎_elim, not-suc-le-zero, arith}
use Rattle.std.proofs.lemmas.Bool.{cases_eq}
use Rattle.models.specs.Sets.{Set, Within}
use Rattle.std.specs.Bool.{IsTrue}
use Rattle.models.proofs.TrueTests.{never}

-- one where the test passes
abbrev pub one : Bool → ℕ
one true = 1
one false = 0

-- how many numbers below n are in the set
abbrev pub count_below : ℕ → Set → ℕ
count_below zero X = 0
count_below (suc n) X = one (X n) + count_below n X

one_within : (x y : Bool) → (IsTrue x → IsTrue y) → one x ≤ one y
one_within true true f = omega arith
one_within true false f = never (f refl)
one_within false true f = omega arith
one_within false false f = omega arith

one_less : (x y : Bool) → (IsTrue x → ⊥) → IsTrue y → one x < one y
one_less true y f t = absurd (f refl)
one_less false true f t = omega arith
one_less false false f t = never t

one_top : (x : Bool) → one x ≤ 1
one_top true = omega arith
one_top false = omega arith

pub count_within : (n : ℕ) (X Y : Set) → Within X Y → count_below n X ≤ count_below n Y
count_within zero X Y f = omega arith
count_within (suc n) X Y f =
    let h : one (X n) ≤ one (Y n) = one_within (X n) (Y n) (f n) in
    let r : count_below n X ≤ count_below n Y = count_within n X Y f in
    omega arith

-- a set within another that lacks one of its numbers has fewer
pub count_less : (n : ℕ) (X Y : Set) → Within X Y → (a : ℕ) → a < n → IsTrue (Y a) → (IsTrue (X a) → ⊥) → count_below n X < count_below n Y
count_less zero X Y f a l y x = absurd (not-suc-le-zero l)
count_less (suc n) X Y f a l y x =
    ⊎_elim
    (λ e. let h : one (X n) < one (Y n) = subst (λ (b : ℕ). one (X b) < one (Y b)) e (one_less (X a) (Y a) x y) in
    let r : count_below n X ≤ count_below n Y = count_within n X Y f in
    omega arith)
    (λ g. let g' : a ≡ n → ⊥ = g in
    let h : one (X n) ≤ one (Y n) = one_within (X n) (Y n) (f n) in
    let r : count_below n X < count_below n Y = count_less n X Y f a (omega arith) y x in
    omega arith)
    (cases_eq a n)

pub count_top : (n : ℕ) (X : Set) → count_below n X ≤ n
count_top zero X = omega arith
count_top (suc n) X =
    let h : one (X n) ≤ 1 = one_top (X n) in let r : count_below n X ≤ n = count_top n X in omega arith

-- a set that has a number below n is not counted as empty
pub count_some : (n : ℕ) (X : Set) (a : ℕ) → a < n → IsTrue (X a) → 0 < count_below n X
count_some zero X a l t = absurd (not-suc-le-zero l)
count_some (suc n) X a l t =
    ⊎_elim
    (λ e. let h : one (X n) ≡ 1 = full (X n) (subst (λ (b : ℕ). IsTrue (X b)) e t) in omega arith)
    (λ g. let g' : a ≡ n → ⊥ = g in let r : 0 < count_below n X = count_some n X a (omega arith) t in omega arith)
    (cases_eq a n)
  where
    full : (x : Bool) → IsTrue x → one x ≡ 1
    full true p = refl
    full false p = never p
