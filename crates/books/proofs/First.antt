-- The first fault among numbered places, as a loop finds it.
use Rattle.std.proofs.Common.{◌≡◌, ℕ, zero, suc, ◌+◌, ◌<◌, ◌≤◌, cond, ◌||◌, ltb, Some, None, Ok, Err, Option, refl, inl, inr, add-one, arith}
use Rattle.std.proofs.lemmas.Bool.{cases_lt}
use Rattle.std.proofs.lemmas.Bool.Decides.{nat_tests}
use Rattle.books.specs.Check.{first_below, unless, refused_by}
use Rattle.books.specs.declared.fault.CheckFault.{CheckFault}

module _ {X : Type 0} (f : ℕ → Option X) where
  -- a search that stops at i has found the first
  first_found : (i n : ℕ) (x : X) → first_below i f ≡ None → f i ≡ Some x → i < n → first_below n f ≡ Some x
  first_found i zero x h e l = absurd (omega arith)
  first_found i (suc n) x h e l = elim (cases_lt i n) [
    | inl below ↦ rw (first_found i n x h e below) refl
    | inr past ↦ (let same : i ≡ n = omega arith in grind arith)
  ]

  -- what is found stands somewhere, with nothing before it
  pub first_at : (n : ℕ) (x : X) → first_below n f ≡ Some x → (i : ℕ) × (i < n) × (f i ≡ Some x) × (first_below i f ≡ None)
  first_at zero x h = absurd (grind arith)
  first_at (suc n) x h = by (first_below n f) refl (first_at n x)
    where
      by : (o : Option X) → first_below n f ≡ o → (first_below n f ≡ Some x → (i : ℕ) × (i < n) × (f i ≡ Some x) × (first_below i f ≡ None)) → (i : ℕ) × (i < suc n) × (f i ≡ Some x) × (first_below i f ≡ None)
      by None e below = (n, omega arith, grind arith, e)
      by (Some y) e below = let w = below (grind arith) in (w.0, omega (arith, w.1), w.2, w.3)

  -- nothing is found exactly where each place has nothing
  pub first_none : (n : ℕ) → first_below n f ≡ None → (i : ℕ) → i < n → f i ≡ None
  first_none zero h i l = absurd (omega arith)
  first_none (suc n) h i l = elim (cases_lt i n) [
    | inl below ↦ first_none n (grind arith) i below
    | inr past ↦ (let same : i ≡ n = omega arith in grind arith)
  ]

  pub first_all : (n : ℕ) → ((i : ℕ) → i < n → f i ≡ None) → first_below n f ≡ None
  first_all zero h = refl
  first_all (suc n) h = rw (first_all n (λ i l. h i (omega arith)), h n (omega arith)) refl

  -- something is found where something stands, there or before
  pub first_upto : (i n : ℕ) (x : X) → f i ≡ Some x → i < n → (j : ℕ) × (y : X) × (j ≤ i) × (f j ≡ Some y) × (first_below n f ≡ Some y)
  first_upto i n x e l = by (first_below n f) refl
    where
      by : (o : Option X) → first_below n f ≡ o → (j : ℕ) × (y : X) × (j ≤ i) × (f j ≡ Some y) × (first_below n f ≡ Some y)
      by None h = let none = first_none n h i l in absurd (grind arith)
      by (Some y) h =
          let w = first_at n y h in
          let past : w.0 ≤ i = elim (cases_lt i w.0) [ inl below ↦ (let none = first_none w.0 w.3 i below in absurd (grind arith)) | inr past ↦ past ] in
          (w.0, y, past, w.2, h)

  -- tests in order go on after one that passes
  pub goes_on : (i : ℕ) → first_below i f ≡ None → Ok tt ≡ refused_by (f i) → first_below (i + 1) f ≡ None
  goes_on i h e = rw add-one (grind arith)

  -- and end at one that refuses
  pub ends_at : (i n : ℕ) (x : X) → first_below i f ≡ None → Err x ≡ refused_by (f i) → i < n → Err x ≡ refused_by (first_below n f)
  ends_at i n x h e l = by (f i) refl
    where
      by : (o : Option X) → f i ≡ o → Err x ≡ refused_by (first_below n f)
      by None none = absurd (grind arith)
      by (Some y) there = let first = first_found i n y h there l in grind arith

-- the same is found first where the same stands at each place
pub first_same : {X : Type 0} (f g : ℕ → Option X) → ((i : ℕ) → f i ≡ g i) → (n : ℕ) → first_below n f ≡ first_below n g
first_same f g same zero = refl
first_same f g same (suc n) = rw (first_same f g same n, same n) refl

-- a call that passed had no fault
pub passed : (o : Option CheckFault) → Ok tt ≡ unless o → o ≡ None
passed o e = grind arith

-- counts within the limit go on to what comes after them
pub within : {X : Type 0} (a b : ℕ) (x y : X) → a ≤ 1024 → b ≤ 1024 → cond (ltb 1024 a || ltb 1024 b) x y ≡ y
within a b x y ha hb = grind (arith, nat_tests)
