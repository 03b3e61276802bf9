-- What holds of every or some atom of a list, and of some number below another.
use Rattle.std.proofs.Common.{◌≡◌, ℕ, zero, suc, ◌<◌, ◌≤◌, ◌+◌, List, [], ◌∷◌, subst, ⊎_elim, arith, refl}
use Rattle.std.specs.List.{AllByRecursion, range_with_len, list_all, list_any}
use Rattle.std.proofs.lemmas.Bool.{cases_eq}
use Rattle.models.specs.Sets.{Set, some_below}
use Rattle.models.proofs.TrueTests.{and_in, and_left, and_right, or_left, or_right, or_out, either, never}
use Rattle.std.specs.Bool.{IsTrue}

-- each of the list is in Y, given a fact of each and that it is in X
pub every_with : (P : ℕ → Type 0) (X Y : Set) → ((a : ℕ) → P a → IsTrue (X a) → IsTrue (Y a)) → (xs : List ℕ) → AllByRecursion P xs → IsTrue (list_all X xs) → IsTrue (list_all Y xs)
every_with P X Y f [] p t = refl
every_with P X Y f (x ∷ xs) p t =
    and_in (Y x) (list_all Y xs) (f x p.0 (and_left (X x) (list_all X xs) t))
    (every_with P X Y f xs p.1 (and_right (X x) (list_all X xs) t))

pub every_within : (X Y : Set) → ((a : ℕ) → IsTrue (X a) → IsTrue (Y a)) → (xs : List ℕ) → IsTrue (list_all X xs) → IsTrue (list_all Y xs)
every_within X Y f [] t = refl
every_within X Y f (x ∷ xs) t =
    and_in (Y x) (list_all Y xs) (f x (and_left (X x) (list_all X xs) t)) (every_within X Y f xs (and_right (X x) (list_all X xs) t))

-- where each is in X and not each in Y, one is in X and not in Y
pub one_differs : (P : ℕ → Type 0) (X Y : Set) → (xs : List ℕ) → AllByRecursion P xs → IsTrue (list_all X xs) → (IsTrue (list_all Y xs) → ⊥) → (a : ℕ) × P a × IsTrue (X a) × (IsTrue (Y a) → ⊥)
one_differs P X Y [] p t f = absurd (f refl)
one_differs P X Y (x ∷ xs) p t f =
    ⊎_elim
    (λ y. one_differs P X Y xs p.1 (and_right (X x) (list_all X xs) t) (λ ys. f (and_in (Y x) (list_all Y xs) y ys)))
    (λ n. (x, p.0, and_left (X x) (list_all X xs) t, n))
    (either (Y x))

pub some_out : (X : Set) (xs : List ℕ) → IsTrue (list_any X xs) → (a : ℕ) × IsTrue (X a)
some_out X [] t = never t
some_out X (x ∷ xs) t = ⊎_elim (λ h. (x, h)) (λ h. some_out X xs h) (or_out (X x) (list_any X xs) t)

-- some atom of the list is in the set, with the fact that each of the list has
pub some_with : (P : ℕ → Type 0) (X : Set) → (xs : List ℕ) → AllByRecursion P xs → IsTrue (list_any X xs) → (a : ℕ) × P a × IsTrue (X a)
some_with P X [] p t = never t
some_with P X (x ∷ xs) p t =
    ⊎_elim (λ h. (x, p.0, h)) (λ h. some_with P X xs p.1 h) (or_out (X x) (list_any X xs) t)

pub some_within : (X Y : Set) → ((a : ℕ) → IsTrue (X a) → IsTrue (Y a)) → (xs : List ℕ) → IsTrue (list_any X xs) → IsTrue (list_any Y xs)
some_within X Y f [] t = t
some_within X Y f (x ∷ xs) t =
    ⊎_elim
    (λ h. or_left (Y x) (list_any Y xs) (f x h))
    (λ h. or_right (Y x) (list_any Y xs) (some_within X Y f xs h))
    (or_out (X x) (list_any X xs) t)

-- some atom of the list is in Y, given a fact of each and that some is in X
pub some_moved : (P : ℕ → Type 0) (X Y : Set) → ((a : ℕ) → P a → IsTrue (X a) → IsTrue (Y a)) → (xs : List ℕ) → AllByRecursion P xs → IsTrue (list_any X xs) → IsTrue (list_any Y xs)
some_moved P X Y f [] p t = t
some_moved P X Y f (x ∷ xs) p t =
    ⊎_elim
    (λ h. or_left (Y x) (list_any Y xs) (f x p.0 h))
    (λ h. or_right (Y x) (list_any Y xs) (some_moved P X Y f xs p.1 h))
    (or_out (X x) (list_any X xs) t)

-- each of the list is in X, and none that is in X is in Y: none of the list is in Y
pub none_of : (X Y : Set) → ((a : ℕ) → IsTrue (X a) → IsTrue (Y a) → ⊥) → (xs : List ℕ) → IsTrue (list_all X xs) → IsTrue (list_any Y xs) → ⊥
none_of X Y f [] t s = never s
none_of X Y f (x ∷ xs) t s =
    ⊎_elim
    (λ h. f x (and_left (X x) (list_all X xs) t) h)
    (λ h. none_of X Y f xs (and_right (X x) (list_all X xs) t) h)
    (or_out (Y x) (list_any Y xs) s)

-- some number of n from a on is in the set: this one
range_out : (a n : ℕ) (X : Set) → IsTrue (list_any X (range_with_len a n)) → (b : ℕ) × (b < a + n) × IsTrue (X b)
range_out a zero X t = never t
range_out a (suc n) X t =
    ⊎_elim
    (λ h. (a, omega arith, h))
    (λ h. let r = range_out (a + 1) n X h in (r.0, (let l : r.0 < a + 1 + n = r.1 in omega arith), r.2))
    (or_out (X a) (list_any X (range_with_len (a + 1) n)) t)

range_in : (a n : ℕ) (X : Set) (b : ℕ) → a ≤ b → b < a + n → IsTrue (X b) → IsTrue (list_any X (range_with_len a n))
range_in a zero X b l k t = absurd (omega arith)
range_in a (suc n) X b l k t =
    ⊎_elim
    (λ e. or_left (X a) (list_any X (range_with_len (a + 1) n)) (subst (λ (c : ℕ). IsTrue (X c)) e t))
    (λ f. let g : b ≡ a → ⊥ = f in or_right (X a) (list_any X (range_with_len (a + 1) n)) (range_in (a + 1) n X b (omega arith) (omega arith) t))
    (cases_eq b a)

-- some number below n is in the set: this one
pub below_out : (n : ℕ) (X : Set) → IsTrue (some_below n X) → (a : ℕ) × (a < n) × IsTrue (X a)
below_out n X t = let r = range_out 0 n X t in (r.0, (let l : r.0 < 0 + n = r.1 in omega arith), r.2)

pub below_in : (n : ℕ) (X : Set) (a : ℕ) → a < n → IsTrue (X a) → IsTrue (some_below n X)
below_in n X a l = range_in 0 n X a (omega arith) (omega arith)
