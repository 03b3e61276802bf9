-- Each element of a list, by its number.
use Rattle.std.proofs.Common.{◌≡◌, ℕ, zero, suc, List, [], ◌∷◌, Some, refl, subst, arith}
use Rattle.std.specs.List.{slice_get, AllByRecursion}

-- what holds of each element that is found holds of all
pub all_slice_get : {X : Type 0} (P : X → Type 0) (xs : List X) → ((i : ℕ) (x : X) → slice_get xs i ≡ Some x → P x) → AllByRecursion P xs
all_slice_get P [] h = tt
all_slice_get P (x ∷ xs) h = (h zero x refl, all_slice_get P xs (λ i y e. h (suc i) y e))

pub slice_get_all : {X : Type 0} (P : X → Type 0) (xs : List X) → AllByRecursion P xs → (i : ℕ) (x : X) → slice_get xs i ≡ Some x → P x
slice_get_all P [] a i x e = absurd (grind arith)
slice_get_all P (y ∷ xs) a zero x e = subst P (grind arith) a.0
slice_get_all P (y ∷ xs) a (suc i) x e = slice_get_all P xs a.1 i x e
