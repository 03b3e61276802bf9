-- A place of two lists, one after the other.
use Rattle.std.proofs.Common.{◌≡◌, ℕ, zero, suc, ◌-◌, cond, nat_lt, List, [], ◌∷◌, ◌++◌, length, arith}
use Rattle.std.proofs.lemmas.Bool.Decides.{nat_tests}
use Rattle.std.specs.List.{slice_get}

pub slice_get-append : {X : Type 0} (xs ys : List X) (i : ℕ) → slice_get (xs ++ ys) i ≡ cond (nat_lt i (length xs)) (slice_get xs i) (slice_get ys (i - length xs))
slice_get-append [] ys i = grind (arith, nat_tests)
slice_get-append (x ∷ xs) ys zero = grind (arith, nat_tests)
slice_get-append (x ∷ xs) ys (suc i) = grind (arith, nat_tests, slice_get-append xs ys i)

pub ruleset appended = (slice_get-append)
