-- A place of equal items.
use Rattle.std.proofs.Common.{◌≡◌, ℕ, zero, suc, replicate, nat_lt, arith}
use Rattle.std.proofs.lemmas.Bool.Decides.{nat_tests}
use Rattle.std.specs.Bool.{then_some}
use Rattle.std.specs.List.{slice_get}

-- item i of n equal items
pub slice_get-replicate : {X : Type 0} (n : ℕ) (x : X) (i : ℕ) → slice_get (replicate n x) i ≡ then_some (nat_lt i n) x
slice_get-replicate zero x i = grind (arith, nat_tests)
slice_get-replicate (suc n) x zero = grind (arith, nat_tests)
slice_get-replicate (suc n) x (suc i) = grind (arith, nat_tests, slice_get-replicate n x i)

pub ruleset replicas = (slice_get-replicate)
