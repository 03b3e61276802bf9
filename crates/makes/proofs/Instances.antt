-- Steps back from a tick.
use Rattle.std.proofs.Common.{◌≡◌, ℕ, ◌+◌, ◌-◌, ◌*◌, ◌<◌, ◌≤◌, true, List, length, get_or, mul-le-mul_right, add-mul, arith}
use Rattle.std.proofs.lemmas.Bool.Decides.{nat_tests}
use Rattle.std.proofs.lemmas.List.Folds.{list_all_at}
use Rattle.makes.specs.Repeats.{started_by, slots_there}
use Rattle.makes.specs.declared.patterns.Step.{Step}

pub all_back : (t : ℕ) (xs : List Step) (i : ℕ) (d : Step) → started_by t xs ≡ true → i < length xs → (get_or xs i d).back ≤ t
all_back t xs i d e l = grind (arith, nat_tests, list_all_at)

-- an atom some ticks back lies below the end of its tick
pub atom_below : (t w : ℕ) (xs : List Step) (i : ℕ) (d : Step) → slots_there w xs ≡ true → i < length xs → (t + 1) * w ≤ 1024 → (t - (get_or xs i d).back) * w + (get_or xs i d).slot < 1024
atom_below t w xs i d all l h =
    let slot : (get_or xs i d).slot < w = grind (arith, nat_tests, list_all_at) in
    let row : (t - (get_or xs i d).back) * w ≤ t * w = mul-le-mul_right w (omega arith) in
    omega (arith, row, add-mul t 1 w)
