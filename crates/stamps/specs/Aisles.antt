-- A route as a set of aisles, and what it means that one is part of another.
use Rattle.std.specs.Prelude.{ℕ, Bool, not, ◌&&◌, ◌||◌, ◌==◌}
use Rattle.std.specs.Int.{bit_at}
use Rattle.std.specs.List.{list_all, range_with_len}

-- bit k of the mask says whether the route has aisle k
abbrev pub has_aisle : ℕ → ℕ → Bool
has_aisle mask k = bit_at mask k == 1

-- if the first route has aisle k, so has the second
abbrev pub shares_aisle : ℕ → ℕ → ℕ → Bool
shares_aisle a b k = not (has_aisle a k) || has_aisle b k

-- each aisle of the first route, of 0 to 63, is one of the second
unfoldable pub part_of : ℕ → ℕ → Bool
part_of a b = list_all (shares_aisle a b) (range_with_len 0 64)

-- part of, and not equal
abbrev pub proper_part : ℕ → ℕ → Bool
proper_part a b = part_of a b && not (part_of b a)
