-- A set of numbers in words of 64 bits.
use Rattle.std.specs.Prelude.{ℕ, ◌/◌, ◌%◌, ◌^◌, Bool, ◌==◌, List, bit_or, slice_index, slice_set}
use Rattle.std.specs.Int.{bit_at}

-- number n is bit n mod 64 of word n div 64
abbrev pub has_number : List ℕ → ℕ → Bool
has_number words n = bit_at (slice_index words (n / 64)) (n % 64) == 1

-- the words with that bit set
abbrev pub with_number : List ℕ → ℕ → List ℕ
with_number words n = slice_set words (n / 64) (bit_or (slice_index words (n / 64)) (2 ^ (n % 64)))
