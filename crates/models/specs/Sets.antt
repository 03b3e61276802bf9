-- Sets of atoms. A set is a test on numbers, so that membership is always decided.
use Rattle.std.specs.Prelude.{◌≡◌, ℕ, Bool, false, not, ◌&&◌, ◌||◌, ◌==◌}
use Rattle.std.specs.Bool.{IsTrue}
use Rattle.std.specs.List.{list_any, range_with_len}

-- which numbers are in it
abbrev pub Set : Type 0
Set = ℕ → Bool

-- each atom of the first set is in the second
abbrev pub Within : Set → Set → Type 0
Within X Y = (a : ℕ) → IsTrue (X a) → IsTrue (Y a)

-- the two sets have the same atoms
abbrev pub Same : Set → Set → Type 0
Same X Y = (a : ℕ) → X a ≡ Y a

-- the set without atoms
abbrev pub none : Set
none a = false

-- no atom is in the set
abbrev pub Empty : Set → Type 0
Empty X = (a : ℕ) → X a ≡ false

-- the set with one atom more
abbrev pub adding : ℕ → Set → Set
adding x X a = X a || x == a

-- the set with one atom less
abbrev pub removing : ℕ → Set → Set
removing x X a = X a && not (x == a)

-- some number below n is in the set
abbrev pub some_below : ℕ → Set → Bool
some_below n X = list_any X (range_with_len 0 n)

-- what is held, and what is still open
pub record State : Type 0 where
  pub held : Set
  pub still_open : Set
