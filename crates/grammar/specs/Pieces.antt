-- Pieces of a text, and how much of the rules they keep.
use Rattle.std.specs.Prelude.{◌≡◌, ℕ, ◌≤◌, List, [], ◌∷◌, ◌++◌, length, codes, slice_index}
use Rattle.std.specs.Str.Parse.{AllDigits, digits_value}

-- how much of the rules a text keeps: its shape alone, which leaves aside what numbers mean; every rule; every rule with no leading zero
pub data Care : Type 0 where
  shape : Care
  kept : Care
  plain : Care

-- a rule on what a text means, which the shape leaves aside
abbrev pub Kept : Care → Type 0 → Type 0
Kept shape rule = Unit {0}
Kept kept rule = rule
Kept plain rule = rule

-- a rule on the spelling, which only canonical texts keep
abbrev pub Plainly : Care → Type 0 → Type 0
Plainly shape rule = Unit {0}
Plainly kept rule = Unit {0}
Plainly plain rule = rule

-- these very bytes
abbrev pub Exactly : List ℕ → List ℕ → Type 0
Exactly word text = text ≡ word

-- one piece and then another
pub record Followed (A B : List ℕ → Type 0) (text : List ℕ) : Type 0 where
  pub front : List ℕ
  pub back : List ℕ
  pub whole : text ≡ front ++ back
  pub first : A front
  pub second : B back

-- the limit of every number but an aisle's
abbrev pub largest : ℕ
largest = 4294967295

-- a number: one to ten digits in base ten, within the limit
pub record Numeral (c : Care) (limit n : ℕ) (text : List ℕ) : Type 0 where
  pub digits : AllDigits 10 text
  pub some : 1 ≤ length text
  pub few : length text ≤ 10
  pub means : digits_value 10 text ≡ n
  pub within : Kept c (n ≤ limit)
  pub plainly : Plainly c (slice_index text 0 ≡ 48 → length text ≡ 1)

-- numbers with single spaces between them
abbrev pub Spaced : Care → ℕ → List ℕ → List ℕ → Type 0
Spaced c limit [] text = Exactly [] text
Spaced c limit (n ∷ []) text = Numeral c limit n text
Spaced c limit (n ∷ m ∷ ns) text = Followed (Numeral c limit n) (Followed (Exactly (codes " ")) (Spaced c limit (m ∷ ns))) text

-- numbers in brackets
abbrev pub Listed : Care → ℕ → List ℕ → List ℕ → Type 0
Listed c limit ns = Followed (Exactly (codes "(")) (Followed (Spaced c limit ns) (Exactly (codes ")")))
