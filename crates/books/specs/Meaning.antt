-- What a book means: its atoms and its rules, and what each question about them answers.
use Rattle.std.specs.Prelude.{ℕ, Bool, List, ◌++◌, length, Option}
use Rattle.std.specs.List.{slice_get}
use Rattle.std.specs.Option.{option_map, option_and_then, option_flatten}
use Rattle.books.specs.declared.book.Sign.{Sign}
use Rattle.books.specs.declared.book.Sign.TheVariants.{Positive, Negative}

-- the head follows where all positive atoms hold and no negative atom does
pub record Rule : Type 0 where
  pub head : ℕ
  pub positives : List ℕ
  pub negatives : List ℕ

-- a reading is fed or closed from outside; no rule derives it
pub record Atom (S : Type 0) : Type 0 where
  pub stamp : S
  pub reading : Bool

-- atoms and rules by their numbers, from 0; a vacant rule number is None
pub record Meaning (S : Type 0) : Type 0 where
  pub atoms : List (Atom S)
  pub rules : List (Option Rule)

-- the rule of that number; none beyond the count and for a vacant number
abbrev pub rule_at : {S : Type 0} → Meaning S → ℕ → Option Rule
rule_at m k = option_flatten (slice_get m.rules k)

-- the atom's stamp; none beyond the count
abbrev pub stamp_of : {S : Type 0} → Meaning S → ℕ → Option S
stamp_of m a = option_map (λ (x : Atom _). x.stamp) (slice_get m.atoms a)

-- whether the atom is a reading; none beyond the count
abbrev pub reading_of : {S : Type 0} → Meaning S → ℕ → Option Bool
reading_of m a = option_map (λ (x : Atom _). x.reading) (slice_get m.atoms a)

-- the head of a rule; none for a vacant number and beyond the count of rule numbers
abbrev pub head_of : {S : Type 0} → Meaning S → ℕ → Option ℕ
head_of m k = option_map (λ (r : Rule). r.head) (rule_at m k)

-- the rule's list of that sign
abbrev pub of_sign : Sign → Rule → List ℕ
of_sign Positive r = r.positives
of_sign Negative r = r.negatives

-- the length of a rule's list of that sign
abbrev pub body_count_of : {S : Type 0} → Meaning S → ℕ → Sign → Option ℕ
body_count_of m k sign = option_map (λ (r : Rule). length (of_sign sign r)) (rule_at m k)

-- atom i of that list; none beyond its length
abbrev pub body_atom_of : {S : Type 0} → Meaning S → ℕ → Sign → ℕ → Option ℕ
body_atom_of m k sign i = option_and_then (λ (r : Rule). slice_get (of_sign sign r) i) (rule_at m k)

-- a rule's literals, positives first; literal number i + 1 stands at i
abbrev pub literals : Rule → List ℕ
literals r = r.positives ++ r.negatives

-- the atom of literal i + 1 of the rule
abbrev pub literal_of : {S : Type 0} → Meaning S → ℕ → ℕ → Option ℕ
literal_of m k i = option_and_then (λ (r : Rule). slice_get (literals r) i) (rule_at m k)
