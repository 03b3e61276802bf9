-- A rule's literals against its two lists.
use Rattle.std.proofs.Common.{◌≡◌, ℕ, ◌-◌, ◌<◌, ◌≤◌, length, Some, Option, arith}
use Rattle.std.specs.List.{slice_get}
use Rattle.std.proofs.iter.runs.Lists.{nth_left, nth_right}
use Rattle.std.specs.Option.{option_map, option_and_then}
use Rattle.books.specs.Meaning.{Rule, literals}

pub literal_positive : (o : Option Rule) (p i : ℕ) → option_map (λ (r : Rule). length r.positives) o ≡ Some p → i < p → option_and_then (λ (r : Rule). slice_get (literals r) i) o ≡ option_and_then (λ (r : Rule). slice_get r.positives i) o
literal_positive o p i e l = grind (arith, nth_left)

pub literal_negative : (o : Option Rule) (p i : ℕ) → option_map (λ (r : Rule). length r.positives) o ≡ Some p → p ≤ i → option_and_then (λ (r : Rule). slice_get (literals r) i) o ≡ option_and_then (λ (r : Rule). slice_get r.negatives (i - p)) o
literal_negative o p i e l = grind (arith, nth_right)
