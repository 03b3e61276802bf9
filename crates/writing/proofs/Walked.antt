-- What a walk meets that asks only for the atoms to be there is what keeps a book from being written.
use Rattle.std.proofs.Common.{◌≡◌, ℕ, ◌+◌, cond, length, is_some, Some, None, Option, refl, arith}
use Rattle.std.specs.Option.{option_map}
use Rattle.stamps.specs.Orders.{Tests}
use Rattle.books.proofs.First.{first_same}
use Rattle.books.specs.Check.{first_below, literal_fault, asked_tests, head_walk, rule_walk, book_walk}
use Rattle.books.specs.Meaning.{Atom, Meaning}
use Rattle.books.specs.declared.fault.CheckFault.TheVariants.{HeadMissing}
use Rattle.books.specs.declared.walk.Asked.TheVariants.{Declared}
use Rattle.writing.specs.Writes.{literal_gap, rule_gap, book_gap}

module _ {S : Type 0} (tests : Tests S) (m : Meaning S) where
  literal_met : (k p i : ℕ) (h : S) → literal_fault (asked_tests Declared tests) m k p h i ≡ literal_gap m k i
  literal_met k p i h = grind arith

  head_met : (k p n : ℕ) (o : Option (Atom S)) → head_walk Declared tests m k p n o ≡ cond (is_some (option_map (λ (x : Atom S). x.stamp) o)) (first_below (p + n) (literal_gap m k)) (Some (HeadMissing k))
  head_met k p n None = refl
  head_met k p n (Some x) = first_same _ _ (λ i. literal_met k p i x.stamp) (p + n)

  rule_met : (k : ℕ) → rule_walk Declared tests m k ≡ rule_gap m k
  rule_met k = grind (arith, head_met)

  pub book_met : book_walk Declared tests m ≡ book_gap m
  book_met = rw (first_same _ _ rule_met (length m.rules)) refl
