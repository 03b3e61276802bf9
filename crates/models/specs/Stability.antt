-- Stable models of a book: what remains of its rules once a set has judged their negatives, and the least set closed under that.
use Rattle.std.specs.Prelude.{◌≡◌, ℕ, cond, [], Some, None, Option}
use Rattle.books.specs.Meaning.{Rule, Meaning, rule_at}
use Rattle.std.specs.Option.{option_and_then}
use Rattle.models.specs.Sets.{Set, Within}
use Rattle.models.specs.Verdicts.{is_reading}
use Rattle.std.specs.Bool.{IsTrue}
use Rattle.std.specs.List.{list_all, list_any}

-- the rule without its negatives; struck where one of them is in M
abbrev pub reduced : Set → Rule → Option Rule
reduced M r = cond (list_any M r.negatives) None (Some (record { head = r.head; positives = r.positives; negatives = [] }))

-- what remains of the rule of that number
abbrev pub remaining : {S : Type 0} → Meaning S → Set → ℕ → Option Rule
remaining m M k = option_and_then (reduced M) (rule_at m k)

-- X has the head of each remaining rule all of whose positives it has
abbrev pub Closed : {S : Type 0} → Meaning S → Set → Set → Type 0
Closed m M X = (k : ℕ) (r : Rule) → remaining m M k ≡ Some r → IsTrue (list_all X r.positives) → IsTrue (X r.head)

-- each atom of the set is a reading of the book
abbrev pub ReadingsOf : {S : Type 0} → Meaning S → Set → Type 0
ReadingsOf m R = Within R (is_reading m)

-- M is the least set that has the readings and is closed under what M itself leaves of the rules
pub record Stable {S : Type 0} (m : Meaning S) (readings M : Set) : Type 0 where
  pub has : Within readings M
  pub closed : Closed m M M
  pub least : (X : Set) → Within readings X → Closed m M X → Within M X
