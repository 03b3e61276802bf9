-- What the check's verdict says of a book.
use Rattle.std.specs.Prelude.{◌≡◌, ℕ, ◌+◌, ◌*◌, ◌<◌, ◌≤◌, Bool, true, false, ◌⊎◌, length, Some, None, Ok, Err, Option, Result}
use Rattle.std.specs.Bool.{IsTrue}
use Rattle.std.specs.List.{slice_get, AllByRecursion}
use Rattle.books.specs.Meaning.{Rule, Meaning, rule_at, literals, stamp_of, reading_of}
use Rattle.stamps.specs.Orders.{Tests}
use Rattle.books.specs.declared.fault.CheckFault.{CheckFault}
use Rattle.books.specs.declared.fault.CheckFault.TheVariants.{TooLarge, BodyTooLong, HeadMissing, HeadIsReading, LiteralMissing, PositiveOutOfOrder, NegativeOutOfOrder}
use Rattle.books.specs.declared.fault.Fault.{Fault}
use Rattle.books.specs.declared.fault.Fault.TheVariants.{Checking}

-- both stamps are there and pass the test
abbrev pub both_pass : {S : Type 0} → (S → S → Bool) → Option S → Option S → Bool
both_pass test (Some s) (Some t) = test s t
both_pass test (Some s) None = false
both_pass test None t = false

-- both atoms are in the book, and their stamps pass the test
abbrev pub relates : {S : Type 0} → (S → S → Bool) → Meaning S → ℕ → ℕ → Bool
relates test m a b = both_pass test (stamp_of m a) (stamp_of m b)

-- a rule as a checked book has it: head and literals in the book, no reading as head,
-- each positive not after the head and each negative before it
pub record SoundRule {S : Type 0} (tests : Tests S) (m : Meaning S) (r : Rule) : Type 0 where
  pub few_positives : length r.positives ≤ 6
  pub few_negatives : length r.negatives ≤ 6
  pub derived : reading_of m r.head ≡ Some false
  pub positives : AllByRecursion (λ a. IsTrue (relates tests.not_after m a r.head)) r.positives
  pub negatives : AllByRecursion (λ a. IsTrue (relates tests.before m a r.head)) r.negatives

-- a book within the limits whose every rule is sound
pub record Sound {S : Type 0} (tests : Tests S) (m : Meaning S) : Type 0 where
  pub few_atoms : length m.atoms ≤ 1024
  pub few_rules : length m.rules ≤ 1024
  pub rules : (k : ℕ) (r : Rule) → rule_at m k ≡ Some r → SoundRule tests m r

-- rule k is there and is so
abbrev pub OfRule : {S : Type 0} → Meaning S → ℕ → (Rule → Type 0) → Type 0
OfRule m k P = (r : Rule) × (rule_at m k ≡ Some r) × P r

-- literal l of rule k is there; P says of the rule, the literal's place from 0 and its atom what is so
abbrev pub OfLiteral : {S : Type 0} → Meaning S → ℕ → ℕ → (Rule → ℕ → ℕ → Type 0) → Type 0
OfLiteral m k l P = OfRule m k (λ r. (i : ℕ) × (l ≡ i + 1) × ((a : ℕ) × (slice_get (literals r) i ≡ Some a) × P r i a))

-- both atoms are in the book, and their stamps do not pass the test
abbrev pub Fails : {S : Type 0} → (S → S → Bool) → Meaning S → ℕ → ℕ → Type 0
Fails {S} test m a b = (s : S) × (t : S) × (stamp_of m a ≡ Some s) × (stamp_of m b ≡ Some t) × (test s t ≡ false)

-- what a fault says of a book
abbrev pub Breaks : {S : Type 0} → Tests S → Meaning S → CheckFault → Type 0
Breaks tests m TooLarge = (1024 < length m.atoms) ⊎ (1024 < length m.rules)
Breaks tests m (BodyTooLong k) = OfRule m k (λ r. (6 < length r.positives) ⊎ (6 < length r.negatives))
Breaks tests m (HeadMissing k) = OfRule m k (λ r. length m.atoms ≤ r.head)
Breaks tests m (HeadIsReading k) = OfRule m k (λ r. reading_of m r.head ≡ Some true)
Breaks tests m (LiteralMissing k l) = OfLiteral m k l (λ r i a. length m.atoms ≤ a)
Breaks tests m (PositiveOutOfOrder k l) = OfLiteral m k l (λ r i a. (i < length r.positives) × Fails tests.not_after m a r.head)
Breaks tests m (NegativeOutOfOrder k l) = OfLiteral m k l (λ r i a. (length r.positives ≤ i) × Fails tests.before m a r.head)

-- the rule in which a fault lies
abbrev pub rule_of : CheckFault → ℕ
rule_of TooLarge = 0
rule_of (BodyTooLong k) = k
rule_of (HeadMissing k) = k
rule_of (HeadIsReading k) = k
rule_of (LiteralMissing k l) = k
rule_of (PositiveOutOfOrder k l) = k
rule_of (NegativeOutOfOrder k l) = k

-- in which order a rule is tested: lengths, head there, head no reading, then of each literal that it is there and its stamp
abbrev pub step_of : CheckFault → ℕ
step_of TooLarge = 0
step_of (BodyTooLong k) = 0
step_of (HeadMissing k) = 1
step_of (HeadIsReading k) = 2
step_of (LiteralMissing k l) = 2 * l + 1
step_of (PositiveOutOfOrder k l) = 2 * l + 2
step_of (NegativeOutOfOrder k l) = 2 * l + 2

-- whether the fault is one of the counts
abbrev pub of_counts : CheckFault → Bool
of_counts TooLarge = true
of_counts (BodyTooLong k) = false
of_counts (HeadMissing k) = false
of_counts (HeadIsReading k) = false
of_counts (LiteralMissing k l) = false
of_counts (PositiveOutOfOrder k l) = false
of_counts (NegativeOutOfOrder k l) = false

-- the first fault is looked for before the second: counts, then rules by number, then the steps in a rule
abbrev pub Precedes : CheckFault → CheckFault → Type 0
Precedes g f =
    (of_counts f ≡ false) × ((of_counts g ≡ true) ⊎ ((rule_of g < rule_of f) ⊎ ((rule_of g ≡ rule_of f) × (step_of g < step_of f))))

-- the verdict accepts exactly the sound books, and a refusal is one of the check and names the first fault that the book has
pub record Judged {S : Type 0} (tests : Tests S) (m : Meaning S) (verdict : Result (Unit {0}) Fault) : Type 0 where
  pub accepts : verdict ≡ Ok tt → Sound tests m
  pub sound : Sound tests m → verdict ≡ Ok tt
  pub checks : (e : Fault) → verdict ≡ Err e → (f : CheckFault) × (e ≡ Checking f)
  pub refuses : (f : CheckFault) → verdict ≡ Err (Checking f) → Breaks tests m f
  pub first : (f : CheckFault) → verdict ≡ Err (Checking f) → (g : CheckFault) → Precedes g f → Breaks tests m g → ⊥
