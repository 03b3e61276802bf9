-- The two tests of a stamp order, the laws that every order keeps, and the tests of the three orders.
use Rattle.std.specs.Prelude.{◌≡◌, ℕ, Bool, false, ◌&&◌, ◌||◌, nat_lt, nat_le}
use Rattle.std.specs.Bool.{IsTrue}
use Rattle.stamps.specs.Aisles.{part_of, proper_part}

-- what is asked of two stamps: whether the first is before the second, and whether it is not after it
pub record Tests (S : Type 0) : Type 0 where
  pub before : S → S → Bool
  pub not_after : S → S → Bool

-- each of the two is not after the other
abbrev pub level : {S : Type 0} → Tests S → S → S → Bool
level tests a b = tests.not_after a b && tests.not_after b a

-- the laws of an order
pub record IsLawful {S : Type 0} (tests : Tests S) : Type 0 where
  pub reflexive : (a : S) → IsTrue (tests.not_after a a)
  pub irreflexive : (a : S) → tests.before a a ≡ false
  pub transitive : (a b c : S) → IsTrue (tests.not_after a b) → IsTrue (tests.not_after b c) → IsTrue (tests.not_after a c)
  pub weakens : (a b : S) → IsTrue (tests.before a b) → IsTrue (tests.not_after a b)
  pub strict_left : (a b c : S) → IsTrue (tests.before a b) → IsTrue (tests.not_after b c) → IsTrue (tests.before a c)
  pub strict_right : (a b c : S) → IsTrue (tests.not_after a b) → IsTrue (tests.before b c) → IsTrue (tests.before a c)

-- stamps that stand for a number: before is less, not after is at most
abbrev pub tick_tests : {S : Type 0} → (S → ℕ) → Tests S
tick_tests number = record { before = λ a b. nat_lt (number a) (number b); not_after = λ a b. nat_le (number a) (number b) }

-- stamps that stand for a mask of aisles: before is part of and not equal, not after is part of
abbrev pub route_tests : {S : Type 0} → (S → ℕ) → Tests S
route_tests mask = record { before = λ a b. proper_part (mask a) (mask b); not_after = λ a b. part_of (mask a) (mask b) }

-- stamps of two parts: the first parts decide, and where they are level the second parts do
abbrev pub then_tests : {S X Y : Type 0} → Tests X → Tests Y → (S → X) → (S → Y) → Tests S
then_tests one two first second = record {
  before = λ a b. one.before (first a) (first b) || (level one (first a) (first b) && two.before (second a) (second b));
  not_after = λ a b. one.before (first a) (first b) || (level one (first a) (first b) && two.not_after (second a) (second b));
}
