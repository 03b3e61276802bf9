-- The tests of each order keep the laws.
use Rattle.std.specs.Prelude.{ℕ}
use Rattle.std.proofs.Common.{arith}
use Rattle.std.proofs.lemmas.Bool.Decides.{nat_tests}
use Rattle.stamps.specs.Orders.{Tests, IsLawful, tick_tests, route_tests, then_tests}
use Rattle.stamps.specs.Parts.{part_self, part_trans}

-- numbers keep the laws
pub tick_lawful : {S : Type 0} (number : S → ℕ) → IsLawful (tick_tests number)
tick_lawful number = record {
  reflexive = λ a. grind (arith, nat_tests);
  irreflexive = λ a. grind (arith, nat_tests);
  transitive = λ a b c p q. grind (arith, nat_tests);
  weakens = λ a b p. grind (arith, nat_tests);
  strict_left = λ a b c p q. grind (arith, nat_tests);
  strict_right = λ a b c p q. grind (arith, nat_tests);
}

-- sets of aisles keep the laws
pub route_lawful : {S : Type 0} (mask : S → ℕ) → IsLawful (route_tests mask)
route_lawful mask = record {
  reflexive = λ a. part_self (mask a);
  irreflexive = λ a. grind arith;
  transitive = λ a b c. part_trans (mask a) (mask b) (mask c);
  weakens = λ a b p. grind arith;
  strict_left = λ a b c p q. grind (arith, part_trans);
  strict_right = λ a b c p q. grind (arith, part_trans);
}

-- two orders that keep the laws, one after the other, keep them
pub then_lawful : {S X Y : Type 0} (one : Tests X) (two : Tests Y) (first : S → X) (second : S → Y) → IsLawful one → IsLawful two → IsLawful (then_tests one two first second)
then_lawful one two first second l m = record {
  reflexive = λ a. grind (arith, l.reflexive, m.reflexive);
  irreflexive = λ a. grind (arith, l.irreflexive, m.irreflexive);
  transitive = λ a b c p q. grind (arith, l.transitive, l.weakens, l.strict_left, l.strict_right, m.transitive);
  weakens = λ a b p. grind (arith, m.weakens);
  strict_left = λ a b c p q. grind (arith, l.transitive, l.weakens, l.strict_left, l.strict_right, m.strict_left);
  strict_right = λ a b c p q. grind (arith, l.transitive, l.weakens, l.strict_left, l.strict_right, m.strict_right);
}
