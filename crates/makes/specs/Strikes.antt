-- A book in which some rule numbers are struck.
use Rattle.std.specs.Prelude.{◌≡◌, ℕ, suc, Bool, cond, ◌||◌, List, [], ◌∷◌, length, Some, None, Option, nat_le}
use Rattle.books.specs.Meaning.{Rule, Meaning, rule_at}
use Rattle.books.specs.Judged.{Sound}
use Rattle.books.specs.declared.fault.MakeFault.{MakeFault}
use Rattle.books.specs.declared.fault.MakeFault.TheVariants.{RuleMissing}
use Rattle.words.specs.Members.{with_number}
use Rattle.stamps.specs.Orders.{Tests}

-- the rules from number k on, those whose number is in the set made vacant
abbrev pub strike_from : (ℕ → Bool) → ℕ → List (Option Rule) → List (Option Rule)
strike_from struck k [] = []
strike_from struck k (r ∷ rest) = cond (struck k) None r ∷ strike_from struck (suc k) rest

-- the book with the rule numbers of the set vacant, and all else as below
abbrev pub struck_meaning : {S : Type 0} → (ℕ → Bool) → Meaning S → Meaning S
struck_meaning struck m = record { atoms = m.atoms; rules = strike_from struck 0 m.rules }

-- striking is refused for a number above 1,023 and for one that the book below lacks
abbrev pub strike_fault : {S : Type 0} → Meaning S → ℕ → Option MakeFault
strike_fault m rule = cond (nat_le 1024 rule || nat_le (length m.rules) rule) (Some (RuleMissing rule)) None

-- the set after striking: with the number, or as it was where that is refused
abbrev pub struck_set : Option MakeFault → List ℕ → ℕ → List ℕ
struck_set None words rule = with_number words rule
struck_set (Some f) words rule = words

-- Atoms and counts are as below, a struck number is vacant, any other is as below, and a book that passes the check still does.
pub record StandsOver {S : Type 0} (tests : Tests S) (struck : ℕ → Bool) (below m : Meaning S) : Type 0 where
  pub atoms : m.atoms ≡ below.atoms
  pub count : length m.rules ≡ length below.rules
  pub rule : (k : ℕ) → rule_at m k ≡ cond (struck k) None (rule_at below k)
  pub passes : Sound tests below → Sound tests m
