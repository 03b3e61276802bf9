-- The layer, number and values of every refusal.
use Rattle.std.specs.Prelude.{ℕ}
use Rattle.books.specs.declared.fault.Layer.TheVariants.{Reading, Checking}
use Rattle.books.specs.declared.fault.Values.{Values}
use Rattle.books.specs.declared.fault.Values.TheVariants.{One, RuleLiteral}
use Rattle.books.specs.declared.fault.Refusal.{Refusal}
use Rattle.books.specs.declared.fault.ReadFault.{ReadFault}
use Rattle.books.specs.declared.fault.ReadFault.TheVariants.{Byte, NotRising, Number, TooMany, AtomMissing}
use Rattle.books.specs.declared.fault.CheckFault.{CheckFault}
use Rattle.books.specs.declared.fault.CheckFault.TheVariants.{TooLarge, BodyTooLong, HeadMissing, HeadIsReading, LiteralMissing, PositiveOutOfOrder, NegativeOutOfOrder}
use Rattle.books.specs.declared.fault.MakeFault.{MakeFault}
use Rattle.books.specs.declared.fault.MakeFault.TheVariants.{SlotMissing, RuleMissing, SheetTooShort}
use Rattle.books.specs.declared.fault.Fault.{Fault}
use Rattle.books.specs.declared.fault.Fault.TheVariants as fault

-- a refusal of the check or of a making, with the rule and the literal that it names
abbrev pub checking_at : ℕ → ℕ → ℕ → Refusal
checking_at number rule literal = record { layer = Checking; number = number; values = RuleLiteral rule literal }

-- a refusal of the check
abbrev pub check_refusal : CheckFault → Refusal
check_refusal TooLarge = checking_at 3 0 0
check_refusal (BodyTooLong rule) = checking_at 3 rule 0
check_refusal (HeadMissing rule) = checking_at 4 rule 0
check_refusal (HeadIsReading rule) = checking_at 5 rule 0
check_refusal (LiteralMissing rule literal) = checking_at 4 rule literal
check_refusal (PositiveOutOfOrder rule literal) = checking_at 6 rule literal
check_refusal (NegativeOutOfOrder rule literal) = checking_at 7 rule literal

-- a refusal of making, striking or writing
abbrev pub make_refusal : MakeFault → Refusal
make_refusal (SlotMissing pattern literal) = checking_at 4 pattern literal
make_refusal (RuleMissing rule) = checking_at 4 rule 0
make_refusal (SheetTooShort needed) = record { layer = Checking; number = 17; values = One needed }

-- a refusal of the reader, with what it names
abbrev pub reading_at : ℕ → Values → Refusal
reading_at number values = record { layer = Reading; number = number; values = values }

-- a refusal of the reading of a text
abbrev pub read_refusal : ReadFault → Refusal
read_refusal (Byte place) = reading_at 1 (One place)
read_refusal (NotRising place) = reading_at 1 (One place)
read_refusal (Number place) = reading_at 2 (One place)
read_refusal (TooMany place) = reading_at 3 (One place)
read_refusal (AtomMissing rule literal) = reading_at 4 (RuleLiteral rule literal)

-- every refusal of the product
abbrev pub refusal_of : Fault → Refusal
refusal_of (fault.Reading f) = read_refusal f
refusal_of (fault.Checking f) = check_refusal f
refusal_of (fault.Making f) = make_refusal f
