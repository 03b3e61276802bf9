-- What the writer of a book refuses, and what the sheet then holds.
use Rattle.std.specs.Prelude.{ℕ, ◌+◌, cond, ◌||◌, List, ◌++◌, length, drop, is_some, Some, None, Ok, Err, Option, Result, nat_lt}
use Rattle.books.specs.Check.{first_below}
use Rattle.std.specs.Option.{option_and_then}
use Rattle.books.specs.Meaning.{Meaning, rule_at, stamp_of, literal_of}
use Rattle.books.specs.declared.fault.CheckFault.{CheckFault}
use Rattle.books.specs.declared.fault.CheckFault.TheVariants.{TooLarge, BodyTooLong, HeadMissing, LiteralMissing}
use Rattle.books.specs.declared.fault.MakeFault.TheVariants.{SheetTooShort}
use Rattle.books.specs.declared.fault.Fault.{Fault}
use Rattle.books.specs.declared.fault.Fault.TheVariants.{Checking, Making}

-- the fault, where the atom is not in the book
abbrev pub missing : {S : Type 0} → Meaning S → CheckFault → ℕ → Option CheckFault
missing m f a = cond (is_some (stamp_of m a)) None (Some f)

-- the fault of literal i + 1 of rule k
abbrev pub literal_gap : {S : Type 0} → Meaning S → ℕ → ℕ → Option CheckFault
literal_gap m k i = option_and_then (missing m (LiteralMissing k (i + 1))) (literal_of m k i)

-- the first fault of the rule of number k: lengths, head, then the literals
abbrev pub rule_gap : {S : Type 0} → Meaning S → ℕ → Option CheckFault
rule_gap m k =
    option_and_then
    (λ r. cond (nat_lt 6 (length r.positives) || nat_lt 6 (length r.negatives))
    (Some (BodyTooLong k))
    (cond (is_some (stamp_of m r.head))
    (first_below (length r.positives + length r.negatives) (literal_gap m k))
    (Some (HeadMissing k))))
    (rule_at m k)

-- the first fault that keeps a book from being written, in the order of the check
abbrev pub book_gap : {S : Type 0} → Meaning S → Option CheckFault
book_gap m =
    cond (nat_lt 1024 (length m.atoms) || nat_lt 1024 (length m.rules))
    (Some TooLarge)
    (first_below (length m.rules) (rule_gap m))

-- the length of the text, where the sheet is long enough
abbrev pub fitting : ℕ → ℕ → Result ℕ Fault
fitting needed room = cond (nat_lt room needed) (Err (Making (SheetTooShort needed))) (Ok needed)

-- the answer of a writer whose text is so long
abbrev pub write_answer : Option CheckFault → ℕ → ℕ → Result ℕ Fault
write_answer None needed room = fitting needed room
write_answer (Some f) needed room = Err (Checking f)

-- the sheet after it: the text and then what stood there, or the sheet as it was
abbrev pub sheet_after : Result ℕ Fault → List ℕ → List ℕ → List ℕ
sheet_after (Ok n) text sheet = text ++ drop (length text) sheet
sheet_after (Err e) text sheet = sheet
