-- The check of a book: which fault is met first, if any.
use Rattle.std.specs.Prelude.{ℕ, zero, suc, ◌+◌, Bool, true, false, cond, ◌||◌, ◌≡◌, ◌<◌, length, Some, None, Ok, Err, Option, Result, nat_lt}
use Rattle.std.specs.List.{slice_get}
use Rattle.std.specs.Option.{option_or, option_map, option_and_then}
use Rattle.books.specs.Meaning.{Atom, Meaning, rule_at, stamp_of, literal_of}
use Rattle.stamps.specs.Orders.{Tests}
use Rattle.books.specs.declared.walk.Asked.{Asked}
use Rattle.books.specs.declared.walk.Asked.TheVariants.{Declared, Ordered}
use Rattle.books.specs.declared.fault.CheckFault.{CheckFault}
use Rattle.books.specs.declared.fault.CheckFault.TheVariants.{TooLarge, BodyTooLong, HeadMissing, HeadIsReading, LiteralMissing, PositiveOutOfOrder, NegativeOutOfOrder}
use Rattle.books.specs.declared.fault.Fault.{Fault}
use Rattle.books.specs.declared.fault.Fault.TheVariants.{Checking}

-- the first that f gives at the numbers below n; std has a word for the first of a list, and none for this
abbrev pub first_below : {X : Type 0} → ℕ → (ℕ → Option X) → Option X
first_below zero f = None
first_below (suc n) f = option_or (first_below n f) (f n)

-- a literal's fault, given its atom's stamp: the atom is missing, or its stamp does not fit the head's
abbrev pub stamp_fault : {S : Type 0} → (S → Bool) → CheckFault → CheckFault → Option S → Option CheckFault
stamp_fault fits missing disorder None = Some missing
stamp_fault fits missing disorder (Some s) = cond (fits s) None (Some disorder)

-- the fault of literal i + 1 of rule k, which has p positives and whose head has the stamp h
abbrev pub literal_fault : {S : Type 0} → Tests S → Meaning S → ℕ → ℕ → S → ℕ → Option CheckFault
literal_fault tests m k p h i =
    option_and_then
    (λ a. cond (nat_lt i p)
    (stamp_fault (λ s. tests.not_after s h) (LiteralMissing k (i + 1)) (PositiveOutOfOrder k (i + 1)) (stamp_of m a))
    (stamp_fault (λ s. tests.before s h) (LiteralMissing k (i + 1)) (NegativeOutOfOrder k (i + 1)) (stamp_of m a)))
    (literal_of m k i)

-- the first fault among the literals of rule k, which has p positives and n negatives
abbrev pub body_fault : {S : Type 0} → Tests S → Meaning S → ℕ → ℕ → ℕ → S → Option CheckFault
body_fault tests m k p n h = first_below (p + n) (literal_fault tests m k p h)

-- what a walk asks of stamps: nothing where the atoms are only to be there
abbrev pub asked_tests : {S : Type 0} → Asked → Tests S → Tests S
asked_tests Declared tests = record { before = λ s h. true; not_after = λ s h. true }
asked_tests Ordered tests = tests

-- whether a walk refuses a head for being a reading
abbrev pub barred : Asked → Bool → Bool
barred Declared reading = false
barred Ordered reading = reading

-- the first fault from the head on: it is missing, it is a reading, or a literal is at fault
abbrev pub head_walk : {S : Type 0} → Asked → Tests S → Meaning S → ℕ → ℕ → ℕ → Option (Atom S) → Option CheckFault
head_walk asked tests m k p n None = Some (HeadMissing k)
head_walk asked tests m k p n (Some a) =
    cond (barred asked a.reading) (Some (HeadIsReading k)) (body_fault (asked_tests asked tests) m k p n a.stamp)

-- the first fault of the rule of number k that a walk meets
abbrev pub rule_walk : {S : Type 0} → Asked → Tests S → Meaning S → ℕ → Option CheckFault
rule_walk asked tests m k =
    option_and_then
    (λ r. cond (nat_lt 6 (length r.positives) || nat_lt 6 (length r.negatives))
    (Some (BodyTooLong k))
    (head_walk asked tests m k (length r.positives) (length r.negatives) (slice_get m.atoms r.head)))
    (rule_at m k)

-- the first fault of the book that a walk meets: both counts, then the rules by number
abbrev pub book_walk : {S : Type 0} → Asked → Tests S → Meaning S → Option CheckFault
book_walk asked tests m =
    cond (nat_lt 1024 (length m.atoms) || nat_lt 1024 (length m.rules))
    (Some TooLarge)
    (first_below (length m.rules) (rule_walk asked tests m))

-- the same for the check, which asks all
abbrev pub head_fault : {S : Type 0} → Tests S → Meaning S → ℕ → ℕ → ℕ → Option (Atom S) → Option CheckFault
head_fault = head_walk Ordered

-- the first fault of the rule of number k that the check meets
abbrev pub rule_fault : {S : Type 0} → Tests S → Meaning S → ℕ → Option CheckFault
rule_fault = rule_walk Ordered

-- the first fault of the book that the check meets
abbrev pub book_fault : {S : Type 0} → Tests S → Meaning S → Option CheckFault
book_fault = book_walk Ordered

-- a call that answers nothing, and is refused by the fault, where there is one
abbrev pub refused_by : {E : Type 0} → Option E → Result (Unit {0}) E
refused_by None = Ok tt
refused_by (Some e) = Err e

-- the same, refused by the fault as one of all faults
abbrev pub unless : Option CheckFault → Result (Unit {0}) Fault
unless fault = refused_by (option_map Checking fault)

-- each answer at a number below n is refused by what f gives there
abbrev pub Answers : {E : Type 0} → (ℕ → Result (Unit {0}) E → Type 0) → ℕ → (ℕ → Option E) → Type 0
Answers {E} post n f = (i : ℕ) (r : Result (Unit {0}) E) → i < n → post i r → r ≡ refused_by (f i)
