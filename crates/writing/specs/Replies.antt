-- What the program that reads, checks and writes a book answers.
use Rattle.std.specs.Prelude.{◌≡◌, ℕ, ◌≤◌, cond, List, ◌++◌, length, drop, Some, None, Ok, Err, codes, decimal, Option, Result, nat_lt}
use Rattle.books.specs.Check.{book_fault, unless}
use Rattle.books.specs.Meaning.{Meaning}
use Rattle.books.specs.declared.fault.Fault.{Fault}
use Rattle.books.specs.declared.fault.Refusal.{Refusal}
use Rattle.books.specs.declared.fault.Values.{Values}
use Rattle.books.specs.declared.fault.Values.TheVariants.{One, RuleLiteral}
use Rattle.books.specs.Faults.{refusal_of}
use Rattle.books.specs.declared.fault.Fault.TheVariants.{Reading}
use Rattle.books.specs.declared.fault.ReadFault.TheVariants.{TooMany}
use Rattle.stamps.specs.Kinds as kinds
use Rattle.stamps.specs.Orders.{Tests}
use Rattle.text.specs.Bytes.{and_then, wrong_at}
use Rattle.text.specs.Orders.{word_of, order_refused}
use Rattle.text.specs.Stamps.{tick_at, route_at, pair_at, tick_word, route_word, then_word}
use Rattle.text.specs.declared.order.Word.{Word}
use Rattle.text.specs.declared.order.Word.TheVariants as word
use Rattle.text.specs.Forms.{closing}
use Rattle.text.specs.Reads.{book_at, room_of}
use Rattle.text.specs.Spelt.{book_text, space, tick_text, route_text, pair_text}
use Rattle.writing.specs.Writes.{book_gap, write_answer}

-- how a refusal begins
abbrev pub no_opening : List ℕ
no_opening = codes "(no "

-- one number, or rule and literal
abbrev pub values_text : Values → List ℕ
values_text (One a) = decimal a
values_text (RuleLiteral r l) = decimal r ++ space ++ decimal l

-- (no C A), or (no C R L) where rule and literal are returned
abbrev pub refusal_text : Refusal → List ℕ
refusal_text f = no_opening ++ decimal f.number ++ space ++ values_text f.values ++ closing

-- a book's canonical text, where the check accepts the book and the text has room
abbrev pub checked_text : {S : Type 0} → List ℕ → (S → List ℕ) → Tests S → Meaning S → ℕ → Result (List ℕ) Fault
checked_text spelling spelt tests m room =
    and_then (unless (book_fault tests m))
    (λ _. and_then (write_answer (book_gap m) (length (book_text spelling spelt m)) room) (λ _. Ok (book_text spelling spelt m)))

-- the canonical text of a text, where it is read and its book is accepted
abbrev pub canonical_at : {S : Type 0} → (List ℕ → ℕ → Result (S × ℕ) Fault) → List ℕ → (S → List ℕ) → Tests S → List ℕ → ℕ → ℕ → ℕ → Result (List ℕ) Fault
canonical_at stamp_at spelling spelt tests text atoms rules room =
    and_then (book_at stamp_at spelling text (room_of atoms rules)) (λ m. checked_text spelling spelt tests m room)

-- the length of what is found
abbrev pub length_of : Result (List ℕ) Fault → Result ℕ Fault
length_of (Ok text) = Ok (length text)
length_of (Err e) = Err e

-- the sheet with what is found at its front
abbrev pub sheet_with : Result (List ℕ) Fault → List ℕ → List ℕ
sheet_with (Ok text) sheet = text ++ drop (length text) sheet
sheet_with (Err e) sheet = sheet

-- what is found has room on the sheet
abbrev pub FitsOn : Result (List ℕ) Fault → ℕ → Type 0
FitsOn (Ok text) room = length text ≤ room
FitsOn (Err e) room = Unit {0}

-- the text stands at the sheet's front and its length is answered, or the sheet is as it was
pub record Replied (found : Result (List ℕ) Fault) (answer : Result ℕ Fault) (old new : List ℕ) : Type 0 where
  pub answered : answer ≡ length_of found
  pub sheet : new ≡ sheet_with found old
  pub fits : FitsOn found (length old)

-- the choice that a word has in a table
abbrev pub by_word : {X : Type 0} → Option Word → X → X → X → X → X
by_word (Some word.Tick) t r h n = t
by_word (Some word.Route) t r h n = r
by_word (Some word.Then) t r h n = h
by_word None t r h n = n

-- the canonical text of an input, whatever its order; it has at most 65,536 bytes
unfoldable pub program_at : List ℕ → ℕ → ℕ → ℕ → ℕ → ℕ → Result (List ℕ) Fault
program_at text ticks routes pairs rules room =
    cond (nat_lt 65536 (length text)) (Err (Reading (TooMany 0)))
    (by_word (word_of text)
    (canonical_at tick_at tick_word tick_text kinds.ticks text ticks rules room)
    (canonical_at route_at route_word route_text kinds.routes text routes rules room)
    (canonical_at pair_at then_word pair_text kinds.pairs text pairs rules room)
    (wrong_at (order_refused text)))

-- what the program writes: the canonical text, or one line with the refusal
abbrev pub reply_text : Result (List ℕ) Fault → List ℕ
reply_text (Ok text) = text
reply_text (Err e) = refusal_text (refusal_of e)
