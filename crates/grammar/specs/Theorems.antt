-- What ties reading and writing to the grammar.
use Rattle.std.specs.Prelude.{◌≡◌, ℕ, ◌+◌, ◌<◌, ◌≤◌, min, List, ◌++◌, length, take, None, Ok, Err, Result}
use Rattle.std.specs.List.{AllByRecursion}
use Rattle.books.specs.Meaning.{Atom, Meaning}
use Rattle.books.specs.declared.fault.ReadFault.TheVariants.{Byte}
use Rattle.books.specs.declared.fault.Fault.{Fault}
use Rattle.books.specs.declared.fault.Fault.TheVariants.{Reading}
use Rattle.text.specs.Reads.{book_at, room_of}
use Rattle.text.specs.Spelt.{book_text}
use Rattle.writing.specs.Replies.{canonical_at}
use Rattle.writing.specs.Writes.{book_gap}
use Rattle.grammar.specs.Pieces.{Care, shape, kept, plain}
use Rattle.grammar.specs.Grammar.{Spells}
use Rattle.grammar.specs.Notations.{Notation}
use Rattle.stamps.specs.Orders.{Tests}

-- tables of these lengths, and the limits of a book, take the book
pub record Takes {S : Type 0} (atoms rules : ℕ) (m : Meaning S) : Type 0 where
  pub few_atoms : length m.atoms ≤ min atoms 1024
  pub few_rules : length m.rules ≤ min rules 1024

module _ {S : Type 0} (n : Notation S) where
  -- the book of a text, read into tables of these lengths
  abbrev pub read_as : List ℕ → ℕ → ℕ → Result (Meaning S) Fault
  read_as text atoms rules = book_at n.stamp_at n.word text (room_of atoms rules)

  -- the text that is written of a book
  abbrev pub written_of : Meaning S → List ℕ
  written_of m = book_text n.word n.spelt m

  -- the text spells the book, and keeps so much of the rules
  abbrev pub SpeltBy : Care → Meaning S → List ℕ → Type 0
  SpeltBy c m text = Spells n.word n.spells c m text

  -- each stamp of the book is one that the machine holds
  abbrev pub Fitting : Meaning S → Type 0
  Fitting m = AllByRecursion (λ (a : Atom S). n.Fits a.stamp) m.atoms

  -- a text is read as a book exactly where it spells the book, keeping every rule, and the tables take it
  pub record ReadAsSpelt (text : List ℕ) (atoms rules : ℕ) (m : Meaning S) : Type 0 where
    pub spelling : read_as text atoms rules ≡ Ok m → SpeltBy kept m text
    pub takes : read_as text atoms rules ≡ Ok m → Takes atoms rules m
    pub reads : SpeltBy kept m text → Takes atoms rules m → read_as text atoms rules ≡ Ok m

  -- it is so of every text, tables of every length and every book
  abbrev pub ReadingIsTheGrammar : Type 0
  ReadingIsTheGrammar = (text : List ℕ) (atoms rules : ℕ) (m : Meaning S) → ReadAsSpelt text atoms rules m

  -- a book that the writer takes is read back from its text as it was
  abbrev pub WrittenIsReadBack : Type 0
  WrittenIsReadBack = (atoms rules : ℕ) (m : Meaning S) → book_gap m ≡ None → Fitting m → Takes atoms rules m → read_as (written_of m) atoms rules ≡ Ok m

  -- the writer takes the book; its text is canonical and is read as the same book
  pub record ComesBack (atoms rules : ℕ) (m : Meaning S) : Type 0 where
    pub written : book_gap m ≡ None
    pub held : Fitting m
    pub canonical : SpeltBy plain m (written_of m)
    pub same : read_as (written_of m) atoms rules ≡ Ok m

  -- it is so of the book of every accepted text
  abbrev pub AcceptedComesBack : Type 0
  AcceptedComesBack = (text : List ℕ) (atoms rules : ℕ) (m : Meaning S) → read_as text atoms rules ≡ Ok m → ComesBack atoms rules m

  -- a text with no leading zero that spells a book is read as it, where the tables take it, and is the one that is written of it
  pub record Unchanged (text : List ℕ) (m : Meaning S) : Type 0 where
    pub read : (atoms rules : ℕ) → Takes atoms rules m → read_as text atoms rules ≡ Ok m
    pub written : written_of m ≡ text

  -- it is so of every such text
  abbrev pub CanonicalIsUnchanged : Type 0
  CanonicalIsUnchanged = (text : List ℕ) (m : Meaning S) → SpeltBy plain m text → Unchanged text m

  -- what `canonical` answers to a text it answers to that answer, whatever the order of the stamps
  abbrev pub AnswerIsItsOwn : Type 0
  AnswerIsItsOwn =
      (tests : Tests S) (text answer : List ℕ) (atoms rules room : ℕ)
      → canonical_at n.stamp_at n.word n.spelt tests text atoms rules room ≡ Ok answer
      → canonical_at n.stamp_at n.word n.spelt tests answer atoms rules room ≡ Ok answer

  -- each degree of care keeps what the lower one keeps
  pub record Nested (m : Meaning S) (text : List ℕ) : Type 0 where
    pub plainly : SpeltBy plain m text → SpeltBy kept m text
    pub shapely : SpeltBy kept m text → SpeltBy shape m text

  -- it is so of every text and book
  abbrev pub DegreesNest : Type 0
  DegreesNest = (m : Meaning S) (text : List ℕ) → Nested m text

  -- the text has the shape of some book's
  abbrev pub Shaped : List ℕ → Type 0
  Shaped text = (m : Meaning S) × SpeltBy shape m text

  -- what stands before the place begins a text of the grammar's shape, and with the byte at the place it begins none
  pub record RefusedThere (text : List ℕ) (k : ℕ) : Type 0 where
    pub within : k ≤ length text
    pub before : (more : List ℕ) × Shaped (take k text ++ more)
    pub none : k < length text → (more : List ℕ) → Shaped (take (k + 1) text ++ more) → ⊥

  -- it is so of every text that is refused for a byte
  abbrev pub RefusedAtTheFirstByte : Type 0
  RefusedAtTheFirstByte = (text : List ℕ) (atoms rules k : ℕ) → read_as text atoms rules ≡ Err (Reading (Byte k)) → RefusedThere text k

  -- all of it: the laws of the text at a kind of stamp
  pub record TextLaws : Type 0 where
    pub reading : ReadingIsTheGrammar
    pub degrees : DegreesNest
    pub back : WrittenIsReadBack
    pub accepted : AcceptedComesBack
    pub unchanged : CanonicalIsUnchanged
    pub answer : AnswerIsItsOwn
    pub refused : RefusedAtTheFirstByte
