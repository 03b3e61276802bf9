-- A reader of pieces agrees with a grammar of pieces.
use Rattle.std.specs.Prelude.{◌≡◌, ℕ, ◌+◌, ◌≤◌, ◌⊎◌, List, ◌++◌, length, drop, None, Ok, Err, Result}
use Rattle.std.specs.List.{slice_get}
use Rattle.books.specs.declared.fault.ReadFault.TheVariants.{Byte, NotRising, Number, TooMany, AtomMissing}
use Rattle.books.specs.declared.fault.Fault.{Fault}
use Rattle.books.specs.declared.fault.Fault.TheVariants.{Reading, Checking, Making}
use Rattle.text.specs.Numbers.{digit_of}
use Rattle.grammar.specs.Pieces.{Care, shape, kept, plain}

-- P of the place, where the fault is a byte that is not allowed
abbrev pub AtByte : Fault → (ℕ → Type 0) → Type 0
AtByte (Reading (Byte k)) P = P k
AtByte (Reading (NotRising k)) P = Unit {0}
AtByte (Reading (Number k)) P = Unit {0}
AtByte (Reading (TooMany k)) P = Unit {0}
AtByte (Reading (AtomMissing r l)) P = Unit {0}
AtByte (Checking f) P = Unit {0}
AtByte (Making f) P = Unit {0}

-- the two texts have the same bytes up to a place and at it
abbrev pub Same : List ℕ → List ℕ → ℕ → Type 0
Same text other n = (i : ℕ) → i ≤ n → slice_get text i ≡ slice_get other i

-- an answer is the other text's too, where the texts are the same up to the answer's place
abbrev pub Shared : {X : Type 0} → Result (X × ℕ) Fault → Result (X × ℕ) Fault → List ℕ → List ℕ → Type 0
Shared (Ok p) answer text other = Same text other p.1 → answer ≡ Ok p
Shared (Err e) answer text other = AtByte e (λ k. Same text other k → answer ≡ Err e)

-- the bytes of a text from one place to another
pub record Between (text : List ℕ) (at next : ℕ) (piece : List ℕ) : Type 0 where
  pub stands : drop at text ≡ piece ++ drop next text
  pub place : next ≡ at + length piece

-- what is read is a piece of the grammar; what stands before a byte that is not allowed begins one
abbrev pub Seen : {X : Type 0} → (Care → X → List ℕ → Type 0) → Result (X × ℕ) Fault → List ℕ → ℕ → Type 0
Seen G (Ok p) text at = (piece : List ℕ) × Between text at p.1 piece × G kept p.0 piece
Seen {X} G (Err e) text at = AtByte e (λ k. (piece : List ℕ) × (more : List ℕ) × (x : X) × Between text at k piece × G shape x (piece ++ more))

-- only the shape is kept
abbrev pub ShapeOnly : Care → Type 0
ShapeOnly shape = Unit {0}
ShapeOnly kept = ⊥
ShapeOnly plain = ⊥

-- a piece of the grammar is read as what it spells; where only its shape is kept it may be refused, but not for a byte
abbrev pub Reads : {X : Type 0} → Care → Result (X × ℕ) Fault → X → ℕ → Type 0
Reads c answer x next = (answer ≡ Ok (x, next)) ⊎ (ShapeOnly c × ((e : Fault) × (answer ≡ Err e) × AtByte e (λ _. ⊥)))

-- reading by P is reading the pieces of G, where Stop holds of what follows them
pub record Agrees {X : Type 0} (P : List ℕ → ℕ → Result (X × ℕ) Fault) (G : Care → X → List ℕ → Type 0) (Stop : List ℕ → Type 0) : Type 0 where
  -- whatever rules a piece keeps, it has the shape
  pub shaped : (c : Care) (x : X) (piece : List ℕ) → G c x piece → G shape x piece
  -- some piece has the shape
  pub sample : (x : X) × (piece : List ℕ) × G shape x piece
  -- the answer goes only by the bytes up to its place
  pub shared : (text other : List ℕ) (at : ℕ) → Shared (P text at) (P other at) text other
  -- what is passed over is a piece, or begins one
  pub seen : (text : List ℕ) (at : ℕ) → Seen G (P text at) text at
  -- a piece is read as what it spells
  pub reads : (c : Care) (x : X) (piece rest text : List ℕ) (at : ℕ) → G c x piece → Stop rest → drop at text ≡ piece ++ rest → Reads c (P text at) x (at + length piece)

-- a text that does not begin with a digit
abbrev pub NoDigit : List ℕ → Type 0
NoDigit rest = digit_of (slice_get rest 0) ≡ None
