-- Readers that go one way or another: by a byte, or by a test of what was read.
use Rattle.std.proofs.Common.{◌≡◌, ℕ, ◌+◌, Bool, true, false, cond, not, ◌⊎◌, List, ◌++◌, length, drop, Ok, Err, Result, sym, refl, ap, ◌∙◌, subst, inl, inr, arith}
use Rattle.std.proofs.lemmas.Bool.{not-true}
use Rattle.std.specs.List.{slice_get}
use Rattle.books.specs.declared.fault.Fault.{Fault}
use Rattle.text.specs.Words.{is_byte}
use Rattle.grammar.specs.Pieces.{Care, shape, kept, plain, Kept}
use Rattle.grammar.specs.Agreement.{AtByte, Same, Shared, Seen, Reads, Agrees}
use Rattle.grammar.proofs.AgreeCombined.{at_byte_map, at_byte_both, not_at_byte, Reaches, seen_reaches, same_below, agrees_if, agrees_same, agrees_as}
use Rattle.grammar.proofs.Degrees.{kept_map}
use Rattle.grammar.proofs.RestOfText.{slice_get_front}

-- an answer that another text's answer equals, where both have the same byte at a place
shared_by : {X : Type 0} (text other : List ℕ) (at : ℕ) (v w r : Result (X × ℕ) Fault) → Shared v w text other → Reaches at v → (Same text other at → r ≡ w) → Shared v r text other
shared_by text other at (Ok p) w r s n h = λ same. h (same_below text other at p.1 n same) ∙ s same
shared_by text other at (Err e) w r s n h =
    at_byte_map e (λ k both same. h (same_below text other at k both.1 same) ∙ both.0 same) (at_byte_both e _ _ s n)

seen_left : {X : Type 0} (G H : Care → X → List ℕ → Type 0) (r : Result (X × ℕ) Fault) (text : List ℕ) (at : ℕ) → Seen G r text at → Seen (λ c x piece. G c x piece ⊎ H c x piece) r text at
seen_left G H (Ok p) text at (piece, b, g) = (piece, b, inl g)
seen_left G H (Err e) text at h = at_byte_map e (λ k (piece, more, x, b, g). (piece, more, x, b, inl g)) h

seen_right : {X : Type 0} (G H : Care → X → List ℕ → Type 0) (r : Result (X × ℕ) Fault) (text : List ℕ) (at : ℕ) → Seen H r text at → Seen (λ c x piece. G c x piece ⊎ H c x piece) r text at
seen_right G H (Ok p) text at (piece, b, g) = (piece, b, inr g)
seen_right G H (Err e) text at h = at_byte_map e (λ k (piece, more, x, b, g). (piece, more, x, b, inr g)) h

-- one reader where a byte stands, another where it does not
module _ {X : Type 0} (byte : ℕ) (P Q : List ℕ → ℕ → Result (X × ℕ) Fault) (G H : Care → X → List ℕ → Type 0) (Stop : List ℕ → Type 0) where
  abbrev Either : Care → X → List ℕ → Type 0
  Either c x piece = G c x piece ⊎ H c x piece

  abbrev choose : Bool → List ℕ → ℕ → Result (X × ℕ) Fault
  choose b text at = cond b (P text at) (Q text at)

  abbrev chosen : List ℕ → ℕ → Result (X × ℕ) Fault
  chosen text at = choose (is_byte byte (slice_get text at)) text at

  module _ (a : Agrees P G Stop) (b : Agrees Q H Stop) (here : (c : Care) (x : X) (piece rest : List ℕ) → G c x piece → is_byte byte (slice_get (piece ++ rest) 0) ≡ true) (away : (c : Care) (x : X) (piece rest : List ℕ) → H c x piece → is_byte byte (slice_get (piece ++ rest) 0) ≡ false) where
    seen_choice : (t : Bool) (text : List ℕ) (at : ℕ) → Seen Either (choose t text at) text at
    seen_choice true text at = seen_left G H (P text at) text at (a.seen text at)
    seen_choice false text at = seen_right G H (Q text at) text at (b.seen text at)

    shared_choice : (t : Bool) (text other : List ℕ) (at : ℕ) (r : Result (X × ℕ) Fault) → (Same text other at → r ≡ choose t other at) → Shared (choose t text at) r text other
    shared_choice true text other at r h = shared_by text other at (P text at) (P other at) r (a.shared text other at) (seen_reaches G (P text at) text at (a.seen text at)) h
    shared_choice false text other at r h = shared_by text other at (Q text at) (Q other at) r (b.shared text other at) (seen_reaches H (Q text at) text at (b.seen text at)) h

    told : (text : List ℕ) (at : ℕ) (piece rest : List ℕ) → drop at text ≡ piece ++ rest → is_byte byte (slice_get text at) ≡ is_byte byte (slice_get (piece ++ rest) 0)
    told text at piece rest d = ap (is_byte byte) (slice_get_front text at ∙ ap (λ t. slice_get t 0) d)

    reads_choice : (c : Care) (x : X) (piece rest text : List ℕ) (at : ℕ) → Either c x piece → Stop rest → drop at text ≡ piece ++ rest → Reads c (chosen text at) x (at + length piece)
    reads_choice c x piece rest text at (inl g) s d = subst (λ t. Reads c (choose t text at) x (at + length piece)) (sym (told text at piece rest d ∙ here c x piece rest g)) (a.reads c x piece rest text at g s d)
    reads_choice c x piece rest text at (inr h) s d = subst (λ t. Reads c (choose t text at) x (at + length piece)) (sym (told text at piece rest d ∙ away c x piece rest h)) (b.reads c x piece rest text at h s d)

    shaped_choice : (c : Care) (x : X) (piece : List ℕ) → Either c x piece → Either shape x piece
    shaped_choice c x piece (inl g) = inl (a.shaped c x piece g)
    shaped_choice c x piece (inr h) = inr (b.shaped c x piece h)

    choice : Agrees chosen Either Stop
    choice =
        record {
          shaped = shaped_choice;
          sample = let s = b.sample in (s.0, s.1, inr s.2);
          shared = λ text other at. shared_choice (is_byte byte (slice_get text at)) text other at (chosen other at) (λ same. ap (λ o. choose (is_byte byte o) other at) (sym (same at (omega arith))));
          seen = λ text at. seen_choice (is_byte byte (slice_get text at)) text at;
          reads = reads_choice;
        }

-- the choice by a byte agrees with the pieces of both, where the byte tells them apart
pub agrees_choice : {X : Type 0} (byte : ℕ) {P Q : List ℕ → ℕ → Result (X × ℕ) Fault} {G H : Care → X → List ℕ → Type 0} {Stop : List ℕ → Type 0} → Agrees P G Stop → Agrees Q H Stop → ((c : Care) (x : X) (piece rest : List ℕ) → G c x piece → is_byte byte (slice_get (piece ++ rest) 0) ≡ true) → ((c : Care) (x : X) (piece rest : List ℕ) → H c x piece → is_byte byte (slice_get (piece ++ rest) 0) ≡ false)
    → Agrees (λ text at. cond (is_byte byte (slice_get text at)) (P text at) (Q text at)) (λ c x piece. G c x piece ⊎ H c x piece) Stop
agrees_choice byte {P} {Q} {G} {H} {Stop} = choice byte P Q G H Stop

-- a fault that is no byte's, where a test finds one
pub agrees_unless : {X : Type 0} (e : Fault) → AtByte e (λ _. ⊥) → {P : List ℕ → ℕ → Result (X × ℕ) Fault} {G : Care → X → List ℕ → Type 0} {Stop : List ℕ → Type 0} → Agrees P G Stop → (b : Bool) → Agrees (λ text at. cond b (Err e) (P text at)) (λ c x piece. Kept c (b ≡ false) × G c x piece) Stop
agrees_unless e n {P} a b =
    agrees_same (λ text at. grind arith)
    (agrees_as
    (λ c x piece h. (kept_map c (not-true b) h.0, h.1))
    (λ c x piece h. (kept_map c (ap not) h.0, h.1))
    (agrees_if e n a (not b)))

-- a reader that never answers agrees with a grammar of which no piece keeps the rules
pub agrees_never : {X : Type 0} (e : Fault) → AtByte e (λ _. ⊥) → {G : Care → X → List ℕ → Type 0} {Stop : List ℕ → Type 0} → ((c : Care) (x : X) (piece : List ℕ) → G c x piece → G shape x piece) → ((x : X) × (piece : List ℕ) × G shape x piece) → ((c : Care) (x : X) (piece : List ℕ) → G c x piece → Kept c ⊥) → Agrees (λ text at. Err e) G Stop
agrees_never {X} e n shaped sample none =
    record {
      shaped = shaped;
      sample = sample;
      shared = λ text other at. not_at_byte e _ n;
      seen = λ text at. not_at_byte e _ n;
      reads = λ c x piece rest text at g s d. refused c x at piece (none c x piece g);
    }
  where
    refused : (c : Care) (x : X) (at : ℕ) (piece : List ℕ) → Kept c ⊥ → Reads c (Err e) x (at + length piece)
    refused shape x at piece k = inr (tt, (e, refl, n))
    refused kept x at piece k = absurd k
    refused plain x at piece k = absurd k
