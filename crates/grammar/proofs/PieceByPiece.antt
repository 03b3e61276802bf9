-- One piece and then another: laws of what follows what.
use Rattle.std.proofs.Common.{◌≡◌, ℕ, List, [], ◌∷◌, ◌++◌, Some, sym, refl, ap, ◌∙◌, subst, arith}
use Rattle.std.proofs.lemmas.List.{append_assoc, append-nil}
use Rattle.std.specs.List.{slice_get}
use Rattle.grammar.specs.Pieces.{Exactly, Followed}

-- a piece and then another
pub followed_by : {A B : List ℕ → Type 0} (front back : List ℕ) → A front → B back → Followed A B (front ++ back)
followed_by front back a b = record { front = front; back = back; whole = refl; first = a; second = b }

-- the first piece as it was, and another piece in the place of the second
pub onto : {A B C : List ℕ → Type 0} {text : List ℕ} (f : Followed A B text) → C f.back → Followed A C text
onto f second = record { front = f.front; back = f.back; whole = f.whole; first = f.first; second = second }

-- where each of two pieces has one text, so have they together
pub followed_unique : {A B : List ℕ → Type 0} {front back text : List ℕ} → ((t : List ℕ) → A t → t ≡ front) → ((t : List ℕ) → B t → t ≡ back) → Followed A B text → text ≡ front ++ back
followed_unique a b h =
    grind (arith, h.whole, a h.front h.first, b h.back h.second)

-- each piece changed
pub followed_map : {A B C D : List ℕ → Type 0} {text : List ℕ} → ((t : List ℕ) → A t → C t) → ((t : List ℕ) → B t → D t) → Followed A B text → Followed C D text
followed_map f g h = record { front = h.front; back = h.back; whole = h.whole; first = f h.front h.first; second = g h.back h.second }

-- the second piece alone changed
pub under : {A B C : List ℕ → Type 0} {text : List ℕ} → ((t : List ℕ) → B t → C t) → Followed A B text → Followed A C text
under f h = followed_map (λ t a. a) f h

-- two pieces of a sequence, bracketed the other way
pub regroup : {A B C : List ℕ → Type 0} {text : List ℕ} → Followed A (Followed B C) text → Followed (Followed A B) C text
regroup f =
    let g = f.second in
    record {
      front = f.front ++ g.front;
      back = g.back;
      whole = grind (arith, f.whole, g.whole, append_assoc);
      first = record { front = f.front; back = g.front; whole = refl; first = f.first; second = g.first };
      second = g.second;
    }

-- and bracketed back
pub ungroup : {A B C : List ℕ → Type 0} {text : List ℕ} → Followed (Followed A B) C text → Followed A (Followed B C) text
ungroup f =
    let g = f.first in
    record {
      front = g.front;
      back = g.back ++ f.back;
      whole = grind (arith, f.whole, g.whole, append_assoc);
      first = g.first;
      second = record { front = g.back; back = f.back; whole = refl; first = g.second; second = f.second };
    }

-- a piece and then nothing more
pub ended : {A : List ℕ → Type 0} {P : Type 0} {text : List ℕ} → Followed A (λ p. P × (p ≡ [])) text → A text
ended {A} f = subst A (grind (arith, f.whole, f.second.1, append-nil)) f.first

-- and a piece has nothing more after it
pub unended : {A : List ℕ → Type 0} {P : Type 0} {text : List ℕ} → P → A text → Followed A (λ p. P × (p ≡ [])) text
unended {A} {P} {text} x a = record { front = text; back = []; whole = sym (append-nil text); first = a; second = (x, refl) }

-- a byte and then a word are one word
pub word_to : (b : ℕ) (word : List ℕ) {A : List ℕ → Type 0} {piece : List ℕ} → Followed (Exactly (b ∷ [])) (Followed (Exactly word) A) piece → Followed (Exactly (b ∷ word)) A piece
word_to b word f =
    record { front = b ∷ word; back = f.second.back; whole = grind (arith, f.whole, f.first, f.second.whole, f.second.first); first = refl; second = f.second.second }

-- and a word is its first byte and then the rest
pub word_from : (b : ℕ) (word : List ℕ) {A : List ℕ → Type 0} {piece : List ℕ} → Followed (Exactly (b ∷ word)) A piece → Followed (Exactly (b ∷ [])) (Followed (Exactly word) A) piece
word_from b word f =
    record { front = b ∷ []; back = word ++ f.back; whole = grind (arith, f.whole, f.first); first = refl; second = record { front = word; back = f.back; whole = refl; first = refl; second = f.second } }

-- a piece that begins with a word begins with its first byte
pub first_of : {b : ℕ} {word : List ℕ} {A : List ℕ → Type 0} {piece : List ℕ} (rest : List ℕ) → Followed (Exactly (b ∷ word)) A piece → slice_get (piece ++ rest) 0 ≡ Some b
first_of rest f = ap (λ t. slice_get (t ++ rest) 0) (f.whole ∙ ap (λ t. t ++ f.back) f.first)
