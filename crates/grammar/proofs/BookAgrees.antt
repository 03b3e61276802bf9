-- A whole text: it is read as what it spells, and refused at the first byte that no text of the grammar has there.
use Rattle.std.proofs.Common.{◌≡◌, ℕ, zero, suc, ◌+◌, ◌<◌, ◌≤◌, ◌⊎◌, List, [], ◌∷◌, ◌++◌, length, take, drop, Some, None, Ok, Err, Option, Result, sym, refl, ap, ◌∙◌, subst, inl, inr, arith}
use Rattle.std.proofs.lemmas.List.{append-nil, take_at}
use Rattle.std.specs.List.{slice_get}
use Rattle.books.specs.Meaning.{Meaning}
use Rattle.books.specs.declared.fault.ReadFault.TheVariants.{Byte}
use Rattle.books.specs.declared.fault.Fault.{Fault}
use Rattle.books.specs.declared.fault.Fault.TheVariants.{Reading}
use Rattle.text.specs.Bytes.{and_then}
use Rattle.text.specs.Reads.{book_at}
use Rattle.text.specs.declared.counts.Counts.{Counts}
use Rattle.text.specs.declared.reader.Stage.TheVariants.{Start}
use Rattle.grammar.specs.Pieces.{Care, shape, kept, Kept}
use Rattle.grammar.specs.Agreement.{AtByte, Same, Shared, Between, Seen, ShapeOnly, Reads, Agrees}
use Rattle.grammar.proofs.AgreeCombined.{Reaches, Via, agrees_then, shared_from}
use Rattle.grammar.proofs.FormsAllowed.{FormsAgree}
use Rattle.grammar.proofs.FormsLeftAgree.{lines, Lines, lines_rest, start_lines, lines_agree}
use Rattle.grammar.proofs.RestOfText.{slice_get_front, between_none}
use Rattle.grammar.proofs.FormsLeft.{Rest, rest_spells, spells_rest, rest_roomy}
use Rattle.grammar.proofs.BookTurns.{between_within, at_end, whole, book_whole}
use Rattle.grammar.specs.Notations.{Notation}
use Rattle.grammar.specs.Theorems.{SpeltBy}
use Rattle.grammar.proofs.PieceByPiece.{ended, unended}

-- nothing follows
abbrev Nothing : List ℕ → Type 0
Nothing rest = rest ≡ []

front_none : (bytes : List ℕ) → slice_get bytes 0 ≡ None → bytes ≡ []
front_none [] e = refl
front_none (b ∷ bytes) e = absurd (grind arith)

slice_get-take : (text more : List ℕ) (n i : ℕ) → i < n → i < length text → slice_get text i ≡ slice_get (take n text ++ more) i
slice_get-take [] more n i l k = absurd (omega arith)
slice_get-take (b ∷ text) more zero i l k = absurd (omega arith)
slice_get-take (b ∷ text) more (suc n) zero l k = refl
slice_get-take (b ∷ text) more (suc n) (suc i) l k = slice_get-take text more n i (omega arith) (omega arith)

-- a text with the same bytes up to k and at it
same_front : (text more : List ℕ) (k : ℕ) → k < length text → Same text (take (k + 1) text ++ more) k
same_front text more k l i h = slice_get-take text more (k + 1) i (omega arith) (omega arith)

module _ {S : Type 0} where
  abbrev Ended : Meaning S → Care → Meaning S → List ℕ → Type 0
  Ended m c k piece = (k ≡ m) × (piece ≡ [])

  at_end_reaches : (m : Meaning S) (at : ℕ) (o : Option ℕ) → Reaches at (at_end m at o)
  at_end_reaches m at None = omega arith
  at_end_reaches m at (Some b) = omega arith

  at_end_seen : (m : Meaning S) (text : List ℕ) (at : ℕ) (o : Option ℕ) → Seen (Ended m) (at_end m at o) text at
  at_end_seen m text at None = ([], between_none text at, (refl, refl))
  at_end_seen m text at (Some b) = ([], [], m, between_none text at, (refl, refl))

  at_end_reads : (m k : Meaning S) (c : Care) (piece rest text : List ℕ) (at : ℕ) → Ended m c k piece → rest ≡ [] → drop at text ≡ piece ++ rest → Reads c (at_end m at (slice_get text at)) k (at + length piece)
  at_end_reads m k c piece rest text at h s d =
      let none : drop at text ≡ [] = grind (arith, d, h.1, s) in
      let place : at ≡ at + length piece = omega (arith, ap length h.1) in
      inl (ap (at_end m at) (slice_get_front text at ∙ ap (λ t. slice_get t 0) none) ∙ ap (λ y. Ok (y, at)) (sym h.0) ∙ ap (λ n. Ok (k, n)) place)

  at_end_agrees : (m : Meaning S) → Agrees (λ text at. at_end m at (slice_get text at)) (Ended m) Nothing
  at_end_agrees m =
      record {
        shaped = λ c k piece h. h;
        sample = (m, [], (refl, refl));
        shared = λ text other at. shared_from text other at (at_end m at (slice_get text at)) (at_end m at (slice_get other at)) (at_end_reaches m at (slice_get text at)) (λ same. ap (at_end m at) (sym (same at (omega arith))));
        seen = λ text at. at_end_seen m text at (slice_get text at);
        reads = λ c k piece rest text at. at_end_reads m k c piece rest text at;
      }

  -- an answer's book
  abbrev booked : Result (Meaning S × ℕ) Fault → Result (Meaning S) Fault
  booked r = and_then r (λ p. Ok p.0)

  -- no byte is left where an answer ends
  abbrev Ends : List ℕ → Result (Meaning S × ℕ) Fault → Type 0
  Ends text (Ok p) = slice_get text p.1 ≡ None
  Ends text (Err e) = Unit {0}

  at_end_ends : (text : List ℕ) (m : Meaning S) (at : ℕ) (o : Option ℕ) → slice_get text at ≡ o → Ends text (at_end m at o)
  at_end_ends text m at None e = e
  at_end_ends text m at (Some b) e = tt

  then_ends : (text : List ℕ) (r : Result (Meaning S × ℕ) Fault) → Ends text (and_then r (λ p. at_end p.0 p.1 (slice_get text p.1)))
  then_ends text (Ok p) = at_end_ends text p.0 p.1 (slice_get text p.1) refl
  then_ends text (Err e) = tt

  booked_fault : (r : Result (Meaning S × ℕ) Fault) (e : Fault) → booked r ≡ Err e → r ≡ Err e
  booked_fault (Ok p) e h = absurd (grind arith)
  booked_fault (Err d) e h = grind arith

  -- what an answer that takes all of a text has seen
  booked_seen : (G : Care → Meaning S → List ℕ → Type 0) (text : List ℕ) (m : Meaning S) (r : Result (Meaning S × ℕ) Fault) → booked r ≡ Ok m → Ends text r → Seen G r text 0 → G kept m text
  booked_seen G text m (Ok p) e n (piece, b, g) =
      let none : drop p.1 text ≡ [] = front_none (drop p.1 text) (sym (slice_get_front text p.1) ∙ n) in
      let all : piece ≡ text = grind (arith, b.stands, none, append-nil) in
      let same : p.0 ≡ m = cc in
      subst (λ k. G kept k text) same (subst (G kept p.0) all g)
  booked_seen G text m (Err d) e n h = absurd (grind arith)

  -- a book, or a fault that is no byte's where only the shape is kept
  abbrev pub BookReads : Care → Result (Meaning S) Fault → Meaning S → Type 0
  BookReads c answer m = (answer ≡ Ok m) ⊎ (ShapeOnly c × ((e : Fault) × (answer ≡ Err e) × AtByte e (λ _. ⊥)))

  booked_reads : (c : Care) (r : Result (Meaning S × ℕ) Fault) (m : Meaning S) (n : ℕ) → Reads c r m n → BookReads c (booked r) m
  booked_reads c r m n (inl e) = inl (ap booked e)
  booked_reads c r m n (inr (s, (e, q, b))) = inr (s, (e, ap booked q, b))

  -- such an answer is no byte's refusal
  never_byte : (c : Care) (answer : Result (Meaning S) Fault) (m : Meaning S) (k : ℕ) → BookReads c answer m → answer ≡ Err (Reading (Byte k)) → ⊥
  never_byte c answer m k (inl e) h = grind arith
  never_byte c answer m k (inr (s, (e, q, b))) h = let same : e ≡ Reading (Byte k) = cc in subst (λ f. AtByte f (λ _. ⊥)) same b

-- the text up to the end of its first piece
front_take : (text : List ℕ) (k : ℕ) (piece : List ℕ) → Between text 0 k piece → piece ≡ take k text
front_take text k piece b = sym (ap (take k) b.stands ∙ take_at piece (drop k text) k (omega (arith, b.place)))

module _ {S : Type 0} (kind : Notation S) (room : Counts) (forms : FormsAgree kind room) where
  -- the forms of a book, n at most
  abbrev Forms : ℕ → Care → Meaning S → List ℕ → Type 0
  Forms n = Via (Lines kind room n Start 0 0) Ended

  -- the book of a text, where there is room for so much
  abbrev pub book : List ℕ → Result (Meaning S) Fault
  book text = book_at kind.stamp_at kind.word text room

  whole_agrees : (n : ℕ) → Agrees (whole kind room n) (Forms n) Nothing
  whole_agrees n =
      agrees_then
      (lines_agree kind room forms n Start tt 0 0) (λ at m. at_end_agrees m) (λ c m k piece rest h s. tt)

  forms_rest : (n : ℕ) (c : Care) (m : Meaning S) (text : List ℕ) → Forms n c m text → Rest kind room Start 0 0 c m text
  forms_rest n c m text v =
      subst (λ k. Rest kind room Start 0 0 c k text) (sym v.parts.second.0) (lines_rest kind room n Start 0 0 c v.value text (ended v.parts))

  rest_forms : (n : ℕ) (c : Care) (m : Meaning S) (text : List ℕ) → length m.atoms + length m.rules < n → Rest kind room Start 0 0 c m text → Forms (suc n) c m text
  rest_forms n c m text l h =
      record { value = m; parts = unended refl (start_lines kind room n 0 0 c m text l h) }

  book_is : (text : List ℕ) (n : ℕ) → length text < n → book text ≡ booked (whole kind room n text 0)
  book_is text n l = book_whole kind room forms text n l

  whole_fault : (text : List ℕ) (n : ℕ) → length text < n → (e : Fault) → book text ≡ Err e → whole kind room n text 0 ≡ Err e
  whole_fault text n l e h = booked_fault (whole kind room n text 0) e (sym (book_is text n l) ∙ h)

  -- a text that is read spells its book, keeping every rule, and there is room for it
  pub book_seen : (text : List ℕ) (m : Meaning S) → book text ≡ Ok m → SpeltBy kind kept m text × (length m.atoms ≤ room.atoms) × (length m.rules ≤ room.rules)
  book_seen text m e =
      let n = length text + 1 in
      let seen = booked_seen (Forms n) text m (whole kind room n text 0) (sym (book_is text n (omega arith)) ∙ e) (then_ends text (lines kind room n Start 0 0 text 0)) ((whole_agrees n).seen text 0) in
      let rest = forms_rest n kept m text seen in
      let roomy = rest_roomy kind room m text rest in
      (rest_spells kind room kept m text rest, roomy.0, roomy.1)

  -- a text that spells a book is read as it; where only its shape is kept it may be refused, but not for a byte
  pub book_reads : (c : Care) (text : List ℕ) (m : Meaning S) → SpeltBy kind c m text → Kept c ((length m.atoms ≤ room.atoms) × (length m.rules ≤ room.rules)) → BookReads c (book text) m
  book_reads c text m h k =
      let n = length text + length m.atoms + length m.rules + 1 in
      let parts = rest_forms n c m text (omega arith) (spells_rest kind room c m text k h) in
      let reads = (whole_agrees (suc n)).reads c m text [] text 0 parts refl (sym (append-nil text)) in
      subst (λ answer. BookReads c answer m) (sym (book_is text (suc n) (omega arith))) (booked_reads c (whole kind room (suc n) text 0) m (0 + length text) reads)

  -- what stands before a byte that is refused begins a text of the grammar's shape
  pub book_viable : (text : List ℕ) (k : ℕ) → book text ≡ Err (Reading (Byte k)) → (k ≤ length text) × ((more : List ℕ) × (m : Meaning S) × SpeltBy kind shape m (take k text ++ more))
  book_viable text k e =
      let n = length text + 1 in
      let (piece, more, m, b, h) = subst (λ r. Seen (Forms n) r text 0) (whole_fault text n (omega arith) (Reading (Byte k)) e) ((whole_agrees n).seen text 0) in (
        between_within text 0 k piece b (omega arith),
        (more, m, rest_spells kind room shape m (take k text ++ more) (subst (λ t. Rest kind room Start 0 0 shape m (t ++ more)) (front_take text k piece b) (forms_rest n shape m (piece ++ more) h))),
      )

  -- a byte is refused whatever follows it
  book_shared : (text other : List ℕ) (k : ℕ) → book text ≡ Err (Reading (Byte k)) → Same text other k → book other ≡ Err (Reading (Byte k))
  book_shared text other k e same =
      let n = length text + length other + 1 in
      let shared = subst (λ r. Shared r (whole kind room n other 0) text other) (whole_fault text n (omega arith) (Reading (Byte k)) e) ((whole_agrees n).shared text other 0) in
      book_is other n (omega arith) ∙ ap booked (shared same)

  -- so a byte is refused where no text of the grammar's shape has it
  pub book_none : (text : List ℕ) (k : ℕ) → book text ≡ Err (Reading (Byte k)) → k < length text → (more : List ℕ) (m : Meaning S) → SpeltBy kind shape m (take (k + 1) text ++ more) → ⊥
  book_none text k e l more m h =
      let other = take (k + 1) text ++ more in
      never_byte shape (book other) m k (book_reads shape other m h tt) (book_shared text other k e (same_front text more k l))
