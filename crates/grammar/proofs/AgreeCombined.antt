-- Readers of pieces that agree with their grammar, put together.
use Rattle.std.proofs.Common.{◌≡◌, ℕ, ◌+◌, ◌≤◌, Bool, true, false, cond, List, [], ◌∷◌, ◌++◌, length, drop, Some, None, Ok, Err, Option, Result, sym, refl, ap, ◌∙◌, subst, inl, inr, arith}
use Rattle.std.proofs.lemmas.List.{append_assoc, length-append}
use Rattle.std.proofs.lemmas.Bool.{cases_eq}
use Rattle.std.specs.List.{slice_get}
use Rattle.books.specs.declared.fault.ReadFault.TheVariants.{Byte, NotRising, Number, TooMany, AtomMissing}
use Rattle.books.specs.declared.fault.Fault.{Fault}
use Rattle.books.specs.declared.fault.Fault.TheVariants.{Reading, Checking, Making}
use Rattle.text.specs.Bytes.{and_then, pass_at, pass_if, wrong_at}
use Rattle.text.specs.Words.{pass_word}
use Rattle.grammar.specs.Pieces.{Care, shape, kept, plain, Kept, Exactly, Followed}
use Rattle.grammar.specs.Agreement.{AtByte, Same, Shared, Between, Seen, Reads, Agrees}
use Rattle.grammar.proofs.PieceByPiece.{word_to, word_from}
use Rattle.grammar.proofs.RestOfText.{slice_get_front, drop_past, between_join, between_none, between_one}
use Rattle.std.proofs.lemmas.Bool.Decides.{nat_tests}

-- whatever follows
abbrev pub Any : List ℕ → Type 0
Any rest = Unit {0}

-- what follows from a fact of the place, where the fault is a byte that is not allowed
pub at_byte_map : (e : Fault) {P Q : ℕ → Type 0} → ((k : ℕ) → P k → Q k) → AtByte e P → AtByte e Q
at_byte_map (Reading (Byte k)) f h = f k h
at_byte_map (Reading (NotRising k)) f h = tt
at_byte_map (Reading (Number k)) f h = tt
at_byte_map (Reading (TooMany k)) f h = tt
at_byte_map (Reading (AtomMissing r l)) f h = tt
at_byte_map (Checking x) f h = tt
at_byte_map (Making x) f h = tt

-- two facts of the same place
pub at_byte_both : (e : Fault) (P Q : ℕ → Type 0) → AtByte e P → AtByte e Q → AtByte e (λ k. P k × Q k)
at_byte_both (Reading (Byte k)) P Q a b = (a, b)
at_byte_both (Reading (NotRising k)) P Q a b = tt
at_byte_both (Reading (Number k)) P Q a b = tt
at_byte_both (Reading (TooMany k)) P Q a b = tt
at_byte_both (Reading (AtomMissing r l)) P Q a b = tt
at_byte_both (Checking x) P Q a b = tt
at_byte_both (Making x) P Q a b = tt

-- a fault that is not a byte's says nothing of a byte
pub not_at_byte : (e : Fault) (P : ℕ → Type 0) → AtByte e (λ _. ⊥) → AtByte e P
not_at_byte e P h = at_byte_map e (λ k x. absurd x) h

-- texts that are the same up to a place are the same up to an earlier one
pub same_below : (text other : List ℕ) (m n : ℕ) → m ≤ n → Same text other n → Same text other m
same_below text other m n h same i l = same i (omega arith)

-- an answer's place is not before a place
abbrev pub Reaches : {X : Type 0} → ℕ → Result (X × ℕ) Fault → Type 0
Reaches n (Ok p) = n ≤ p.1
Reaches n (Err e) = AtByte e (λ k. n ≤ k)

-- what has seen a piece, or the beginning of one, has not gone back
pub seen_reaches : {X : Type 0} (G : Care → X → List ℕ → Type 0) (r : Result (X × ℕ) Fault) (text : List ℕ) (at : ℕ) → Seen G r text at → Reaches at r
seen_reaches G (Ok p) text at (piece, b, g) = omega (arith, b.place)
seen_reaches G (Err e) text at h = at_byte_map e (λ k s. omega (arith, s.3.place)) h

module _ {X Y : Type 0} (text other : List ℕ) where
  shared_on : (p : X × ℕ) (v : Result (Y × ℕ) Fault) (r : Result (X × ℕ) Fault) (f : X × ℕ → Result (Y × ℕ) Fault) → (Same text other p.1 → r ≡ Ok p) → Shared v (f p) text other → Reaches p.1 v → Shared v (and_then r f) text other
  shared_on p (Ok q) r f h s n = λ same. ap (λ a. and_then a f) (h (same_below text other p.1 q.1 n same)) ∙ s same
  shared_on p (Err e) r f h s n =
      at_byte_map e (λ k both same. ap (λ a. and_then a f) (h (same_below text other p.1 k both.1 same)) ∙ both.0 same) (at_byte_both e _ _ s n)

  shared_then : (r s : Result (X × ℕ) Fault) (f g : X × ℕ → Result (Y × ℕ) Fault) → Shared r s text other → ((p : X × ℕ) → Shared (f p) (g p) text other) → ((p : X × ℕ) → Reaches p.1 (f p)) → Shared (and_then r f) (and_then s g) text other
  shared_then (Ok p) s f g h k n = shared_on p (f p) s g h (k p) (n p)
  shared_then (Err e) s f g h k n = at_byte_map e (λ i a same. ap (λ b. and_then b g) (a same)) h

-- a piece that is read, and then one that is read from its end on, are read together
reads_then : {X Y : Type 0} (c : Care) (r : Result (X × ℕ) Fault) (f : X × ℕ → Result (Y × ℕ) Fault) (x : X) (n : ℕ) (y : Y) (m : ℕ) → Reads c r x n → Reads c (f (x, n)) y m → Reads c (and_then r f) y m
reads_then c r f x n y m (inl e) h = subst (λ s. Reads c (and_then s f) y m) (sym e) h
reads_then c r f x n y m (inr (s, (e, q, b))) h = inr (s, (e, ap (λ a. and_then a f) q, b))

-- a piece by way of a value, and then one that goes by that value
pub record Via {X Y : Type 0} (G : Care → X → List ℕ → Type 0) (H : X → Care → Y → List ℕ → Type 0) (c : Care) (y : Y) (text : List ℕ) : Type 0 where
  pub value : X
  pub parts : Followed (G c value) (H value c y) text

module _ {X Y : Type 0} (G : Care → X → List ℕ → Type 0) (H : X → Care → Y → List ℕ → Type 0) (text : List ℕ) where
  via : (c : Care) (x : X) (y : Y) (a b whole : List ℕ) → whole ≡ a ++ b → G c x a → H x c y b → Via G H c y whole
  via c x y a b whole e g h = record { value = x; parts = record { front = a; back = b; whole = e; first = g; second = h } }

  seen_on : (at : ℕ) (p : X × ℕ) (piece : List ℕ) → Between text at p.1 piece → G kept p.0 piece → G shape p.0 piece → (v : Result (Y × ℕ) Fault) → Seen (H p.0) v text p.1 → Seen (Via G H) v text at
  seen_on at p piece b g w (Ok q) (piece2, b2, h) =
      (piece ++ piece2, between_join text at p.1 q.1 piece piece2 b b2, via kept p.0 q.0 piece piece2 (piece ++ piece2) refl g h)
  seen_on at p piece b g w (Err e) s =
      at_byte_map e (λ k (piece2, more, y, b2, h). (piece ++ piece2, more, y, between_join text at p.1 k piece piece2 b b2, via shape p.0 y piece (piece2 ++ more) (piece ++ piece2 ++ more) (append_assoc piece piece2 more) w h)) s

  seen_then : (at : ℕ) (r : Result (X × ℕ) Fault) (f : X × ℕ → Result (Y × ℕ) Fault) → ((x : X) (piece : List ℕ) → G kept x piece → G shape x piece) → ((x : X) → ((y : Y) × (piece : List ℕ) × H x shape y piece)) → Seen G r text at → ((p : X × ℕ) → Seen (H p.0) (f p) text p.1) → Seen (Via G H) (and_then r f) text at
  seen_then at (Ok p) f weaken sample (piece, b, g) s = seen_on at p piece b g (weaken p.0 piece g) (f p) (s p)
  seen_then at (Err e) f weaken sample h s =
      at_byte_map e (λ k (piece, more, x, b, g). let t = sample x in (piece, more ++ t.1, t.0, b, via shape x t.0 (piece ++ more) t.1 (piece ++ (more ++ t.1)) (sym (append_assoc piece more t.1)) g t.2)) h

-- a reader that answers the same agrees too
pub agrees_same : {X : Type 0} {P Q : List ℕ → ℕ → Result (X × ℕ) Fault} {G : Care → X → List ℕ → Type 0} {Stop : List ℕ → Type 0} → ((text : List ℕ) (at : ℕ) → P text at ≡ Q text at) → Agrees P G Stop → Agrees Q G Stop
agrees_same {P} {Q} {G} e a =
    record {
      shaped = a.shaped;
      sample = a.sample;
      shared = λ text other at. subst (λ r. Shared r (Q other at) text other) (e text at) (subst (λ r. Shared (P text at) r text other) (e other at) (a.shared text other at));
      seen = λ text at. subst (λ r. Seen G r text at) (e text at) (a.seen text at);
      reads = λ c x piece rest text at g s d. subst (λ r. Reads c r x (at + length piece)) (e text at) (a.reads c x piece rest text at g s d);
    }

-- a grammar with the same pieces is agreed with too
pub agrees_as : {X : Type 0} {P : List ℕ → ℕ → Result (X × ℕ) Fault} {G H : Care → X → List ℕ → Type 0} {Stop : List ℕ → Type 0} → ((c : Care) (x : X) (piece : List ℕ) → G c x piece → H c x piece) → ((c : Care) (x : X) (piece : List ℕ) → H c x piece → G c x piece) → Agrees P G Stop → Agrees P H Stop
agrees_as {X} {P} {G} {H} to from a =
    record {
      shaped = λ c x piece h. to shape x piece (a.shaped c x piece (from c x piece h));
      sample = let s = a.sample in (s.0, s.1, to shape s.0 s.1 s.2);
      shared = a.shared;
      seen = λ text at. seen_as (P text at) text at (a.seen text at);
      reads = λ c x piece rest text at h s d. a.reads c x piece rest text at (from c x piece h) s d;
    }
  where
    seen_as : (r : Result (X × ℕ) Fault) (text : List ℕ) (at : ℕ) → Seen G r text at → Seen H r text at
    seen_as (Ok p) text at (piece, b, g) = (piece, b, to kept p.0 piece g)
    seen_as (Err e) text at h = at_byte_map e (λ k (piece, more, x, b, g). (piece, more, x, b, to shape x (piece ++ more) g)) h

-- fewer things that may follow
pub agrees_before : {X : Type 0} {P : List ℕ → ℕ → Result (X × ℕ) Fault} {G : Care → X → List ℕ → Type 0} {Stop Before : List ℕ → Type 0} → ((rest : List ℕ) → Before rest → Stop rest) → Agrees P G Stop → Agrees P G Before
agrees_before to a =
    record {
      shaped = a.shaped;
      sample = a.sample;
      shared = a.shared;
      seen = a.seen;
      reads = λ c x piece rest text at h s d. a.reads c x piece rest text at h (to rest s) d;
    }

-- a piece, and then one that goes by what the first says
pub agrees_then : {X Y : Type 0} {P : List ℕ → ℕ → Result (X × ℕ) Fault} {Q : ℕ → X → List ℕ → ℕ → Result (Y × ℕ) Fault} {G : Care → X → List ℕ → Type 0} {H : X → Care → Y → List ℕ → Type 0} {Stop After : List ℕ → Type 0} → Agrees P G Stop → ((at : ℕ) (x : X) → Agrees (Q at x) (H x) After) → ((c : Care) (x : X) (y : Y) (piece rest : List ℕ) → H x c y piece → After rest → Stop (piece ++ rest)) → Agrees (λ text at. and_then (P text at) (λ p. Q at p.0 text p.1)) (Via G H) After
agrees_then {X} {Y} {P} {Q} {G} {H} {Stop} {After} a b starts =
    record {
      shaped = λ c y piece v. record { value = v.value; parts = record { front = v.parts.front; back = v.parts.back; whole = v.parts.whole; first = a.shaped c v.value v.parts.front v.parts.first; second = (b 0 v.value).shaped c y v.parts.back v.parts.second } };
      sample = let s = a.sample in let t = (b 0 s.0).sample in (t.0, s.1 ++ t.1, via G H [] shape s.0 t.0 s.1 t.1 (s.1 ++ t.1) refl s.2 t.2);
      shared = λ text other at. shared_then text other (P text at) (P other at) (λ p. Q at p.0 text p.1) (λ p. Q at p.0 other p.1) (a.shared text other at) (λ p. (b at p.0).shared text other p.1) (λ p. seen_reaches (H p.0) (Q at p.0 text p.1) text p.1 ((b at p.0).seen text p.1));
      seen = λ text at. seen_then G H text at (P text at) (λ p. Q at p.0 text p.1) (λ x piece. a.shaped kept x piece) (λ x. (b at x).sample) (a.seen text at) (λ p. (b at p.0).seen text p.1);
      reads = reads_both;
    }
  where
    reads_both : (c : Care) (y : Y) (piece rest text : List ℕ) (at : ℕ) → Via G H c y piece → After rest → drop at text ≡ piece ++ rest → Reads c (and_then (P text at) (λ p. Q at p.0 text p.1)) y (at + length piece)
    reads_both c y piece rest text at v s d =
        let x = v.value in
        let front = v.parts.front in
        let back = v.parts.back in
        let stands : drop at text ≡ front ++ (back ++ rest) = grind (arith, d, v.parts.whole, append_assoc) in
        let past = drop_past text at front (back ++ rest) stands in
        let place : at + length front + length back ≡ at + length piece = omega (arith, length-append front back, ap length v.parts.whole) in
        let one = a.reads c x front (back ++ rest) text at v.parts.first (starts c x y back rest v.parts.second s) stands in
        let two = (b at x).reads c y back rest text (at + length front) v.parts.second s past in
        reads_then c (P text at) (λ p. Q at p.0 text p.1) x (at + length front) y (at + length piece) one (subst (Reads c (Q at x text (at + length front)) y) place two)

-- nothing more is read
pub agrees_done : {X : Type 0} (v : X) {Stop : List ℕ → Type 0} → Agrees (λ text at. Ok (v, at)) (λ c x piece. (x ≡ v) × (piece ≡ [])) Stop
agrees_done v =
    record {
      shaped = λ c x piece h. h;
      sample = (v, [], (refl, refl));
      shared = λ text other at same. refl;
      seen = λ text at. ([], between_none text at, (refl, refl));
      reads = λ c x piece rest text at h s d.
          let place : at ≡ at + length piece = omega (arith, ap length h.1) in
          inl (ap (λ y. Ok (y, at)) (sym h.0) ∙ ap (λ n. Ok (x, n)) place);
    }

-- the fault, unless the test is passed; the rest of a reader where it is
module _ {X : Type 0} (e : Fault) (other-fault : AtByte e (λ _. ⊥)) {P : List ℕ → ℕ → Result (X × ℕ) Fault} {G : Care → X → List ℕ → Type 0} {Stop : List ℕ → Type 0} (a : Agrees P G Stop) where
  abbrev Passed : Bool → Care → X → List ℕ → Type 0
  Passed b c x piece = Kept c (b ≡ true) × G c x piece

  abbrev go : Bool → List ℕ → ℕ → Result (X × ℕ) Fault
  go b text at = cond b (P text at) (Err e)

  seen_passed : (r : Result (X × ℕ) Fault) (text : List ℕ) (at : ℕ) → Seen G r text at → Seen (Passed true) r text at
  seen_passed (Ok p) text at (piece, b, g) = (piece, b, (refl, g))
  seen_passed (Err f) text at h = at_byte_map f (λ k (piece, more, x, b, g). (piece, more, x, b, (tt, g))) h

  shared_if : (b : Bool) (text other : List ℕ) (at : ℕ) → Shared (go b text at) (go b other at) text other
  shared_if true text other at = a.shared text other at
  shared_if false text other at = not_at_byte e _ other-fault

  seen_if : (b : Bool) (text : List ℕ) (at : ℕ) → Seen (Passed b) (go b text at) text at
  seen_if true text at = seen_passed (P text at) text at (a.seen text at)
  seen_if false text at = not_at_byte e _ other-fault

  reads_if : (b : Bool) (c : Care) (x : X) (piece rest text : List ℕ) (at : ℕ) → Kept c (b ≡ true) → G c x piece → Stop rest → drop at text ≡ piece ++ rest → Reads c (go b text at) x (at + length piece)
  reads_if true c x piece rest text at k g s d = a.reads c x piece rest text at g s d
  reads_if false shape x piece rest text at k g s d = inr (tt, (e, refl, other-fault))
  reads_if false kept x piece rest text at k g s d = absurd (grind arith)
  reads_if false plain x piece rest text at k g s d = absurd (grind arith)

  -- a reader behind a test agrees with the pieces that keep the test
  pub agrees_if : (b : Bool) → Agrees (go b) (Passed b) Stop
  agrees_if b =
      record {
        shaped = λ c x piece h. (tt, a.shaped c x piece h.1);
        sample = let s = a.sample in (s.0, s.1, (tt, s.2));
        shared = shared_if b;
        seen = seen_if b;
        reads = λ c x piece rest text at h s d. reads_if b c x piece rest text at h.0 h.1 s d;
      }

-- an answer that goes by the one byte at a place
pub shared_from : {X : Type 0} (text other : List ℕ) (at : ℕ) (r s : Result (X × ℕ) Fault) → Reaches at r → (Same text other at → s ≡ r) → Shared r s text other
shared_from text other at (Ok p) s n h = λ same. h (same_below text other at p.1 n same)
shared_from text other at (Err e) s n h = at_byte_map e (λ k l same. h (same_below text other at k l same)) n

-- and_then is associative
pub then_then : {X Y Z : Type 0} (r : Result X Fault) (f : X → Result Y Fault) (g : Y → Result Z Fault) → and_then (and_then r f) g ≡ and_then r (λ x. and_then (f x) g)
then_then (Ok x) f g = refl
then_then (Err e) f g = refl

-- what goes on the same way from each answer
pub then_same : {X Y : Type 0} (r : Result X Fault) (f g : X → Result Y Fault) → ((x : X) → f x ≡ g x) → and_then r f ≡ and_then r g
then_same (Ok x) f g h = h x
then_same (Err e) f g h = refl

-- the place after, with nothing to say
abbrev unsaid : Result ℕ Fault → Result (Unit {0} × ℕ) Fault
unsaid r = and_then r (λ n. Ok (tt, n))

module _ (byte : ℕ) where
  abbrev Byted : Care → Unit {0} → List ℕ → Type 0
  Byted c u = Exactly (byte ∷ [])

  seen_at : (text : List ℕ) (at : ℕ) (o : Option ℕ) → slice_get text at ≡ o → Seen Byted (unsaid (pass_if byte at o)) text at
  seen_at text at None e = ([], byte ∷ [], tt, between_none text at, refl)
  seen_at text at (Some b) e =
      elim (cases_eq b byte) [
        | inl same ↦
            let answer : unsaid (pass_if byte at (Some b)) ≡ Ok (tt, at + 1) = grind (arith, nat_tests) in
            subst (λ r. Seen Byted r text at) (sym answer) (byte ∷ [], between_one text at byte (grind arith), refl)
        | inr apart ↦
            let answer : unsaid (pass_if byte at (Some b)) ≡ wrong_at at = grind (arith, nat_tests) in
            subst (λ r. Seen Byted r text at) (sym answer) ([], byte ∷ [], tt, between_none text at, refl)
      ]

  -- the byte at a place from which a text goes on with it
  front_byte : (text : List ℕ) (at : ℕ) (rest : List ℕ) → drop at text ≡ byte ∷ rest → slice_get text at ≡ Some byte
  front_byte text at rest d = slice_get_front text at ∙ ap (λ t. slice_get t 0) d

  -- a byte that stands at the place is passed
  pass_byte : (text : List ℕ) (at : ℕ) → slice_get text at ≡ Some byte → pass_at byte text at ≡ Ok (at + 1)
  pass_byte text at e = rw e (grind (arith, nat_tests))

  agrees_byte : Agrees (λ text at. unsaid (pass_at byte text at)) Byted (λ _. Unit {0})
  agrees_byte =
      record {
        shaped = λ c u piece h. h;
        sample = (tt, byte ∷ [], refl);
        shared = λ text other at. shared_from text other at (unsaid (pass_at byte text at)) (unsaid (pass_at byte other at)) (seen_reaches Byted (unsaid (pass_at byte text at)) text at (seen_at text at (slice_get text at) refl)) (λ same. ap (λ o. unsaid (pass_if byte at o)) (sym (same at (omega arith))));
        seen = λ text at. seen_at text at (slice_get text at) refl;
        reads = λ c u piece rest text at h s d.
            let here = front_byte text at rest (d ∙ ap (λ t. t ++ rest) h) in
            let place : at + 1 ≡ at + length piece = omega (arith, ap length h) in
            inl (ap unsaid (pass_byte text at here) ∙ ap (λ n. Ok (tt, n)) place);
      }

  -- a byte that must stand there, and then what may go by its place
  pub byte_then_at : {Y : Type 0} {K : ℕ → List ℕ → ℕ → Result (Y × ℕ) Fault} {G : Care → Y → List ℕ → Type 0} {Stop : List ℕ → Type 0} → ((at : ℕ) → Agrees (K at) G Stop) → Agrees (λ text at. and_then (pass_at byte text at) (K at text)) (λ c y. Followed (Exactly (byte ∷ [])) (G c y)) Stop
  byte_then_at {K} a =
      agrees_same (λ text at. then_then (pass_at byte text at) (λ n. Ok (tt, n)) (λ p. K at text p.1))
      (agrees_as (λ c y piece v. v.parts) (λ c y piece f. record { value = tt; parts = f })
      (agrees_then agrees_byte (λ at u. a at) (λ c u y piece rest h s. tt)))

  -- the same, where the rest does not go by it
  pub byte_then : {Y : Type 0} {K : List ℕ → ℕ → Result (Y × ℕ) Fault} {G : Care → Y → List ℕ → Type 0} {Stop : List ℕ → Type 0} → Agrees K G Stop → Agrees (λ text at. and_then (pass_at byte text at) (K text)) (λ c y. Followed (Exactly (byte ∷ [])) (G c y)) Stop
  byte_then a = byte_then_at (λ at. a)

-- a word that must stand there, and then the rest
pub word_then : {Y : Type 0} (word : List ℕ) {K : List ℕ → ℕ → Result (Y × ℕ) Fault} {G : Care → Y → List ℕ → Type 0} {Stop : List ℕ → Type 0} → Agrees K G Stop → Agrees (λ text at. and_then (pass_word word text at) (K text)) (λ c y. Followed (Exactly word) (G c y)) Stop
unfolding pass_word
word_then [] {K} {G} a =
    agrees_as
    (λ c y piece g. record { front = []; back = piece; whole = refl; first = refl; second = g })
    (λ c y piece f. subst (G c y) (sym (f.whole ∙ ap (λ t. t ++ f.back) f.first)) f.second)
    a
word_then (b ∷ word) {K} {G} a =
    agrees_as (λ c y piece. word_to b word) (λ c y piece. word_from b word)
    (agrees_same (λ text at. sym (then_then (pass_at b text at) (pass_word word text) (K text)))
    (byte_then b (word_then word a)))
