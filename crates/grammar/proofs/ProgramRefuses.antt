-- The place at which the program refuses a byte, from the laws of each kind of text.
use Rattle.std.proofs.Common.{◌≡◌, ℕ, zero, suc, ◌+◌, ◌<◌, ◌≤◌, max, Bool, true, false, cond, eqb, ltb, ◌⊎◌, List, [], ◌∷◌, ◌++◌, length, take, drop, Some, None, Ok, Err, codes, Option, Result, sym, refl, ap, ◌∙◌, subst, inl, inr, add-one, arith}
use Rattle.std.proofs.lemmas.Bool.{both_ways, cases_lt, eqb-true, eq-eqb, and_parts, and_from}
use Rattle.std.specs.List.{slice_get}
use Rattle.books.specs.Check.{book_fault, unless}
use Rattle.books.specs.Meaning.{Meaning}
use Rattle.books.specs.declared.fault.CheckFault.{CheckFault}
use Rattle.books.specs.declared.fault.Fault.{Fault}
use Rattle.books.specs.declared.fault.Fault.TheVariants.{Reading}
use Rattle.books.specs.declared.fault.ReadFault.TheVariants.{Byte, TooMany}
use Rattle.text.specs.Bytes.{and_then, wrong_at}
use Rattle.text.specs.Kinds.{begins}
use Rattle.text.specs.Orders.{tick_order, route_order, then_order, word_of, order_refused}
use Rattle.text.specs.Words.{agrees_to, is_byte}
use Rattle.text.specs.declared.order.Word.TheVariants as word
use Rattle.stamps.specs.Kinds as kinds
use Rattle.writing.specs.Replies.{checked_text, canonical_at, by_word, program_at}
use Rattle.writing.specs.Writes.{book_gap, write_answer}
use Rattle.grammar.specs.Notations.{Notation, ticks, routes, pairs}
use Rattle.grammar.specs.Programs.{RefusedByAll, ProgramRefusesThere}
use Rattle.grammar.specs.Theorems.{read_as, written_of, Shaped, RefusedThere}
use Rattle.grammar.proofs.Laws.{lawful_ticks, lawful_routes, lawful_pairs, refused_at_the_first_byte_lem}
use Rattle.stamps.specs.Orders.{Tests}
use Rattle.std.proofs.lemmas.Bool.Decides.{nat_tests}

-- how many bytes of a word a text begins with
abbrev agreed : List ℕ → List ℕ → ℕ
agreed [] text = 0
agreed (b ∷ word) [] = 0
agreed (b ∷ word) (c ∷ text) = cond (eqb c b) (suc (agreed word text)) 0

agreed_step : (b : ℕ) (word text : List ℕ) (at : ℕ) → agreed (b ∷ word) (drop at text) ≡ cond (is_byte b (slice_get text at)) (suc (agreed word (drop (at + 1) text))) 0
agreed_step b word text at = rw add-one (by_suc text at)
  where
    by_suc : (text : List ℕ) (at : ℕ) → agreed (b ∷ word) (drop at text) ≡ cond (is_byte b (slice_get text at)) (suc (agreed word (drop (suc at) text))) 0
    by_suc [] zero = refl
    by_suc [] (suc at) = refl
    by_suc (x ∷ text) zero = refl
    by_suc (x ∷ text) (suc at) = by_suc text at

agrees_to_lem : (word text : List ℕ) (at : ℕ) → agrees_to word text at ≡ at + agreed word (drop at text)
unfolding agrees_to
agrees_to_lem [] text at = omega arith
agrees_to_lem (b ∷ word) text at = rw (agreed_step b word text at) (grind (arith, agrees_to_lem word text (at + 1)))

-- the place up to which a text agrees with a word is the count of the bytes that agree
agrees_from_start : (word text : List ℕ) → agrees_to word text 0 ≡ agreed word text
agrees_from_start word text = omega (arith, agrees_to_lem word text 0, ap (agreed word) (drop_none text))
  where
    drop_none : (text : List ℕ) → drop 0 text ≡ text
    drop_none [] = refl
    drop_none (b ∷ text) = refl

agreed_within : (word text : List ℕ) → agreed word text ≤ length text
agreed_within [] text = omega arith
agreed_within (b ∷ word) [] = omega arith
agreed_within (b ∷ word) (c ∷ text) = grind (arith, agreed_within word text)

-- what agrees with a word goes on as the word does
agreed_front : (word text tail : List ℕ) → take (agreed word text) text ++ (drop (agreed word text) word ++ tail) ≡ word ++ tail
agreed_front [] [] tail = refl
agreed_front [] (c ∷ text) tail = refl
agreed_front (b ∷ word) [] tail = refl
agreed_front (b ∷ word) (c ∷ text) tail = grind (arith, nat_tests, agreed_front word text tail)

-- a text whose front up to k and at it goes on as one with the word agrees with the word past k, or begins with all of it
meets : (word rest text more : List ℕ) (k : ℕ) → k < length text → take (suc k) text ++ more ≡ word ++ rest → (k < agreed word text) ⊎ (begins word text ≡ true)
meets [] rest text more k l e = inr refl
meets (b ∷ word) rest [] more k l e = absurd (omega arith)
meets (b ∷ word) rest (c ∷ text) more zero l e =
    let same : c ≡ b = cc in
    inl (subst (λ t. 0 < cond t (suc (agreed word text)) 0) (sym (eq-eqb c b same)) (omega arith))
meets (b ∷ word) rest (c ∷ text) more (suc k) l e =
    let same : c ≡ b = cc in
    let next : take (suc k) text ++ more ≡ word ++ rest = cc in
    elim (meets word rest text more k (omega arith) next) [
      | inl h ↦ inl (subst (λ t. suc k < cond t (suc (agreed word text)) 0) (sym (eq-eqb c b same)) (omega (arith, h)))
      | inr h ↦ inr (and_from (eqb c b) (begins word text) (eq-eqb c b same) h)
    ]

begins_front : (word text : List ℕ) → begins word text ≡ true → (rest : List ℕ) × (text ≡ word ++ rest)
begins_front [] text h = (text, refl)
begins_front (b ∷ word) [] h = absurd (grind arith)
begins_front (b ∷ word) (c ∷ text) h =
    let parts = and_parts (eqb c b) (begins word text) h in
    let (rest, e) = begins_front word text parts.1 in
    (rest, ap (λ y. y ∷ text) (eqb-true c b parts.0) ∙ ap (λ t. b ∷ t) e)

take_front : (word rest tail : List ℕ) (n : ℕ) → n ≤ length word → take n (word ++ rest) ++ (drop n word ++ tail) ≡ word ++ tail
take_front [] [] tail zero l = refl
take_front [] (c ∷ rest) tail zero l = refl
take_front [] rest tail (suc n) l = absurd (omega arith)
take_front (b ∷ word) rest tail zero l = refl
take_front (b ∷ word) rest tail (suc n) l = ap (λ t. b ∷ t) (take_front word rest tail n (omega arith))

module _ {S : Type 0} (n : Notation S) where
  abbrev order_line : List ℕ
  order_line = codes "(order " ++ (n.word ++ codes ")\n")

  -- a text of a kind begins with its order form
  order_front : (text : List ℕ) → Shaped n text → (rest : List ℕ) × (text ≡ order_line ++ rest)
  order_front text (m, s) =
      let o = s.first in
      let p = o.second in
      let line = p.whole ∙ grind (arith, p.first, p.second) in
      (s.back, s.whole ∙ ap (λ t. t ++ s.back) (o.whole ∙ ap (λ t. t ++ o.back) o.first ∙ ap (λ t. codes "(order " ++ t) line))

  -- the text of the book that has nothing
  empty_shaped : Shaped n (order_line ++ codes "(end)\n")
  empty_shaped = (
    record { atoms = []; rules = [] },
    record {
      front = order_line;
      back = codes "(end)\n";
      whole = refl;
      first = record { front = codes "(order "; back = n.word ++ codes ")\n"; whole = refl; first = refl; second = record { front = n.word; back = codes ")\n"; whole = refl; first = refl; second = refl } };
      second = record { front = []; back = codes "(end)\n"; whole = refl; first = refl; second = record { front = []; back = codes "(end)\n"; whole = refl; first = refl; second = refl } };
    },
  )

  -- every text of the kind begins with the word, and so does one that is known
  record Opened (word : List ℕ) : Type 0 where
    opens : (text : List ℕ) → Shaped n text → (rest : List ℕ) × (text ≡ word ++ rest)
    tail : List ℕ
    sample : Shaped n (word ++ tail)

  -- a text that agrees with the word no further than k, and does not begin with it, begins no text of the kind past k
  none_past : (word text : List ℕ) (k : ℕ) → Opened word → begins word text ≡ false → agreed word text ≤ k → k < length text → (more : List ℕ) → Shaped n (take (k + 1) text ++ more) → ⊥
  none_past word text k o f a l more h =
      let (rest, e) = o.opens (take (k + 1) text ++ more) h in
      elim (meets word rest text more k l (ap (λ j. take j text ++ more) (sym (add-one k)) ∙ e)) [
        | inl q ↦ absurd (omega (arith, q, a))
        | inr b ↦ both_ways (begins word text) f b
      ]

  -- a front of the word begins a text of the kind
  front_sampled : (word text : List ℕ) → Opened word → (more : List ℕ) × Shaped n (take (agreed word text) text ++ more)
  front_sampled word text o = (drop (agreed word text) word ++ o.tail, subst (Shaped n) (sym (agreed_front word text o.tail)) o.sample)

  -- a text of the kind that is refused has more than the word before the refused byte
  past_word : (word text rest : List ℕ) (k : ℕ) → Opened word → text ≡ word ++ rest → RefusedThere n text k → k < length text → length word ≤ k
  past_word word text rest k o e r l =
      elim (cases_lt k (length word)) [
        | inl h ↦
            let front = ap (λ t. take (k + 1) t ++ (drop (k + 1) word ++ o.tail)) e ∙ take_front word rest o.tail (k + 1) (omega (arith, h)) in
            absurd (r.none l (drop (k + 1) word ++ o.tail) (subst (Shaped n) (sym front) o.sample))
        | inr h ↦ h
      ]

tick_opened : Opened ticks tick_order
tick_opened = record { opens = λ text h. let (rest, e) = order_front ticks text h in (codes "ck)\n" ++ rest, e); tail = codes "ck)\n(end)\n"; sample = empty_shaped ticks }

route_opened : Opened routes route_order
route_opened = record { opens = λ text h. let (rest, e) = order_front routes text h in (codes "oute)\n" ++ rest, e); tail = codes "oute)\n(end)\n"; sample = empty_shaped routes }

then_opened : Opened pairs then_order
then_opened = record { opens = λ text h. let (rest, e) = order_front pairs text h in (codes "en)\n" ++ rest, e); tail = codes "en)\n(end)\n"; sample = empty_shaped pairs }

module _ {S T : Type 0} (n : Notation S) (other : Notation T) where
  -- a text of one kind that is refused begins no text of another kind, which parts from it within the word
  other_none : (word apart text rest : List ℕ) (k : ℕ) → Opened n word → Opened other apart → text ≡ word ++ rest → begins apart (word ++ rest) ≡ false → agreed apart (word ++ rest) ≤ length word → RefusedThere n text k → k < length text → (more : List ℕ) → Shaped other (take (k + 1) text ++ more) → ⊥
  other_none word apart text rest k o p e f a r l more h =
      none_past other apart text k p (ap (begins apart) e ∙ f) (omega (arith, a, ap (agreed apart) e, past_word n word text rest k o e r l)) l more h

-- one lemma for each word, since each picks another of the three kinds
refused_tick : (text : List ℕ) (k : ℕ) → begins tick_order text ≡ true → RefusedThere ticks text k → RefusedByAll text k
refused_tick text k b r =
    let (rest, e) = begins_front tick_order text b in
    record {
      within = r.within;
      before = (r.before.0, inl r.before.1);
      none = λ l more h.
          elim h [
            | inl t ↦ r.none l more t
            | inr (inl t) ↦ other_none ticks routes tick_order route_order text rest k tick_opened route_opened e refl (omega arith) r l more t
            | inr (inr t) ↦ other_none ticks pairs tick_order then_order text rest k tick_opened then_opened e refl (omega arith) r l more t
          ];
    }

refused_route : (text : List ℕ) (k : ℕ) → begins route_order text ≡ true → RefusedThere routes text k → RefusedByAll text k
refused_route text k b r =
    let (rest, e) = begins_front route_order text b in
    record {
      within = r.within;
      before = (r.before.0, inr (inl r.before.1));
      none = λ l more h.
          elim h [
            | inl t ↦ other_none routes ticks route_order tick_order text rest k route_opened tick_opened e refl (omega arith) r l more t
            | inr (inl t) ↦ r.none l more t
            | inr (inr t) ↦ other_none routes pairs route_order then_order text rest k route_opened then_opened e refl (omega arith) r l more t
          ];
    }

refused_then : (text : List ℕ) (k : ℕ) → begins then_order text ≡ true → RefusedThere pairs text k → RefusedByAll text k
refused_then text k b r =
    let (rest, e) = begins_front then_order text b in
    record {
      within = r.within;
      before = (r.before.0, inr (inr r.before.1));
      none = λ l more h.
          elim h [
            | inl t ↦ other_none pairs ticks then_order tick_order text rest k then_opened tick_opened e refl (omega arith) r l more t
            | inr (inl t) ↦ other_none pairs routes then_order route_order text rest k then_opened route_opened e refl (omega arith) r l more t
            | inr (inr t) ↦ r.none l more t
          ];
    }

-- the place is that of one of the three agreements, the greatest
which_greatest : (a b c k : ℕ) → k ≡ max a (max b c) → (k ≡ a) ⊎ ((k ≡ b) ⊎ (k ≡ c))
which_greatest a b c k e =
    elim (cases_lt a (max b c)) [
      | inl h ↦
          elim (cases_lt b c) [
            | inl g ↦ inr (inr (omega (arith, e, h, g)))
            | inr g ↦ inr (inl (omega (arith, e, h, g)))
          ]
      | inr h ↦ inl (omega (arith, e, h))
    ]

refused_order : (text : List ℕ) (k : ℕ) → begins tick_order text ≡ false → begins route_order text ≡ false → begins then_order text ≡ false → k ≡ max (agreed tick_order text) (max (agreed route_order text) (agreed then_order text)) → RefusedByAll text k
refused_order text k t r h e =
    record {
      within = omega (arith, e, agreed_within tick_order text, agreed_within route_order text, agreed_within then_order text);
      before =
          elim (which_greatest (agreed tick_order text) (agreed route_order text) (agreed then_order text) k e) [
            | inl q ↦ let s = front_sampled ticks tick_order text tick_opened in (s.0, inl (subst (λ j. Shaped ticks (take j text ++ s.0)) (sym q) s.1))
            | inr (inl q) ↦ let s = front_sampled routes route_order text route_opened in (s.0, inr (inl (subst (λ j. Shaped routes (take j text ++ s.0)) (sym q) s.1)))
            | inr (inr q) ↦ let s = front_sampled pairs then_order text then_opened in (s.0, inr (inr (subst (λ j. Shaped pairs (take j text ++ s.0)) (sym q) s.1)))
          ];
      none = λ l more s.
          elim s [
            | inl q ↦ none_past ticks tick_order text k tick_opened t (omega (arith, e)) l more q
            | inr (inl q) ↦ none_past routes route_order text k route_opened r (omega (arith, e)) l more q
            | inr (inr q) ↦ none_past pairs then_order text k then_opened h (omega (arith, e)) l more q
          ];
    }

order_place : (text : List ℕ) → order_refused text ≡ max (agreed tick_order text) (max (agreed route_order text) (agreed then_order text))
unfolding order_refused
order_place text = omega (arith, agrees_from_start tick_order text, agrees_from_start route_order text, agrees_from_start then_order text)

-- the check and the writer refuse no byte
no_byte : {X : Type 0} (fault gap : Option CheckFault) (needed room : ℕ) (x : X) (k : ℕ) → and_then (unless fault) (λ _. and_then (write_answer gap needed room) (λ _. Ok x)) ≡ Err (Reading (Byte k)) → ⊥
no_byte (Some f) gap needed room x k e = grind arith
no_byte None (Some f) needed room x k e = grind arith
no_byte None None needed room x k e = grind arith

-- so a byte that is refused on the way to the canonical text is refused by the reader
read_refused : {S : Type 0} (n : Notation S) (tests : Tests S) (text : List ℕ) (atoms rules room k : ℕ) → canonical_at n.stamp_at n.word n.spelt tests text atoms rules room ≡ Err (Reading (Byte k)) → read_as n text atoms rules ≡ Err (Reading (Byte k))
read_refused {S} n tests text atoms rules room k e = by_book (read_as n text atoms rules) e
  where
    by_book : (r : Result (Meaning S) Fault) → and_then r (λ m. checked_text n.word n.spelt tests m room) ≡ Err (Reading (Byte k)) → r ≡ Err (Reading (Byte k))
    by_book (Ok m) h = absurd (no_byte (book_fault tests m) (book_gap m) (length (written_of n m)) room (written_of n m) k h)
    by_book (Err f) h = grind arith

-- a text that is not too long is refused by the reader of its word's kind
by_order : (text : List ℕ) (T R H : Result (List ℕ) Fault) (k : ℕ) → (T ≡ Err (Reading (Byte k)) → RefusedThere ticks text k) → (R ≡ Err (Reading (Byte k)) → RefusedThere routes text k) → (H ≡ Err (Reading (Byte k)) → RefusedThere pairs text k) → by_word (word_of text) T R H (wrong_at (order_refused text)) ≡ Err (Reading (Byte k)) → RefusedByAll text k
by_order text T R H k tick route then e = by_tests (begins tick_order text) (begins route_order text) (begins then_order text) refl refl refl e
  where
    by_tests : (t r h : Bool) → begins tick_order text ≡ t → begins route_order text ≡ r → begins then_order text ≡ h → by_word (cond t (Some word.Tick) (cond r (Some word.Route) (cond h (Some word.Then) None))) T R H (wrong_at (order_refused text)) ≡ Err (Reading (Byte k)) → RefusedByAll text k
    by_tests true r h bt br bh e = refused_tick text k bt (tick e)
    by_tests false true h bt br bh e = refused_route text k br (route e)
    by_tests false false true bt br bh e = refused_then text k bh (then e)
    by_tests false false false bt br bh e = refused_order text k bt br bh (grind (arith, order_place text))

-- the place at which the program refuses a byte is the first at which no text goes on
pub program_refuses_there_lem : ProgramRefusesThere
unfolding program_at
program_refuses_there_lem text tick_rows route_rows pair_rows rules room k e =
    by_order text _ _ _ k
    (λ h. refused_at_the_first_byte_lem ticks lawful_ticks text tick_rows rules k (read_refused ticks kinds.ticks text tick_rows rules room k h))
    (λ h. refused_at_the_first_byte_lem routes lawful_routes text route_rows rules k (read_refused routes kinds.routes text route_rows rules room k h))
    (λ h. refused_at_the_first_byte_lem pairs lawful_pairs text pair_rows rules k (read_refused pairs kinds.pairs text pair_rows rules room k h))
    (short (ltb 65536 (length text)) _ e)
  where
    short : (t : Bool) (r : Result (List ℕ) Fault) → cond t (Err (Reading (TooMany 0))) r ≡ Err (Reading (Byte k)) → r ≡ Err (Reading (Byte k))
    short t r h = grind arith
