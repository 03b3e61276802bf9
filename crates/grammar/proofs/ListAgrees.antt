-- Numbers in brackets, each tested as it is read, agree with the grammar of lists.
use Rattle.std.proofs.Common.{◌≡◌, ℕ, zero, suc, ◌<◌, Bool, true, false, cond, ◌⊎◌, List, [], ◌∷◌, ◌++◌, Ok, Err, Result, sym, refl, ap, ◌∙◌, subst, inl, inr, arith}
use Rattle.std.proofs.lemmas.List.{append_assoc}
use Rattle.std.proofs.lemmas.Bool.{both_ways, ne_eqb}
use Rattle.std.specs.List.{slice_get}
use Rattle.std.specs.Char.{digit_value}
use Rattle.books.specs.declared.fault.Fault.{Fault}
use Rattle.text.specs.Bytes.{and_then, pass_at}
use Rattle.text.specs.Numbers.{digit_of, number_at}
use Rattle.text.specs.Words.{is_byte}
use Rattle.grammar.specs.Pieces.{Care, shape, Kept, Exactly, Followed, Numeral, Spaced, Listed}
use Rattle.grammar.specs.Agreement.{AtByte, Agrees, NoDigit}
use Rattle.grammar.proofs.AgreeCombined.{Any, Via, agrees_same, agrees_as, agrees_then, agrees_done, byte_then, then_then}
use Rattle.grammar.proofs.AgreeChosen.{agrees_choice, agrees_unless, agrees_never}
use Rattle.grammar.proofs.PieceByPiece.{followed_map, regroup, ungroup, ended, unended, first_of, onto, under}
use Rattle.grammar.proofs.Degrees.{kept_map, kept_fact, kept_three, spaced_eased, to_shape}
use Rattle.grammar.proofs.NumberAgrees.{number_agrees}
use Rattle.text.specs.Lists.{open_at, onward_at, empty_if}
use Rattle.text.specs.Turns.{turns, tries}
use Rattle.grammar.proofs.ListTurns.{tries_first, tries_stay, onward_same, open_same}

-- a number begins with a digit, which is no bracket
starts_digit : (c : Care) (limit n : ℕ) (text rest : List ℕ) → Numeral c limit n text → is_byte 41 (slice_get (text ++ rest) 0) ≡ false
starts_digit c limit n [] rest h = absurd (omega (arith, h.some))
starts_digit c limit n (b ∷ text) rest h = ne_eqb b 41 (λ e. not_digit b e h.digits.0)
  where
    not_digit : (b : ℕ) → b ≡ 41 → digit_value b < 10 → ⊥
    not_digit b e l = let z : digit_value 41 < 10 = subst (λ x. digit_value x < 10) e l in absurd (omega (arith, z))

-- how a list is read: the limit of its numbers, what is known with one more number, two tests that refuse a number, and their faults
pub record Walk (A : Type 0) : Type 0 where
  pub limit : ℕ
  pub add : A → ℕ → A
  pub first : A → ℕ → Bool
  pub second : A → ℕ → Bool
  pub first_fault : ℕ → A → ℕ → Fault
  pub second_fault : ℕ → A → ℕ → Fault

-- neither fault is a byte's, and so many turns are enough: one turn is enough only where the tests refuse every number
pub record Ends {A : Type 0} (w : Walk A) : Type 1 where
  pub first_named : (at : ℕ) (s : A) (v : ℕ) → AtByte (w.first_fault at s v) (λ _. ⊥)
  pub second_named : (at : ℕ) (s : A) (v : ℕ) → AtByte (w.second_fault at s v) (λ _. ⊥)
  pub Enough : ℕ → A → Type 0
  pub next : (n : ℕ) (s : A) (v : ℕ) → w.second s v ≡ false → Enough (suc (suc n)) s → Enough (suc n) (w.add s v)
  pub last : (s : A) (v : ℕ) → Enough (suc zero) s → (w.first s v ≡ true) ⊎ (w.second s v ≡ true)

module _ {A : Type 0} (w : Walk A) where
  -- what is known after all the numbers
  abbrev pub adds : A → List ℕ → A
  adds s [] = s
  adds s (v ∷ vs) = adds (w.add s v) vs

  -- no number is refused
  abbrev pub Passes : A → List ℕ → Type 0
  Passes s [] = Unit {0}
  Passes s (v ∷ vs) = (w.first s v ≡ false) × (w.second s v ≡ false) × Passes (w.add s v) vs

  -- a space leads to another number, and a bracket ends the list
  abbrev onward : (List ℕ → ℕ → Result (A × ℕ) Fault) → A → List ℕ → ℕ → Result (A × ℕ) Fault
  onward next s text at = cond (is_byte 32 (slice_get text at)) (and_then (pass_at 32 text at) (next text)) (and_then (pass_at 41 text at) (λ m. Ok (s, m)))

  abbrev tested : (List ℕ → ℕ → Result (A × ℕ) Fault) → ℕ → A → ℕ → List ℕ → ℕ → Result (A × ℕ) Fault
  tested next at s v text place = cond (w.first s v) (Err (w.first_fault at s v)) (cond (w.second s v) (Err (w.second_fault at s v)) (onward next (w.add s v) text place))

  -- n numbers at most
  unfoldable pub run : ℕ → A → List ℕ → ℕ → Result (A × ℕ) Fault
  run zero s text at = Ok (s, at)
  run (suc n) s text at = and_then (number_at text at w.limit) (λ p. tested (run n (w.add s p.0)) at s p.0 text p.1)

  -- a whole list, of n + 1 numbers at most
  abbrev pub listed : ℕ → A → List ℕ → ℕ → Result (A × ℕ) Fault
  listed n s text at = and_then (pass_at 40 text at) (λ m. cond (is_byte 41 (slice_get text m)) (and_then (pass_at 41 text m) (λ k. Ok (s, k))) (run (suc n) s text m))

  -- what a turn makes of a number that was read: the two tests, and then what follows it
  abbrev pub turned : {X : Type 0} → (A → Bool → ℕ → X) → List ℕ → A → ℕ → ℕ × ℕ → Result X Fault
  turned state text s at p = cond (w.first s p.0) (Err (w.first_fault at s p.0)) (cond (w.second s p.0) (Err (w.second_fault at s p.0)) (and_then (onward_at text p.1) (λ q. Ok (state (w.add s p.0) q.0 q.1))))

  -- a reader that goes through a list turn by turn: its state, what is shown of it, and its turn where another number follows
  module _ {X : Type 0} (text : List ℕ) (turn : X → Result X Fault) (state : A → Bool → ℕ → X) (shown : X → A × ℕ) (shows : (s : A) (more : Bool) (at : ℕ) → shown (state s more at) ≡ (s, at)) (stays : (s : A) (at : ℕ) → turn (state s false at) ≡ Ok (state s false at))
      (steps : (s : A) (at : ℕ) → turn (state s true at) ≡ and_then (number_at text at w.limit) (turned state text s at)) where
    abbrev finish : Result X Fault → Result (A × ℕ) Fault
    finish r = and_then r (λ x. Ok (shown x))

    abbrev rest : ℕ → A → Bool → ℕ → Result (A × ℕ) Fault
    rest n s more at = finish (tries turn (state s more at) n)

    rest_ended : (n : ℕ) (s : A) (at : ℕ) → rest n s false at ≡ Ok (s, at)
    rest_ended n s at = ap finish (tries_stay turn (state s false at) (stays s at) n) ∙ ap Ok (shows s false at)

    -- the turn of a number that was read
    turn_on : (n : ℕ) (s : A) (at v k : ℕ) (a b : Bool) → ((m : ℕ) → rest n (w.add s v) true m ≡ run n (w.add s v) text m)
        → finish (and_then (cond a (Err (w.first_fault at s v)) (cond b (Err (w.second_fault at s v)) (and_then (onward_at text k) (λ q. Ok (state (w.add s v) q.0 q.1))))) (λ y. tries turn y n))
        ≡ cond a (Err (w.first_fault at s v)) (cond b (Err (w.second_fault at s v)) (onward (run n (w.add s v)) (w.add s v) text k))
    unfolding onward_at
    turn_on n s at v k true b h = refl
    turn_on n s at v k false true h = refl
    turn_on n s at v k false false h =
        ap finish (then_then (onward_at text k) (λ q. Ok (state (w.add s v) q.0 q.1)) (λ y. tries turn y n))
        ∙ then_then (onward_at text k) (λ q. tries turn (state (w.add s v) q.0 q.1) n) (λ x. Ok (shown x))
        ∙ onward_same (w.add s v) (run n (w.add s v) text) (λ q. rest n (w.add s v) q.0 q.1) h (λ m. rest_ended n (w.add s v) m) k (slice_get text k)

    -- the turn of an answer of the number's reader
    turn_by : (n : ℕ) (s : A) (at : ℕ) (r : Result (ℕ × ℕ) Fault) → ((v m : ℕ) → rest n (w.add s v) true m ≡ run n (w.add s v) text m)
        → finish (and_then (and_then r (turned state text s at)) (λ y. tries turn y n))
        ≡ and_then r (λ p. tested (run n (w.add s p.0)) at s p.0 text p.1)
    turn_by n s at (Ok p) h = turn_on n s at p.0 p.1 (w.first s p.0) (w.second s p.0) (h p.0)
    turn_by n s at (Err e) h = refl

    rest_same : (n : ℕ) (s : A) (at : ℕ) → rest n s true at ≡ run n s text at
    unfolding turns run
    rest_same zero s at = ap Ok (shows s true at)
    rest_same (suc n) s at =
        ap finish (tries_first turn (state s true at) n)
        ∙ ap (λ r. finish (and_then r (λ y. tries turn y n))) (steps s at)
        ∙ turn_by n s at (number_at text at w.limit) (λ v m. rest_same n (w.add s v) m)

    -- reads a list as it is spelt
    pub list_same : (n : ℕ) (s : A) (at : ℕ) → listed n s text at ≡ and_then (open_at text at) (λ q. and_then (tries turn (state s q.0 q.1) (suc n)) (λ x. Ok (shown x)))
    unfolding open_at
    list_same n s at =
        sym (then_then (pass_at 40 text at) (λ next. Ok (empty_if next (slice_get text next))) (λ q. rest (suc n) s q.0 q.1)
        ∙ by_place (pass_at 40 text at))
      where
        by_place : (r : Result ℕ Fault) → and_then r (λ m. rest (suc n) s (empty_if m (slice_get text m)).0 (empty_if m (slice_get text m)).1) ≡ and_then r (λ m. cond (is_byte 41 (slice_get text m)) (and_then (pass_at 41 text m) (λ k. Ok (s, k))) (run (suc n) s text m))
        by_place (Ok m) = open_same s (run (suc n) s text) (λ q. rest (suc n) s q.0 q.1) (λ k. rest_same (suc n) s k) (λ k. rest_ended (suc n) s k) m (slice_get text m)
        by_place (Err e) = refl

  -- one number or more and the closing bracket
  pub record Tail (c : Care) (s : A) (t : A) (text : List ℕ) : Type 0 where
    pub head : ℕ
    pub rest : List ℕ
    pub parts : Followed (Spaced c w.limit (head ∷ rest)) (Exactly (41 ∷ [])) text
    pub passes : Kept c (Passes s (head ∷ rest))
    pub means : t ≡ adds s (head ∷ rest)

  -- what follows a number
  abbrev Onward : A → Care → A → List ℕ → Type 0
  Onward s c t piece = Followed (Exactly (32 ∷ [])) (Tail c s t) piece ⊎ Followed (Exactly (41 ∷ [])) (λ p. (t ≡ s) × (p ≡ [])) piece

  abbrev Tested : A → ℕ → Care → A → List ℕ → Type 0
  Tested s v c t piece = Kept c (w.first s v ≡ false) × (Kept c (w.second s v ≡ false) × Onward (w.add s v) c t piece)

  abbrev Numbers : Care → ℕ → List ℕ → Type 0
  Numbers c v piece = Numeral c w.limit v piece

  tail_on : (c : Care) (s t : A) (text : List ℕ) (v : ℕ) (f : Followed (Numbers c v) (Tested s v c t) text) → Onward (w.add s v) c t f.back → Tail c s t text
  tail_on c s t text v f (inl on) =
      let tail = on.second in
      record {
        head = v;
        rest = tail.head ∷ tail.rest;
        parts = regroup (onto f (regroup (onto on tail.parts)));
        passes = kept_three (w.first s v ≡ false) (w.second s v ≡ false) (Passes (w.add s v) (tail.head ∷ tail.rest)) c f.second.0 f.second.1.0 tail.passes;
        means = tail.means;
      }
  tail_on c s t text v f (inr on) =
      record {
        head = v;
        rest = [];
        parts = onto f (ended on);
        passes = kept_three (w.first s v ≡ false) (w.second s v ≡ false) (Unit {0}) c f.second.0 f.second.1.0 (kept_fact (Unit {0}) c tt);
        means = on.second.0;
      }

  tail_to : (c : Care) (s t : A) (text : List ℕ) → Via Numbers (Tested s) c t text → Tail c s t text
  tail_to c s t text v = tail_on c s t text v.value v.parts v.parts.second.1.1

  tail_from : (c : Care) (s t : A) (text : List ℕ) → Tail c s t text → Via Numbers (Tested s) c t text
  tail_from c s t text tail = from_tail c s t text tail.head tail.rest tail.parts tail.passes tail.means
    where
      from_tail : (c : Care) (s t : A) (text : List ℕ) (v : ℕ) (vs : List ℕ) → Followed (Spaced c w.limit (v ∷ vs)) (Exactly (41 ∷ [])) text → Kept c (Passes s (v ∷ vs)) → t ≡ adds s (v ∷ vs) → Via Numbers (Tested s) c t text
      from_tail c s t text v [] f k e =
          record { value = v; parts = onto f (kept_map c (λ p. p.0) k, (kept_map c (λ p. p.1) k, inr (unended e f.second))) }
      from_tail c s t text v (u ∷ us) f k e =
          let g = ungroup f in
          let h = ungroup g.second in
          let tail : Tail c (w.add s v) t h.back = record { head = u; rest = us; parts = h.second; passes = kept_map c (λ p. p.2) k; means = e } in
          record { value = v; parts = onto g (kept_map c (λ p. p.0) k, (kept_map c (λ p. p.1) k, inl (onto h tail))) }

  tail_shaped : (c : Care) (s t : A) (text : List ℕ) → Tail c s t text → Tail shape s t text
  tail_shaped c s t text tail =
      record {
        head = tail.head;
        rest = tail.rest;
        parts = followed_map (spaced_eased (to_shape c) w.limit (tail.head ∷ tail.rest)) (λ p e. e) tail.parts;
        passes = tt;
        means = tail.means;
      }

  onward_shaped : (c : Care) (s t : A) (piece : List ℕ) → Onward s c t piece → Onward s shape t piece
  onward_shaped c s t piece (inl f) = inl (under (tail_shaped c s t) f)
  onward_shaped c s t piece (inr f) = inr f

  tested_shaped : (s : A) (v : ℕ) (c : Care) (t : A) (piece : List ℕ) → Tested s v c t piece → Tested s v shape t piece
  tested_shaped s v c t piece (k, (l, on)) = (tt, (tt, onward_shaped c (w.add s v) t piece on))

  tested_sample : (s : A) (v : ℕ) → ((t : A) × (piece : List ℕ) × Tested s v shape t piece)
  tested_sample s v = (w.add s v, 41 ∷ [], (tt, (tt, inr (unended refl refl))))

  -- a space or a bracket is no digit
  tested_stops : (c : Care) (s : A) (v : ℕ) (t : A) (piece rest : List ℕ) → Tested s v c t piece → NoDigit (piece ++ rest)
  tested_stops c s v t piece rest (k, (l, inl f)) = ap digit_of (first_of rest f)
  tested_stops c s v t piece rest (k, (l, inr f)) = ap digit_of (first_of rest f)

  -- a whole list of numbers, none of which is refused
  pub record Bracketed (c : Care) (s t : A) (text : List ℕ) : Type 0 where
    pub numbers : List ℕ
    pub spelt : Listed c w.limit numbers text
    pub passes : Kept c (Passes s numbers)
    pub means : t ≡ adds s numbers

  -- an empty list, or one that has a number
  abbrev Open : A → Care → A → List ℕ → Type 0
  Open s c t piece = Followed (Exactly (41 ∷ [])) (λ p. (t ≡ s) × (p ≡ [])) piece ⊎ Tail c s t piece

  bracketed_to : (c : Care) (s t : A) (text : List ℕ) → Followed (Exactly (40 ∷ [])) (Open s c t) text → Bracketed c s t text
  bracketed_to c s t text f = by_open f.second
    where
      by_open : Open s c t f.back → Bracketed c s t text
      by_open (inl g) =
          let inner : Followed (Exactly []) (Exactly (41 ∷ [])) f.back = record { front = []; back = f.back; whole = refl; first = refl; second = ended g } in
          record { numbers = []; spelt = onto f inner; passes = kept_fact (Unit {0}) c tt; means = g.second.0 }
      by_open (inr tail) =
          record { numbers = tail.head ∷ tail.rest; spelt = onto f tail.parts; passes = tail.passes; means = tail.means }

  bracketed_from : (c : Care) (s t : A) (text : List ℕ) → Bracketed c s t text → Followed (Exactly (40 ∷ [])) (Open s c t) text
  bracketed_from c s t text b = by_numbers b.numbers b.spelt b.passes b.means
    where
      by_numbers : (ns : List ℕ) → Listed c w.limit ns text → Kept c (Passes s ns) → t ≡ adds s ns → Followed (Exactly (40 ∷ [])) (Open s c t) text
      by_numbers [] f k e =
          let g = f.second in
          let close : f.back ≡ 41 ∷ [] = grind (arith, g.whole, g.first, g.second) in
          onto f (inl (unended e close))
      by_numbers (n ∷ ns) f k e =
          onto f (inr (record { head = n; rest = ns; parts = f.second; passes = k; means = e }))

  -- a list that has a number goes on with a digit
  tail_no_bracket : (c : Care) (s t : A) (piece rest : List ℕ) → Tail c s t piece → is_byte 41 (slice_get (piece ++ rest) 0) ≡ false
  tail_no_bracket c s t piece rest tail =
      let v = tail_from c s t piece tail in
      let f = v.parts in
      ap (λ p. is_byte 41 (slice_get (p ++ rest) 0)) f.whole ∙ ap (λ p. is_byte 41 (slice_get p 0)) (append_assoc f.front f.back rest) ∙ starts_digit c w.limit v.value f.front (f.back ++ rest) f.first

  module _ (ends : Ends w) where
    onward_agrees : (next : List ℕ → ℕ → Result (A × ℕ) Fault) (s : A) → Agrees next (λ c t. Tail c s t) Any → Agrees (onward next s) (Onward s) Any
    onward_agrees next s a =
        agrees_choice 32
        (byte_then 32 a)
        (byte_then 41 (agrees_done s))
        (λ c t piece rest f. ap (is_byte 32) (first_of rest f))
        (λ c t piece rest f. ap (is_byte 32) (first_of rest f))

    -- where one of the tests refuses the number, no piece keeps the rules
    refused_agrees : (next : List ℕ → ℕ → Result (A × ℕ) Fault) (at : ℕ) (s : A) (v : ℕ) → (w.first s v ≡ true) ⊎ (w.second s v ≡ true) → Agrees (tested next at s v) (Tested s v) Any
    refused_agrees next at s v (inl e) =
        agrees_same (λ text place. ap (λ b. cond b (Err (w.first_fault at s v)) (cond (w.second s v) (Err (w.second_fault at s v)) (onward next (w.add s v) text place))) (sym e))
        (agrees_never (w.first_fault at s v) (ends.first_named at s v) (tested_shaped s v) (tested_sample s v) (λ c t piece h. kept_map c (λ f. both_ways (w.first s v) f e) h.0))
    refused_agrees next at s v (inr e) =
        agrees_unless (w.first_fault at s v) (ends.first_named at s v)
        (agrees_same (λ text place. ap (λ b. cond b (Err (w.second_fault at s v)) (onward next (w.add s v) text place)) (sym e))
        (agrees_never (w.second_fault at s v) (ends.second_named at s v) (λ c t piece h. (tt, onward_shaped c (w.add s v) t piece h.1)) (let x = tested_sample s v in (x.0, x.1, x.2.1)) (λ c t piece h. kept_map c (λ f. both_ways (w.second s v) f e) h.0)))
        (w.first s v)

    tested_agrees : (next : List ℕ → ℕ → Result (A × ℕ) Fault) (at : ℕ) (s : A) (v : ℕ) → Agrees next (λ c t. Tail c (w.add s v) t) Any → Agrees (tested next at s v) (Tested s v) Any
    tested_agrees next at s v a =
        agrees_unless (w.first_fault at s v) (ends.first_named at s v)
        (agrees_unless (w.second_fault at s v) (ends.second_named at s v) (onward_agrees next (w.add s v) a) (w.second s v))
        (w.first s v)

    by_test : (next : List ℕ → ℕ → Result (A × ℕ) Fault) (at : ℕ) (s : A) (v : ℕ) (b : Bool) → w.second s v ≡ b → (w.second s v ≡ false → Agrees next (λ c t. Tail c (w.add s v) t) Any) → Agrees (tested next at s v) (Tested s v) Any
    by_test next at s v true e a = refused_agrees next at s v (inr e)
    by_test next at s v false e a = tested_agrees next at s v (a e)

    turns_agree : (n : ℕ) (s : A) → ((at v : ℕ) → Agrees (tested (run n (w.add s v)) at s v) (Tested s v) Any) → Agrees (run (suc n) s) (λ c t. Tail c s t) Any
    unfolding run
    turns_agree n s a =
        agrees_as (λ c t text. tail_to c s t text) (λ c t text. tail_from c s t text)
        (agrees_then (number_agrees w.limit) a (λ c v t piece rest g x. tested_stops c s v t piece rest g))

    run_agrees : (n : ℕ) (s : A) → ends.Enough (suc n) s → Agrees (run (suc n) s) (λ c t. Tail c s t) Any
    run_agrees zero s h = turns_agree zero s (λ at v. refused_agrees (run zero (w.add s v)) at s v (ends.last s v h))
    run_agrees (suc n) s h = turns_agree (suc n) s (λ at v. by_test (run (suc n) (w.add s v)) at s v (w.second s v) refl (λ e. run_agrees n (w.add s v) (ends.next n s v e h)))

    -- reading a whole list agrees with the lists of which no number is refused
    pub list_agrees : (n : ℕ) (s : A) → ends.Enough (suc n) s → Agrees (listed n s) (λ c t. Bracketed c s t) Any
    list_agrees n s h =
        agrees_as (λ c t text. bracketed_to c s t text) (λ c t text. bracketed_from c s t text)
        (byte_then 40
        (agrees_choice 41
        (byte_then 41 (agrees_done s))
        (run_agrees n s h)
        (λ c t piece rest f. ap (is_byte 41) (first_of rest f))
        (λ c t piece rest tail. tail_no_bracket c s t piece rest tail)))
