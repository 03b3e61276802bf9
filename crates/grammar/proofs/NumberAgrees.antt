-- Numbers are read as the grammar has them.
use Rattle.std.proofs.Common.{◌≡◌, ℕ, zero, suc, ◌+◌, ◌-◌, ◌*◌, ◌^◌, ◌<◌, ◌≤◌, Bool, true, false, cond, ◌&&◌, eqb, ltb, leb, List, [], ◌∷◌, ◌++◌, length, drop, is_some, Some, None, Ok, Err, Option, Result, sym, refl, ap, ◌∙◌, inl, inr, arith}
use Rattle.std.proofs.lemmas.Int.Digits.{digits_value_push, digits_push}
use Rattle.std.proofs.lemmas.List.{append-nil, length_push}
use Rattle.std.proofs.lemmas.Str.Parse.{digit_from_value, numerals_by_value, tells_digits, digits_value_short}
use Rattle.std.proofs.lemmas.Bool.{eqb-true, eqb-false, ltb-true, ltb-false, leb-true, and_parts, cases_Bool, cases_lt}
use Rattle.std.specs.List.{slice_get}
use Rattle.std.specs.Str.Parse.{AllDigits, digits_value}
use Rattle.std.specs.Char.{digit_value}
use Rattle.books.specs.declared.fault.ReadFault.TheVariants.{Number}
use Rattle.books.specs.declared.fault.Fault.{Fault}
use Rattle.books.specs.declared.fault.Fault.TheVariants.{Reading}
use Rattle.text.specs.Bytes.{and_then, wrong_at}
use Rattle.text.specs.Numbers.{digit_of, digit_at, grown, one_more, digits_from, judged, number_at}
use Rattle.text.specs.Turns.{turns}
use Rattle.grammar.specs.Agreement.{Same, Shared, Between, Seen, ShapeOnly, Reads, Agrees, NoDigit}
use Rattle.grammar.specs.Pieces.{Care, shape, kept, plain, Kept, Numeral}
use Rattle.grammar.proofs.RestOfText.{slice_get_front, between_join, between_none, between_one, drop_past}
use Rattle.grammar.proofs.Degrees.{to_shape, numeral_eased}
use Rattle.std.proofs.lemmas.Bool.Decides.{nat_tests}

digit_value_is : (b : ℕ) → 48 ≤ b → b ≤ 57 → digit_value b ≡ b - 48
digit_value_is b lo hi = grind (arith, nat_tests)

-- a byte that the grammar has for a digit is one to the reader
digit_read : (b : ℕ) → digit_value b < 10 → digit_of (Some b) ≡ Some (digit_value b)
digit_read b h =
    let (lo, hi) = digit_from_value b h in
    grind (arith, nat_tests, digit_value_is b lo hi)

-- and the other way about
digit_kept : (o : Option ℕ) (d : ℕ) → digit_of o ≡ Some d → ((b : ℕ) × (o ≡ Some b) × (digit_value b ≡ d) × (digit_value b < 10))
digit_kept None d e = absurd (grind arith)
digit_kept (Some b) d e =
    elim (cases_Bool (leb 48 b && leb b 57)) [
      | inl t ↦
          let (l, h) = and_parts (leb 48 b) (leb b 57) t in
          let lo = leb-true 48 b l in
          let hi = leb-true b 57 h in
          let v = digit_value_is b lo hi in
          (b, refl, grind (arith, t), omega arith)
      | inr n ↦ absurd (grind (arith, n))
    ]

-- the digits that k turns find: k of them, or fewer, and then no digit follows
record Run (text : List ℕ) (at k : ℕ) : Type 0 where
  piece : List ℕ
  next : ℕ
  between : Between text at next piece
  digits : AllDigits 10 piece
  most : length piece ≤ k
  found : digits_from text at k ≡ (digits_value 10 piece, next)
  ended : length piece < k → digit_at text next ≡ None

run_none : (text : List ℕ) (at : ℕ) → Run text at 0
unfolding turns
run_none text at = record { piece = []; next = at; between = between_none text at; digits = tt; most = omega arith; found = refl; ended = λ l. absurd (omega arith) }

run_more : (text : List ℕ) (at k : ℕ) (run : Run text at k) (o : Option ℕ) → digit_at text run.next ≡ o → Run text at (suc k)
unfolding turns
run_more text at k run None e =
    record {
      piece = run.piece;
      next = run.next;
      between = run.between;
      digits = run.digits;
      most = omega arith;
      found = ap (one_more text) run.found ∙ ap (grown (digits_value 10 run.piece, run.next)) e;
      ended = λ _. e;
    }
run_more text at k run (Some d) e =
    let (b, is, means, small) = digit_kept (slice_get text run.next) d e in
    let grows : digits_value 10 run.piece * 10 + d ≡ digits_value 10 (run.piece ++ (b ∷ [])) = ap (λ (v : ℕ). digits_value 10 run.piece * 10 + v) (sym means) ∙ sym (digits_value_push 10 run.piece b) in
    let longer = length_push run.piece b in
    record {
      piece = run.piece ++ (b ∷ []);
      next = run.next + 1;
      between = between_join text at run.next (run.next + 1) run.piece (b ∷ []) run.between (between_one text run.next b is);
      digits = digits_push 10 run.piece b run.digits small;
      most = omega arith;
      found = grind (arith, run.found, e, grows);
      ended = λ l. let z = run.ended (omega arith) in absurd (grind arith);
    }

run : (text : List ℕ) (at k : ℕ) → Run text at k
run text at zero = run_none text at
run text at (suc k) = let before = run text at k in run_more text at k before (digit_at text before.next) refl

-- how a run of digits is judged
data Way (text : List ℕ) (at limit : ℕ) (p : ℕ × ℕ) : Result (ℕ × ℕ) Fault → Type 0 where
  none : p.1 ≡ at → Way text at limit p (wrong_at at)
  more : (d : ℕ) → digit_at text p.1 ≡ Some d → Way text at limit p (wrong_at p.1)
  over : limit < p.0 → Way text at limit p (Err (Reading (Number at)))
  within : (p.1 ≡ at → ⊥) → digit_at text p.1 ≡ None → p.0 ≤ limit → Way text at limit p (Ok p)

judge_by : (text : List ℕ) (at limit : ℕ) (p : ℕ × ℕ) (a : Bool) (o : Option ℕ) (b : Bool) → eqb p.1 at ≡ a → digit_at text p.1 ≡ o → ltb limit p.0 ≡ b → Way text at limit p (cond a (wrong_at at) (cond (is_some o) (wrong_at p.1) (cond b (Err (Reading (Number at))) (Ok p))))
judge_by text at limit p true o b e h l = none (eqb-true p.1 at e)
judge_by text at limit p false (Some d) b e h l = more d h
judge_by text at limit p false None true e h l = over (ltb-true limit p.0 l)
judge_by text at limit p false None false e h l = within (eqb-false p.1 at e) h (ltb-false limit p.0 l)

judge : (text : List ℕ) (at limit : ℕ) (p : ℕ × ℕ) → Way text at limit p (judged text at limit p)
judge text at limit p = judge_by text at limit p (eqb p.1 at) (digit_at text p.1) (ltb limit p.0) refl refl refl

grown_on : (p : ℕ × ℕ) (o : Option ℕ) → p.1 ≤ (grown p o).1
grown_on p None = omega arith
grown_on p (Some d) = omega arith

-- where the texts are the same up to the place after the digits, so are the digits
same_digits : (text other : List ℕ) (at k : ℕ) → Same text other (digits_from text at k).1 → digits_from other at k ≡ digits_from text at k
unfolding turns
same_digits text other at zero same = refl
same_digits text other at (suc k) same =
    let p = digits_from text at k in
    let on = grown_on p (digit_at text p.1) in
    ap (one_more other) (same_digits text other at k (λ i l. same i (omega arith)))
    ∙ ap (λ o. grown p (digit_of o)) (sym (same p.1 on))

same_judged : (text other : List ℕ) (at limit : ℕ) (p : ℕ × ℕ) → slice_get text p.1 ≡ slice_get other p.1 → judged other at limit p ≡ judged text at limit p
same_judged text other at limit p e =
    ap (λ o. cond (eqb p.1 at) (wrong_at at) (cond (is_some (digit_of o)) (wrong_at p.1) (cond (ltb limit p.0) (Err (Reading (Number at))) (Ok p)))) (sym e)

shared_by : (text other : List ℕ) (at limit : ℕ) (p : ℕ × ℕ) (r answer : Result (ℕ × ℕ) Fault) → Way text at limit p r → (Same text other p.1 → answer ≡ r) → Shared r answer text other
shared_by text other at limit p r answer (none e) h = λ same. h (λ i l. same i (omega arith))
shared_by text other at limit p r answer (more d e) h = h
shared_by text other at limit p r answer (over l) h = tt
shared_by text other at limit p r answer (within n e l) h = h

number_shared : (limit : ℕ) (text other : List ℕ) (at : ℕ) → Shared (number_at text at limit) (number_at other at limit) text other
unfolding number_at
number_shared limit text other at =
    let p = digits_from text at 10 in
    shared_by text other at limit p (judged text at limit p) (number_at other at limit) (judge text at limit p)
    (λ same. ap (judged other at limit) (same_digits text other at 10 same) ∙ same_judged text other at limit p (same p.1 (omega arith)))

-- numbers as the grammar has them
abbrev Spelt : ℕ → Care → ℕ → List ℕ → Type 0
Spelt limit c n piece = Numeral c limit n piece

naught : (limit : ℕ) → Spelt limit shape 0 (48 ∷ [])
naught limit = record { digits = (omega arith, tt); some = omega arith; few = omega arith; means = refl; within = tt; plainly = tt }

-- where a digit follows a run, the run has all the digits that were asked for
full : (text : List ℕ) (at k : ℕ) (run : Run text at k) (d : ℕ) → digit_at text run.next ≡ Some d → k ≤ length run.piece
full text at k run d e =
    elim (cases_lt (length run.piece) k) [
      | inl l ↦ let n = run.ended l in absurd (grind arith)
      | inr l ↦ l
    ]

seen_by : (limit : ℕ) (text : List ℕ) (at : ℕ) (run : Run text at 10) (r : Result (ℕ × ℕ) Fault) → Way text at limit (digits_value 10 run.piece, run.next) r → Seen (Spelt limit) r text at
seen_by limit text at run r (none e) = ([], 48 ∷ [], 0, between_none text at, naught limit)
seen_by limit text at run r (more d e) =
    let all = full text at 10 run d e in
    let ten : Numeral shape limit (digits_value 10 run.piece) run.piece = record { digits = run.digits; some = omega arith; few = run.most; means = refl; within = tt; plainly = tt } in
    (run.piece, [], digits_value 10 run.piece, run.between, rw append-nil ten)
seen_by limit text at run r (over l) = tt
seen_by limit text at run r (within n e l) =
    (run.piece, run.between, record { digits = run.digits; some = omega (arith, n, run.between.place); few = run.most; means = refl; within = l; plainly = tt })

number_seen : (limit : ℕ) (text : List ℕ) (at : ℕ) → Seen (Spelt limit) (number_at text at limit) text at
unfolding number_at
number_seen limit text at =
    let ds = run text at 10 in
    rw ds.found (seen_by limit text at ds (judged text at limit (digits_value 10 ds.piece, ds.next)) (judge text at limit (digits_value 10 ds.piece, ds.next)))

no_digit : (b : ℕ) (o : Option ℕ) → digit_value b < 10 → o ≡ Some b → digit_of o ≡ None → ⊥
no_digit b o h e n =
    let d = digit_read b h in
    grind (arith, ap digit_of e)

-- two runs of digits at one place are one, where neither goes on beyond the other's end
same_run : (ds es r s : List ℕ) → AllDigits 10 ds → AllDigits 10 es → ds ++ r ≡ es ++ s → (length ds < length es → NoDigit r) → NoDigit s → ds ≡ es
same_run [] [] r s ds es e f g = refl
same_run [] (c ∷ cs) r s ds es e f g = absurd (no_digit c (slice_get r 0) es.0 (ap (λ t. slice_get t 0) e) (f (omega arith)))
same_run (b ∷ bs) [] r s ds es e f g = absurd (no_digit b (slice_get s 0) ds.0 (ap (λ t. slice_get t 0) (sym e)) g)
same_run (b ∷ bs) (c ∷ cs) r s ds es e f g =
    let head : b ≡ c = cc in
    let tail : bs ++ r ≡ cs ++ s = cc in
    let rest = same_run bs cs r s ds.1 es.1 tail (λ l. f (omega arith)) g in
    cc

-- a number in the text is the run that is found
number_run : (text : List ℕ) (at limit : ℕ) (c : Care) (n : ℕ) (piece rest : List ℕ) → Numeral c limit n piece → NoDigit rest → drop at text ≡ piece ++ rest → digits_from text at 10 ≡ (n, at + length piece)
number_run text at limit c n piece rest g stop e =
    let ds = run text at 10 in
    let ended : length ds.piece < length piece → NoDigit (drop ds.next text) = λ l. ap digit_of (sym (slice_get_front text ds.next)) ∙ ds.ended (omega arith) in
    let same = same_run ds.piece piece (drop ds.next text) rest ds.digits g.digits (sym ds.between.stands ∙ e) ended stop in
    grind (arith, ds.found, ds.between.place, same, g.means)

-- a number over the limit keeps the shape alone
over_shape : (c : Care) (limit n : ℕ) → limit < n → Kept c (n ≤ limit) → ShapeOnly c
over_shape shape limit n l k = tt
over_shape kept limit n l k = omega arith
over_shape plain limit n l k = omega arith

module _ (text : List ℕ) (at limit : ℕ) (c : Care) (n : ℕ) (piece rest : List ℕ) (g : Numeral c limit n piece) (stop : NoDigit rest) (e : drop at text ≡ piece ++ rest) where
  reads_by : (r : Result (ℕ × ℕ) Fault) → Way text at limit (n, at + length piece) r → Reads c r n (at + length piece)
  reads_by r (none h) = absurd (omega arith)
  reads_by r (more d h) =
      let after : digit_at text (at + length piece) ≡ None = grind (arith, slice_get_front text (at + length piece), drop_past text at piece rest e, stop) in
      absurd (grind arith)
  reads_by r (over l) = inr (over_shape c limit n l g.within, (Reading (Number at), refl, tt))
  reads_by r (within h k l) = inl refl

  number_reads : Reads c (number_at text at limit) n (at + length piece)
  unfolding number_at
  number_reads =
      let p : ℕ × ℕ = (n, at + length piece) in
      rw (number_run text at limit c n piece rest g stop e) (reads_by (judged text at limit p) (judge text at limit p))

-- reading a number is reading a numeral after which no digit follows
pub number_agrees : (limit : ℕ) → Agrees (λ text at. number_at text at limit) (λ c n piece. Numeral c limit n piece) NoDigit
number_agrees limit =
    record {
      shaped = λ c n piece. numeral_eased (to_shape c) limit n piece;
      sample = (0, 48 ∷ [], naught limit);
      shared = number_shared limit;
      seen = number_seen limit;
      reads = λ c n piece rest text at g stop e. number_reads text at limit c n piece rest g stop e;
    }

-- ten digits are no more than this, so it limits no number
abbrev pub unlimited : ℕ
unlimited = 9999999999

-- a limit is a test of what is read without it
pub number_limited : (text : List ℕ) (at limit : ℕ) → number_at text at limit ≡ and_then (number_at text at unlimited) (λ q. cond (ltb limit q.0) (Err (Reading (Number at))) (Ok q))
unfolding number_at
number_limited text at limit =
    let r = run text at 10 in
    let p = digits_from text at 10 in
    let small : digits_value 10 r.piece < 10 ^ 10 = digits_value_short (numerals_by_value (AllDigits 10) tells_digits) r.piece 10 r.digits r.most in
    let same : p.0 ≡ digits_value 10 r.piece = ap (λ (q : ℕ × ℕ). q.0) r.found in
    let low : p.0 ≤ unlimited = omega (arith, small, same) in
    grind (arith, nat_tests, low)
