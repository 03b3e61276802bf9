-- Each number, list, tick and pair has one text with no leading zeros, and it is the canonical one.
use Rattle.std.proofs.Common.{◌≡◌, ℕ, zero, suc, ◌^◌, ◌<◌, ◌≤◌, List, [], ◌∷◌, ◌++◌, length, get_or, Some, None, decimal, Option, sym, refl, ap, ◌∙◌, subst, inl, inr, arith}
use Rattle.std.proofs.lemmas.Fmt.{decimal_is_IsNumeral, decimal_digit, decimal-digits_value, first_decimal, length-decimal-le}
use Rattle.std.proofs.lemmas.List.{append_assoc, append-nil}
use Rattle.std.proofs.lemmas.Str.Parse.{numerals_by_value, tells_digits, digits_value_short}
use Rattle.std.proofs.lemmas.Bool.{cases_eq}
use Rattle.std.specs.List.{slice_get, AllByRecursion}
use Rattle.std.specs.Str.Parse.{AllDigits}
use Rattle.stamps.specs.declared.tick.Tick.{Tick}
use Rattle.stamps.specs.declared.then.Then.{Then}
use Rattle.text.specs.Spelt.{up_to, space, opening, shutting, item, list_text, tick_text, pair_text}
use Rattle.grammar.specs.Pieces.{kept, plain, Numeral, Spaced, Listed, largest}
use Rattle.grammar.specs.Stamps.{TickSpelt, PairSpelt}
use Rattle.grammar.proofs.PieceByPiece.{followed_by, followed_unique}
use Rattle.std.proofs.lemmas.Bool.Decides.{nat_tests}

no_leading_zero : (n : ℕ) → n < 2 ^ 64 → get_or (decimal n) 0 0 ≡ 48 → length (decimal n) ≡ 1
no_leading_zero n h e =
    elim (cases_eq n 0) [
      | inl z ↦ ap (λ m. length (decimal m)) z ∙ ap length (decimal_digit 0 (omega arith))
      | inr some ↦ absurd (omega (arith, first_decimal n (omega arith) h))
    ]

-- the decimal digits of a number are its text without leading zeros
pub numeral_canonical : (limit n : ℕ) → n ≤ limit → limit ≤ largest → Numeral plain limit n (decimal n)
numeral_canonical limit n h l =
    let reads = decimal_is_IsNumeral n (omega arith) in
    record {
      digits = reads.0.1;
      some = omega (arith, reads.0.0);
      few = length-decimal-le 10 n (omega arith) (omega arith) (omega arith);
      means = reads.1;
      within = h;
      plainly = no_leading_zero n (omega arith);
    }

-- ten digits are few enough for any limit
pub numeral_unique : (limit n : ℕ) (text : List ℕ) → Numeral plain limit n text → text ≡ decimal n
numeral_unique limit n text h =
    let own = numerals_by_value (AllDigits 10) tells_digits in
    sym (decimal-digits_value own text h.digits (omega (arith, h.some)) h.plainly (omega (arith, digits_value_short own text 10 h.digits h.few)))
    ∙ ap decimal h.means

-- the numbers after the first, each after a space
abbrev pub after_first : List ℕ → List ℕ
after_first [] = []
after_first (n ∷ ns) = space ++ (decimal n ++ after_first ns)

-- numbers with single spaces between them
abbrev pub spaced_text : List ℕ → List ℕ
spaced_text [] = []
spaced_text (n ∷ ns) = decimal n ++ after_first ns

-- what is the same at each number is the same one after another
pub up_to_same : (f g : ℕ → List ℕ) → ((i : ℕ) → f i ≡ g i) → (n : ℕ) → up_to f n ≡ up_to g n
unfolding up_to
up_to_same f g h zero = refl
up_to_same f g h (suc n) = ap (λ t. t ++ f n) (up_to_same f g h n) ∙ ap (λ t. up_to g n ++ t) (h n)

-- the first of them stands in front of the others
pub up_to_first : (f : ℕ → List ℕ) (n : ℕ) → up_to f (suc n) ≡ f 0 ++ up_to (λ i. f (suc i)) n
unfolding up_to
up_to_first f zero = sym (append-nil (f 0))
up_to_first f (suc n) = ap (λ t. t ++ f (suc n)) (up_to_first f n) ∙ append_assoc (f 0) (up_to (λ i. f (suc i)) n) (f (suc n))

-- a number that is not the first
abbrev later : Option ℕ → List ℕ
later None = []
later (Some a) = space ++ decimal a

item_later : (i : ℕ) (o : Option ℕ) → item (suc i) o ≡ later o
item_later i None = refl
item_later i (Some a) = grind (arith, nat_tests)

later_text : (xs : List ℕ) → up_to (λ i. later (slice_get xs i)) (length xs) ≡ after_first xs
unfolding up_to
later_text [] = refl
later_text (x ∷ xs) =
    up_to_first (λ i. later (slice_get (x ∷ xs) i)) (length xs)
    ∙ ap (λ t. (space ++ decimal x) ++ t) (later_text xs)

-- the numbers of a list as the writer has them, each after a space unless it is the first
items_text : (xs : List ℕ) → up_to (λ i. item i (slice_get xs i)) (length xs) ≡ spaced_text xs
unfolding up_to
items_text [] = refl
items_text (x ∷ xs) =
    up_to_first (λ i. item i (slice_get (x ∷ xs) i)) (length xs)
    ∙ ap (λ t. decimal x ++ t) (up_to_same _ _ (λ i. item_later i (slice_get xs i)) (length xs) ∙ later_text xs)

-- the text of a list, bracketed as the grammar has it
pub list_text_lem : (xs : List ℕ) → list_text xs ≡ opening ++ (spaced_text xs ++ shutting)
list_text_lem xs = ap (λ t. opening ++ (t ++ shutting)) (items_text xs)

spaced_canonical : (limit : ℕ) (xs : List ℕ) → limit ≤ largest → AllByRecursion (λ n. n ≤ limit) xs → Spaced plain limit xs (spaced_text xs)
spaced_canonical limit [] l h = refl
spaced_canonical limit (x ∷ []) l h = subst (Numeral plain limit x) (sym (append-nil (decimal x))) (numeral_canonical limit x h.0 l)
spaced_canonical limit (x ∷ y ∷ xs) l h =
    followed_by (decimal x) (space ++ spaced_text (y ∷ xs)) (numeral_canonical limit x h.0 l)
    (followed_by space (spaced_text (y ∷ xs)) refl (spaced_canonical limit (y ∷ xs) l h.1))

spaced_unique : (limit : ℕ) (xs text : List ℕ) → Spaced plain limit xs text → text ≡ spaced_text xs
spaced_unique limit [] text h = h
spaced_unique limit (x ∷ []) text h = numeral_unique limit x text h ∙ sym (append-nil (decimal x))
spaced_unique limit (x ∷ y ∷ xs) text h =
    followed_unique (numeral_unique limit x)
    (λ t. followed_unique (λ s e. e) (λ s. spaced_unique limit (y ∷ xs) s)) h

-- the text that is written of a list spells it, with no leading zeros
pub list_canonical : (limit : ℕ) (xs : List ℕ) → limit ≤ largest → AllByRecursion (λ n. n ≤ limit) xs → Listed plain limit xs (list_text xs)
list_canonical limit xs l h =
    subst (Listed plain limit xs) (sym (list_text_lem xs))
    (followed_by opening (spaced_text xs ++ shutting) refl (followed_by (spaced_text xs) shutting (spaced_canonical limit xs l h) refl))

-- and no other text does
pub list_unique : (limit : ℕ) (xs text : List ℕ) → Listed plain limit xs text → text ≡ list_text xs
list_unique limit xs text h =
    followed_unique (λ t e. e) (λ t. followed_unique (spaced_unique limit xs) (λ s e. e)) h
    ∙ sym (list_text_lem xs)

-- the text that is written of a tick spells it, with no leading zeros
pub tick_canonical : (t : Tick) → t.0 ≤ largest → TickSpelt plain t (tick_text t)
tick_canonical t h = numeral_canonical largest t.0 h (omega arith)

-- and no other text does
pub tick_unique : (t : Tick) (text : List ℕ) → TickSpelt plain t text → text ≡ tick_text t
tick_unique t text h = numeral_unique largest t.0 text h

-- a tick that is read fits
pub tick_fits : (t : Tick) (text : List ℕ) → TickSpelt kept t text → t.0 ≤ largest
tick_fits t text h = h.within

module _ (p : Then Tick Tick) where
  abbrev second : List ℕ
  second = decimal p.second.0 ++ shutting

  abbrev inner : List ℕ
  inner = decimal p.first.0 ++ (space ++ second)

  pair_text_lem : pair_text p ≡ opening ++ inner
  pair_text_lem = simp append_assoc

  -- the text that is written of a pair spells it, with no leading zeros
  pub pair_canonical : p.first.0 ≤ largest → p.second.0 ≤ largest → PairSpelt plain p (pair_text p)
  pair_canonical a b =
      subst (PairSpelt plain p) (sym pair_text_lem)
      (followed_by opening inner refl
      (followed_by (decimal p.first.0) (space ++ second) (tick_canonical p.first a)
      (followed_by space second refl
      (followed_by (decimal p.second.0) shutting (tick_canonical p.second b) refl))))

  -- and no other text does
  pub pair_unique : (text : List ℕ) → PairSpelt plain p text → text ≡ pair_text p
  pair_unique text h =
      followed_unique (λ t e. e)
      (λ t. followed_unique (tick_unique p.first)
      (λ u. followed_unique (λ s e. e)
      (λ v. followed_unique (tick_unique p.second) (λ s e. e)))) h
      ∙ sym pair_text_lem

  -- the ticks of a pair that is read fit
  pub pair_fits : (text : List ℕ) → PairSpelt kept p text → (p.first.0 ≤ largest) × (p.second.0 ≤ largest)
  pair_fits text h = (h.second.first.within, h.second.second.second.first.within)
