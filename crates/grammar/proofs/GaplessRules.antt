-- A book has no gaps exactly where it is small and each of its rules keeps the limits.
use Rattle.std.proofs.Common.{◌≡◌, ℕ, zero, suc, ◌+◌, ◌<◌, ◌≤◌, Bool, true, false, cond, ◌||◌, ltb, List, [], ◌∷◌, ◌++◌, length, is_some, Some, None, Option, sym, refl, ap, ◌∙◌, subst, inl, inr, arith, get_or}
use Rattle.std.proofs.ByRecursion.{All-append}
use Rattle.std.proofs.lemmas.List.{length-append}
use Rattle.std.proofs.lemmas.Option.{slice_get_past, slice_get_within, slice_get-get_or}
use Rattle.std.proofs.lemmas.Bool.{cases_lt, cond-true}
use Rattle.std.specs.List.{slice_get, AllByRecursion}
use Rattle.std.specs.Option.{option_map, option_and_then, option_flatten}
use Rattle.books.proofs.First.{first_none, first_all, within}
use Rattle.books.specs.Check.{first_below}
use Rattle.books.specs.Meaning.{Rule, Atom, Meaning, rule_at, stamp_of, literals}
use Rattle.books.specs.declared.book.Sign.TheVariants.{Positive, Negative}
use Rattle.books.specs.declared.fault.CheckFault.{CheckFault}
use Rattle.books.specs.declared.fault.CheckFault.TheVariants.{BodyTooLong, HeadMissing, LiteralMissing}
use Rattle.text.specs.Spelt.{body_in}
use Rattle.writing.proofs.Gapless.{small_atoms, small_rules, few_everywhere}
use Rattle.writing.specs.Writes.{missing, literal_gap, rule_gap, book_gap}
use Rattle.books.proofs.Places.{all_slice_get, slice_get_all}
use Rattle.std.proofs.lemmas.Bool.Decides.{nat_tests}

-- a rule that keeps the limits in a book of so many atoms
pub record GaplessRule (atoms : ℕ) (r : Rule) : Type 0 where
  pub declared : r.head < atoms
  pub few_positives : length r.positives ≤ 6
  pub few_negatives : length r.negatives ≤ 6
  pub positives : AllByRecursion (λ n. n < atoms) r.positives
  pub negatives : AllByRecursion (λ n. n < atoms) r.negatives

-- a vacant number keeps them
abbrev pub GaplessRow : ℕ → Option Rule → Type 0
GaplessRow atoms None = Unit {0}
GaplessRow atoms (Some r) = GaplessRule atoms r

-- no fault comes of a choice only where the choice is the one without it; in writing's lemma of this name the fault comes first
passes : {X : Type 0} (b : Bool) (x : X) (o : Option X) → cond b o (Some x) ≡ None → (b ≡ true) × (o ≡ None)
passes true x o e = (refl, e)
passes false x o e = absurd (grind arith)

-- bodies that are short enough go on to what comes after them
short_on : {X : Type 0} (a b : ℕ) (x y : X) → a ≤ 6 → b ≤ 6 → cond (ltb 6 a || ltb 6 b) x y ≡ y
short_on a b x y ha hb = grind (arith, nat_tests)

all_parts : {X : Type 0} (P : X → Type 0) (xs ys : List X) → AllByRecursion P (xs ++ ys) → AllByRecursion P xs × AllByRecursion P ys
all_parts P [] ys h = (tt, h)
all_parts P (x ∷ xs) ys h = let rest = all_parts P xs ys h.1 in ((h.0, rest.0), rest.1)

is_there : {S : Type 0} (xs : List (Atom S)) (a : ℕ) → a < length xs → is_some (option_map (λ (x : Atom S). x.stamp) (slice_get xs a)) ≡ true
is_there [] a l = absurd (omega arith)
is_there (x ∷ xs) zero l = refl
is_there (x ∷ xs) (suc a) l = is_there xs a (omega arith)

module _ {S : Type 0} (m : Meaning S) where
  -- the atoms of the book
  abbrev pub count : ℕ
  count = length m.atoms

  -- an atom that has a stamp is below the count
  below_count : (a : ℕ) → is_some (stamp_of m a) ≡ true → a < count
  below_count a e =
      elim (cases_lt a count) [
        | inl below ↦ below
        | inr past ↦
            let none : slice_get m.atoms a ≡ None = slice_get_past m.atoms a past in
            absurd (grind arith)
      ]

  literals_below : (fault : ℕ → CheckFault) (ns : List ℕ) → ((i : ℕ) → i < length ns → option_and_then (missing m (fault i)) (slice_get ns i) ≡ None) → AllByRecursion (λ n. n < count) ns
  literals_below fault [] h = tt
  literals_below fault (n ∷ ns) h =
      let here = passes (is_some (stamp_of m n)) (fault 0) None (h 0 (omega arith)) in
      (below_count n here.0, literals_below (λ i. fault (suc i)) ns (λ i l. h (suc i) (omega arith)))

  literal_there : (fault : CheckFault) (ns : List ℕ) (i : ℕ) → AllByRecursion (λ n. n < count) ns → option_and_then (missing m fault) (slice_get ns i) ≡ None
  literal_there fault [] i h = refl
  literal_there fault (n ∷ ns) zero h = cond-true (is_some (stamp_of m n)) None (Some fault) (is_there m.atoms n h.0)
  literal_there fault (n ∷ ns) (suc i) h = literal_there fault ns i h.1

  -- the fault of a rule that has number k
  abbrev gap_in : ℕ → Option Rule → Option CheckFault
  gap_in k o =
      option_and_then
      (λ r. cond (ltb 6 (length r.positives) || ltb 6 (length r.negatives))
      (Some (BodyTooLong k))
      (cond (is_some (stamp_of m r.head))
      (first_below (length r.positives + length r.negatives) (literal_gap m k))
      (Some (HeadMissing k))))
      o

  literals_declared : (k : ℕ) (r : Rule) → rule_at m k ≡ Some r → first_below (length r.positives + length r.negatives) (literal_gap m k) ≡ None → AllByRecursion (λ n. n < count) (literals r)
  literals_declared k r is e =
      literals_below (λ i. LiteralMissing k (i + 1)) (literals r)
      (λ i l.
      ap (λ o. option_and_then (missing m (LiteralMissing k (i + 1))) (option_and_then (λ (s : Rule). slice_get (literals s) i) o)) (sym is)
      ∙ first_none (literal_gap m k) (length r.positives + length r.negatives) e i (omega (arith, length-append r.positives r.negatives)))

  short : book_gap m ≡ None → (k : ℕ) (r : Rule) → rule_at m k ≡ Some r → (length r.positives ≤ 6) × (length r.negatives ≤ 6)
  short e k r is =
      let few = few_everywhere m e k in
      (subst (λ o. length (body_in Positive o) ≤ 6) is (few Positive), subst (λ o. length (body_in Negative o) ≤ 6) is (few Negative))

  gapless_in : book_gap m ≡ None → (k : ℕ) (o : Option Rule) → rule_at m k ≡ o → gap_in k o ≡ None → GaplessRow count o
  gapless_in g k None is e = tt
  gapless_in g k (Some r) is e =
      let few = short g k r is in
      let headed = passes (is_some (stamp_of m r.head)) _ _ (sym (short_on (length r.positives) (length r.negatives) _ _ few.0 few.1) ∙ e) in
      let bodies = all_parts (λ n. n < count) r.positives r.negatives (literals_declared k r is headed.1) in
      record {
        declared = below_count r.head headed.0;
        few_positives = few.0;
        few_negatives = few.1;
        positives = bodies.0;
        negatives = bodies.1;
      }

  -- each rule of a book without gaps keeps the limits
  pub gap_rules : book_gap m ≡ None → AllByRecursion (GaplessRow count) m.rules
  gap_rules e =
      let rest = sym (within (length m.atoms) (length m.rules) _ _ (small_atoms m e) (small_rules m e)) ∙ e in
      all_slice_get (GaplessRow count) m.rules (λ k o at. subst (GaplessRow count) (ap option_flatten at) (gapless_in e k (rule_at m k) refl (first_none (rule_gap m) (length m.rules) rest k (slice_get_within m.rules k o at))))

  literals_gapless : (k : ℕ) (r : Rule) → rule_at m k ≡ Some r → GaplessRule count r → (i : ℕ) → literal_gap m k i ≡ None
  literals_gapless k r is s i =
      ap (λ o. option_and_then (missing m (LiteralMissing k (i + 1))) (option_and_then (λ (t : Rule). slice_get (literals t) i) o)) is
      ∙ literal_there (LiteralMissing k (i + 1)) (literals r) i (All-append (λ n. n < count) r.positives r.negatives s.positives s.negatives)

  gap_none : (k : ℕ) (o : Option Rule) → rule_at m k ≡ o → GaplessRow count o → gap_in k o ≡ None
  gap_none k None is s = refl
  gap_none k (Some r) is s =
      short_on (length r.positives) (length r.negatives) _ _ s.few_positives s.few_negatives
      ∙ cond-true _ _ _ (is_there m.atoms r.head s.declared)
      ∙ first_all (literal_gap m k) (length r.positives + length r.negatives) (λ i l. literals_gapless k r is s i)

  -- and a book of such rules has no gaps
  pub rules_gapless : length m.atoms ≤ 1024 → length m.rules ≤ 1024 → AllByRecursion (GaplessRow count) m.rules → book_gap m ≡ None
  rules_gapless a b s =
      within (length m.atoms) (length m.rules) _ _ a b
      ∙ first_all (rule_gap m) (length m.rules) (λ k l.
      let at = slice_get-get_or m.rules k None l in
      gap_none k (rule_at m k) refl (subst (GaplessRow count) (sym (ap option_flatten at)) (slice_get_all (GaplessRow count) m.rules s k (get_or m.rules k None) at)))
