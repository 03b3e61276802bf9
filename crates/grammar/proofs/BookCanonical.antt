-- The text that is written of a book is its one canonical spelling, and a book that is spelt is one that can be written.
use Rattle.std.proofs.Common.{◌≡◌, ℕ, suc, ◌+◌, ◌<◌, ◌≤◌, List, [], ◌∷◌, ◌++◌, length, Some, None, decimal, Option, sym, refl, ap, ◌∙◌, subst, arith}
use Rattle.std.proofs.ByRecursion.{All-weaker}
use Rattle.std.proofs.lemmas.List.{append_assoc}
use Rattle.std.specs.List.{slice_get, AllByRecursion}
use Rattle.std.specs.Option.{option_flatten}
use Rattle.books.specs.Meaning.{Rule, Atom, Meaning}
use Rattle.text.specs.Forms.{closing}
use Rattle.text.specs.Kinds.{order_opening, atom_opening, rule_opening, void_opening}
use Rattle.text.specs.Spelt.{up_to, space, list_text, kind_text, atom_text, rule_text, rule_line_of, end_text, book_text}
use Rattle.writing.proofs.Gapless.{small_atoms, small_rules}
use Rattle.writing.specs.Writes.{book_gap}
use Rattle.grammar.specs.Pieces.{kept, plain, Exactly, largest}
use Rattle.grammar.specs.Grammar.{Numbered, Declared, Body, AtomForm, RuleForm, AtomForms, RuleForms}
use Rattle.grammar.proofs.PiecesCanonical.{numeral_canonical, numeral_unique, list_canonical, list_unique, up_to_same, up_to_first}
use Rattle.grammar.proofs.PieceByPiece.{followed_by, followed_unique}
use Rattle.grammar.proofs.GaplessRules.{GaplessRule, GaplessRow, gap_rules, rules_gapless}
use Rattle.grammar.specs.Notations.{Notation}
use Rattle.grammar.specs.Theorems.{Fitting, SpeltBy, written_of}

-- what f gives of each thing and its number, one after another from number k on
abbrev lines_from : {X : Type 0} → (ℕ → X → List ℕ) → ℕ → List X → List ℕ
lines_from f k [] = []
lines_from f k (x ∷ xs) = f k x ++ lines_from f (k + 1) xs

lines_on : {X : Type 0} (f : ℕ → Option X → List ℕ) (k : ℕ) (xs : List X) → up_to (λ i. f (k + i) (slice_get xs i)) (length xs) ≡ lines_from (λ i x. f i (Some x)) k xs
unfolding up_to
lines_on f k [] = refl
lines_on f k (x ∷ xs) =
    let here : k + 0 ≡ k = omega arith in
    let next : (i : ℕ) → k + suc i ≡ k + 1 + i = λ i. omega arith in
    up_to_first (λ i. f (k + i) (slice_get (x ∷ xs) i)) (length xs)
    ∙ ap (λ n. f n (Some x) ++ up_to (λ i. f (k + suc i) (slice_get xs i)) (length xs)) here
    ∙ ap (λ t. f k (Some x) ++ t) (up_to_same _ _ (λ i. ap (λ n. f n (slice_get xs i)) (next i)) (length xs) ∙ lines_on f (k + 1) xs)

lines_text : {X : Type 0} (f : ℕ → Option X → List ℕ) (xs : List X) → up_to (λ i. f i (slice_get xs i)) (length xs) ≡ lines_from (λ i x. f i (Some x)) 0 xs
lines_text f xs =
    let same : (i : ℕ) → i ≡ 0 + i = λ i. omega arith in
    up_to_same _ _ (λ i. ap (λ n. f n (slice_get xs i)) (same i)) (length xs) ∙ lines_on f 0 xs

numbered_canonical : (k : ℕ) → k < 1024 → Numbered plain k (decimal k)
numbered_canonical k l = record { number = k; spelt = numeral_canonical largest k (omega arith) (omega arith); next = refl }

numbered_unique : (k : ℕ) (text : List ℕ) → Numbered plain k text → text ≡ decimal k
numbered_unique k text h = numeral_unique largest h.number text h.spelt ∙ ap decimal h.next

declared_canonical : (atoms n : ℕ) → atoms ≤ 1024 → n < atoms → Declared plain atoms n (decimal n)
declared_canonical atoms n l h = record { spelt = numeral_canonical largest n (omega arith) (omega arith); declared = h }

declared_unique : (atoms n : ℕ) (text : List ℕ) → Declared plain atoms n text → text ≡ decimal n
declared_unique atoms n text h = numeral_unique largest n text h.spelt

body_canonical : (atoms : ℕ) (ns : List ℕ) → atoms ≤ 1024 → length ns ≤ 6 → AllByRecursion (λ n. n < atoms) ns → Body plain atoms ns (list_text ns)
body_canonical atoms ns l few h =
    record {
      listed = list_canonical largest ns (omega arith) (All-weaker (λ n. n < atoms) (λ n. n ≤ largest) (λ n b. omega arith) ns h);
      few = few;
      declared = h;
    }

body_unique : (atoms : ℕ) (ns text : List ℕ) → Body plain atoms ns text → text ≡ list_text ns
body_unique atoms ns text h = list_unique largest ns text h.listed

exactly_unique : (word text : List ℕ) → Exactly word text → text ≡ word
exactly_unique word text e = e

append_five : (a b c d e : List ℕ) → a ++ b ++ c ++ d ++ e ≡ a ++ (b ++ (c ++ (d ++ e)))
append_five a b c d e = simp append_assoc

append_nine : (a b c d e f g h i : List ℕ) → a ++ b ++ c ++ d ++ e ++ f ++ g ++ h ++ i ≡ a ++ (b ++ (c ++ (d ++ (e ++ (f ++ (g ++ (h ++ i)))))))
append_nine a b c d e f g h i = simp append_assoc

-- a rule's line, bracketed as the grammar has it
module _ (k : ℕ) (r : Rule) where
  abbrev after_positives : List ℕ
  after_positives = space ++ (list_text r.negatives ++ closing)

  abbrev after_head : List ℕ
  after_head = space ++ (list_text r.positives ++ after_positives)

  abbrev after_number : List ℕ
  after_number = space ++ (decimal r.head ++ after_head)

  rule_text_lem : rule_text k (Some r) ≡ rule_opening ++ (decimal k ++ after_number)
  rule_text_lem =
      append_nine rule_opening (decimal k) space (decimal r.head) space (list_text r.positives) space (list_text r.negatives) closing

  rule_canonical : (atoms : ℕ) → atoms ≤ 1024 → k < 1024 → GaplessRule atoms r → RuleForm plain atoms k (Some r) (rule_text k (Some r))
  rule_canonical atoms a l s =
      subst (RuleForm plain atoms k (Some r)) (sym rule_text_lem)
      (followed_by rule_opening (decimal k ++ after_number) refl
      (followed_by (decimal k) after_number (numbered_canonical k l)
      (followed_by space (decimal r.head ++ after_head) refl
      (followed_by (decimal r.head) after_head (declared_canonical atoms r.head a s.declared)
      (followed_by space (list_text r.positives ++ after_positives) refl
      (followed_by (list_text r.positives) after_positives (body_canonical atoms r.positives a s.few_positives s.positives)
      (followed_by space (list_text r.negatives ++ closing) refl
      (followed_by (list_text r.negatives) closing (body_canonical atoms r.negatives a s.few_negatives s.negatives) refl))))))))

  rule_unique : (atoms : ℕ) (text : List ℕ) → RuleForm plain atoms k (Some r) text → text ≡ rule_text k (Some r)
  rule_unique atoms text h =
      followed_unique (exactly_unique rule_opening)
      (λ t. followed_unique (numbered_unique k)
      (λ t. followed_unique (exactly_unique space)
      (λ t. followed_unique (declared_unique atoms r.head)
      (λ t. followed_unique (exactly_unique space)
      (λ t. followed_unique (body_unique atoms r.positives)
      (λ t. followed_unique (exactly_unique space)
      (λ t. followed_unique (body_unique atoms r.negatives) (exactly_unique closing)))))))) h
      ∙ sym rule_text_lem

rule_line_canonical : (atoms k : ℕ) (o : Option Rule) → atoms ≤ 1024 → k < 1024 → GaplessRow atoms o → RuleForm plain atoms k o (rule_text k o)
rule_line_canonical atoms k None a l s =
    subst (RuleForm plain atoms k None) (sym (append_assoc void_opening (decimal k) closing))
    (followed_by void_opening (decimal k ++ closing) refl (followed_by (decimal k) closing (numbered_canonical k l) refl))
rule_line_canonical atoms k (Some r) a l s = rule_canonical k r atoms a l s

rule_line_unique : (atoms k : ℕ) (o : Option Rule) (text : List ℕ) → RuleForm plain atoms k o text → text ≡ rule_text k o
rule_line_unique atoms k None text h =
    followed_unique (exactly_unique void_opening)
    (λ t. followed_unique (numbered_unique k) (exactly_unique closing)) h
    ∙ sym (append_assoc void_opening (decimal k) closing)
rule_line_unique atoms k (Some r) text h = rule_unique k r atoms text h

rules_canonical : (atoms k : ℕ) (os : List (Option Rule)) → atoms ≤ 1024 → k + length os ≤ 1024 → AllByRecursion (GaplessRow atoms) os → RuleForms plain atoms k os (lines_from rule_text k os)
rules_canonical atoms k [] a l s = refl
rules_canonical atoms k (o ∷ os) a l s =
    followed_by (rule_text k o) (lines_from rule_text (k + 1) os) (rule_line_canonical atoms k o a (omega arith) s.0)
    (rules_canonical atoms (k + 1) os a (omega arith) s.1)

rules_unique : (atoms k : ℕ) (os : List (Option Rule)) (text : List ℕ) → RuleForms plain atoms k os text → text ≡ lines_from rule_text k os
rules_unique atoms k [] text h = h
rules_unique atoms k (o ∷ os) text h =
    followed_unique (rule_line_unique atoms k o) (rules_unique atoms (k + 1) os) h

rule_line_gapless : (atoms k : ℕ) (o : Option Rule) (text : List ℕ) → RuleForm kept atoms k o text → GaplessRow atoms o
rule_line_gapless atoms k None text h = tt
rule_line_gapless atoms k (Some r) text h =
    let head = h.second.second.second in
    let positives = head.second.second in
    let negatives = positives.second.second in
    record {
      declared = head.first.declared;
      few_positives = positives.first.few;
      few_negatives = negatives.first.few;
      positives = positives.first.declared;
      negatives = negatives.first.declared;
    }

rules_sound : (atoms k : ℕ) (os : List (Option Rule)) (text : List ℕ) → RuleForms kept atoms k os text → AllByRecursion (GaplessRow atoms) os
rules_sound atoms k [] text h = tt
rules_sound atoms k (o ∷ os) text h = (rule_line_gapless atoms k o h.front h.first, rules_sound atoms (k + 1) os h.back h.second)

module _ {S : Type 0} (n : Notation S) where
  abbrev atom_line : ℕ → Atom S → List ℕ
  atom_line i a = atom_text n.spelt i (Some a)

  -- an atom's line, bracketed as the grammar has it
  module _ (i : ℕ) (a : Atom S) where
    abbrev after_kind : List ℕ
    after_kind = n.spelt a.stamp ++ closing

    atom_text_lem : atom_line i a ≡ atom_opening ++ (decimal i ++ (kind_text a.reading ++ after_kind))
    atom_text_lem = append_five atom_opening (decimal i) (kind_text a.reading) (n.spelt a.stamp) closing

    atom_canonical : i < 1024 → n.spells plain a.stamp (n.spelt a.stamp) → AtomForm n.spells plain i a (atom_line i a)
    atom_canonical l s =
        subst (AtomForm n.spells plain i a) (sym atom_text_lem)
        (followed_by atom_opening (decimal i ++ (kind_text a.reading ++ after_kind)) refl
        (followed_by (decimal i) (kind_text a.reading ++ after_kind) (numbered_canonical i l)
        (followed_by (kind_text a.reading) after_kind refl (followed_by (n.spelt a.stamp) closing s refl))))

    atom_unique : ((text : List ℕ) → n.spells plain a.stamp text → text ≡ n.spelt a.stamp) → (text : List ℕ) → AtomForm n.spells plain i a text → text ≡ atom_line i a
    atom_unique s text h =
        followed_unique (exactly_unique atom_opening)
        (λ t. followed_unique (numbered_unique i)
        (λ t. followed_unique (exactly_unique (kind_text a.reading))
        (λ t. followed_unique s (exactly_unique closing)))) h
        ∙ sym atom_text_lem

  abbrev Held : List (Atom S) → Type 0
  Held xs = AllByRecursion (λ (a : Atom S). n.Fits a.stamp) xs

  atoms_canonical : ((s : S) → n.Fits s → n.spells plain s (n.spelt s)) → (i : ℕ) (xs : List (Atom S)) → i + length xs ≤ 1024 → Held xs → AtomForms n.spells plain i xs (lines_from atom_line i xs)
  atoms_canonical s i [] l h = refl
  atoms_canonical s i (a ∷ xs) l h =
      followed_by (atom_line i a) (lines_from atom_line (i + 1) xs) (atom_canonical i a (omega arith) (s a.stamp h.0))
      (atoms_canonical s (i + 1) xs (omega arith) h.1)

  atoms_unique : ((s : S) (text : List ℕ) → n.spells plain s text → text ≡ n.spelt s) → (i : ℕ) (xs : List (Atom S)) (text : List ℕ) → AtomForms n.spells plain i xs text → text ≡ lines_from atom_line i xs
  atoms_unique s i [] text h = h
  atoms_unique s i (a ∷ xs) text h =
      followed_unique (atom_unique i a (s a.stamp)) (atoms_unique s (i + 1) xs) h

  -- the lines of the rules and the end, and those of the atoms before them
  abbrev rest : Meaning S → List ℕ
  rest m = lines_from rule_text 0 m.rules ++ end_text

  abbrev lines : Meaning S → List ℕ
  lines m = lines_from atom_line 0 m.atoms ++ rest m

  book_text_lem : (m : Meaning S) → written_of n m ≡ (order_opening ++ (n.word ++ closing)) ++ lines m
  unfolding book_text
  book_text_lem m =
      let order = order_opening ++ n.word ++ closing in
      ap (λ t. order ++ t ++ up_to (rule_line_of m) (length m.rules) ++ end_text) (lines_text (atom_text n.spelt) m.atoms)
      ∙ ap (λ t. order ++ lines_from atom_line 0 m.atoms ++ t ++ end_text) (lines_text (λ i o. rule_text i (option_flatten o)) m.rules)
      ∙ append_assoc (order ++ lines_from atom_line 0 m.atoms) (lines_from rule_text 0 m.rules) end_text
      ∙ append_assoc order (lines_from atom_line 0 m.atoms) (rest m)
      ∙ ap (λ t. t ++ lines m) (append_assoc order_opening n.word closing)

  -- the text that is written of a book spells it, with no leading zeros
  pub book_canonical : ((s : S) → n.Fits s → n.spells plain s (n.spelt s)) → (m : Meaning S) → book_gap m ≡ None → Fitting n m → SpeltBy n plain m (written_of n m)
  book_canonical s m e h =
      let small : length m.atoms ≤ 1024 = small_atoms m e in
      let few : length m.rules ≤ 1024 = small_rules m e in
      subst (SpeltBy n plain m) (sym (book_text_lem m))
      (followed_by (order_opening ++ (n.word ++ closing)) (lines m) (followed_by order_opening (n.word ++ closing) refl (followed_by n.word closing refl refl))
      (followed_by (lines_from atom_line 0 m.atoms) (rest m) (atoms_canonical s 0 m.atoms (omega arith) h)
      (followed_by (lines_from rule_text 0 m.rules) end_text (rules_canonical (length m.atoms) 0 m.rules small (omega arith) (gap_rules m e)) refl)))

  -- and no other text does
  pub book_unique : ((s : S) (text : List ℕ) → n.spells plain s text → text ≡ n.spelt s) → (m : Meaning S) (text : List ℕ) → SpeltBy n plain m text → text ≡ written_of n m
  book_unique s m text h =
      followed_unique
      (λ t. followed_unique (exactly_unique order_opening) (λ u. followed_unique (exactly_unique n.word) (exactly_unique closing)))
      (λ t. followed_unique (atoms_unique s 0 m.atoms)
      (λ u. followed_unique (rules_unique (length m.atoms) 0 m.rules) (exactly_unique end_text))) h
      ∙ sym (book_text_lem m)

  atoms_held : ((s : S) (text : List ℕ) → n.spells kept s text → n.Fits s) → (i : ℕ) (xs : List (Atom S)) (text : List ℕ) → AtomForms n.spells kept i xs text → Held xs
  atoms_held s i [] text h = tt
  atoms_held s i (a ∷ xs) text h =
      let stamped = h.first.second.second.second in
      (s a.stamp stamped.front stamped.first, atoms_held s (i + 1) xs h.back h.second)

  -- the machine holds the stamps of a book that is spelt
  pub spelt_held : ((s : S) (text : List ℕ) → n.spells kept s text → n.Fits s) → (m : Meaning S) (text : List ℕ) → SpeltBy n kept m text → Fitting n m
  spelt_held s m text h = atoms_held s 0 m.atoms h.second.front h.second.first

  -- a book that is spelt can be written
  pub spelt_gapless : (m : Meaning S) (text : List ℕ) → SpeltBy n kept m text → length m.atoms ≤ 1024 → length m.rules ≤ 1024 → book_gap m ≡ None
  spelt_gapless m text h a b =
      let ruled = h.second.second in
      rules_gapless m a b (rules_sound (length m.atoms) 0 m.rules ruled.front ruled.first)
