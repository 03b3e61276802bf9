-- The form at which a reader stands agrees with the forms that are allowed there.
use Rattle.std.proofs.Common.{◌≡◌, ℕ, cond, ◌⊎◌, List, [], ◌∷◌, ◌++◌, Some, None, codes, Result, sym, refl, ap, subst, inl, inr, arith}
use Rattle.std.specs.List.{slice_get}
use Rattle.books.specs.Meaning.{Rule}
use Rattle.books.specs.declared.fault.Fault.{Fault}
use Rattle.text.specs.Forms.{Line, order_line, atom_line, rule_line, end_line, closing, order_at}
use Rattle.text.specs.Kinds.{order_opening}
use Rattle.text.specs.Spelt.{space, end_text}
use Rattle.text.specs.Words.{is_byte}
use Rattle.text.specs.declared.counts.Counts.{Counts}
use Rattle.text.specs.declared.reader.Stage.{Stage}
use Rattle.text.specs.declared.reader.Stage.TheVariants.{Start, Atoms, Rules, End}
use Rattle.grammar.specs.Pieces.{Care, Exactly, Followed}
use Rattle.grammar.specs.Grammar.{OrderForm, Declared, Body}
use Rattle.grammar.specs.Agreement.{Agrees, NoDigit}
use Rattle.grammar.proofs.AgreeCombined.{Any, agrees_same, agrees_as, agrees_done, byte_then_at, word_then}
use Rattle.grammar.proofs.AgreeChosen.{agrees_choice}
use Rattle.grammar.proofs.FormByByte.{atom_word, rule_word, void_word, after_atom, after_rule, after_void, after_end, start_same, rules_same, atoms_same}
use Rattle.grammar.proofs.PieceByPiece.{under, regroup, ungroup, ended, unended, word_to, word_from, first_of, onto}
use Rattle.grammar.proofs.FormPartsAgree.{Parts}
use Rattle.grammar.proofs.FormRestsAgree.{RuleRest, rule_rest_agrees, VoidRest, void_rest_agrees, EndRest, end_rest_agrees, AtomRest, atom_rest_agrees}
use Rattle.grammar.proofs.FormsAllowed.{LateForm, FormAt, Going, reads_form}
use Rattle.grammar.specs.Notations.{Notation}

-- the parts of a rule and the end of its form, bracketed as the grammar has them
abbrev Closing : Care → ℕ → Rule → List ℕ → Type 0
Closing c atoms r =
    Followed (Exactly space) (Followed (Declared c atoms r.head) (Followed (Exactly space) (Followed (Body c atoms r.positives) (Followed (Exactly space) (Followed (Body c atoms r.negatives) (Exactly closing))))))

parts_open : (c : Care) (atoms : ℕ) (r : Rule) (text : List ℕ) → Followed (Parts c atoms r) (Exactly closing) text → Closing c atoms r text
parts_open c atoms r text h =
    under (λ t g.
    under (λ u i.
    under (λ v j.
    under (λ w k. ungroup k)
    (ungroup j))
    (ungroup i))
    (ungroup g))
    (ungroup h)

parts_shut : (c : Care) (atoms : ℕ) (r : Rule) (text : List ℕ) → Closing c atoms r text → Followed (Parts c atoms r) (Exactly closing) text
parts_shut c atoms r text h =
    regroup
    (under (λ t g.
    regroup
    (under (λ u i.
    regroup
    (under (λ v j.
    regroup
    (under (λ w k. regroup k) j)) i)) g)) h)

module _ {S : Type 0} (kind : Notation S) (room : Counts) (stamps : Agrees kind.stamp_at kind.spells NoDigit) (atoms rules : ℕ) where
  abbrev RuleAfter : Care → Line S → List ℕ → Type 0
  RuleAfter c y = Followed (Exactly rule_word) (RuleRest S room atoms rules c y)

  abbrev VoidAfter : Care → Line S → List ℕ → Type 0
  VoidAfter c y = Followed (Exactly void_word) (VoidRest S room atoms rules c y)

  abbrev EndAfter : Care → Line S → List ℕ → Type 0
  EndAfter c y = EndRest S room atoms rules c y

  abbrev Late : Care → Line S → List ℕ → Type 0
  Late c y piece = RuleAfter c y piece ⊎ (VoidAfter c y piece ⊎ EndAfter c y piece)

  abbrev AtomAfter : Care → Line S → List ℕ → Type 0
  AtomAfter c y = Followed (Exactly atom_word) (AtomRest S room atoms rules kind.stamp_at kind.spells stamps c y)

  late_reader : ℕ → List ℕ → ℕ → Result (Line S × ℕ) Fault
  late_reader at text m = cond (is_byte 114 (slice_get text m)) (after_rule kind room atoms rules at text m) (cond (is_byte 118 (slice_get text m)) (after_void kind room atoms rules at text m) (after_end kind room atoms rules text m))

  late_agrees : (at : ℕ) → Agrees (late_reader at) Late Any
  unfolding late_reader
  late_agrees at =
      agrees_choice 114
      (word_then rule_word (rule_rest_agrees S room atoms rules at))
      (agrees_choice 118
      (word_then void_word (void_rest_agrees S room atoms rules at))
      (end_rest_agrees S room atoms rules)
      (λ c y piece more f. ap (is_byte 118) (first_of more f))
      (λ c y piece more e. ap (λ t. is_byte 118 (slice_get (t ++ more) 0)) e.1))
      (λ c y piece more f. ap (is_byte 114) (first_of more f))
      no_rule
    where
      no_rule : (c : Care) (y : Line S) (piece more : List ℕ) → VoidAfter c y piece ⊎ EndAfter c y piece → is_byte 114 (slice_get (piece ++ more) 0) ≡ is_byte 114 (Some 118)
      no_rule c y piece more (inl f) = ap (is_byte 114) (first_of more f)
      no_rule c y piece more (inr e) = ap (λ t. is_byte 114 (slice_get (t ++ more) 0)) e.1

  -- a bracket and then a form's word are its opening
  opened : (rest : List ℕ) {A B : List ℕ → Type 0} {text : List ℕ} (f : Followed (Exactly (40 ∷ [])) A text) → Followed (Exactly rest) B f.back → Followed (Exactly (40 ∷ rest)) B text
  opened rest f g = word_to 40 rest (onto f g)

  late_to : (c : Care) (y : Line S) (text : List ℕ) {A : List ℕ → Type 0} (f : Followed (Exactly (40 ∷ [])) A text) → Late c y f.back → LateForm kind room atoms rules c y text
  late_to c y text f (inl g) =
      let (r, e, k, h) = g.second in
      subst (λ x. LateForm kind room atoms rules c x text) (sym e) (k, opened rule_word f (onto g (under (parts_open c atoms r) h)))
  late_to c y text f (inr (inl g)) =
      let (e, k, h) = g.second in
      subst (λ x. LateForm kind room atoms rules c x text) (sym e) (k, opened void_word f (onto g h))
  late_to c y text f (inr (inr g)) =
      let whole : text ≡ end_text = grind (arith, f.whole, f.first, g.1) in
      subst (λ x. LateForm kind room atoms rules c x text) (sym g.0) whole

  late_from : (c : Care) (y : Line S) (text : List ℕ) → LateForm kind room atoms rules c y text → Followed (Exactly (40 ∷ [])) (Late c y) text
  late_from c order_line text h = absurd h
  late_from c (atom_line a) text h = absurd h
  late_from c (rule_line None) text h =
      let f = word_from 40 void_word h.1 in
      let g = f.second in
      onto f (inr (inl (onto g (refl, h.0, g.second))))
  late_from c (rule_line (Some r)) text h =
      let f = word_from 40 rule_word h.1 in
      let g = f.second in
      onto f (inl (onto g (r, refl, h.0, under (parts_shut c atoms r) g.second)))
  late_from c end_line text h =
      record { front = 40 ∷ []; back = codes "end)\n"; whole = h; first = refl; second = inr (inr (refl, refl)) }

  rules_agree : Agrees (reads_form kind room Rules atoms rules) (FormAt kind room Rules atoms rules) Any
  unfolding late_reader
  rules_agree =
      agrees_same (rules_same kind room atoms rules)
      (agrees_as (λ c y text f. late_to c y text f f.second) late_from
      (byte_then_at 40 late_agrees))

  -- among atoms
  abbrev Early : Care → Line S → List ℕ → Type 0
  Early c y piece = AtomAfter c y piece ⊎ Late c y piece

  early_agrees : (at : ℕ) → Agrees (λ text m. cond (is_byte 97 (slice_get text m)) (after_atom kind room atoms rules at text m) (late_reader at text m)) Early Any
  early_agrees at =
      agrees_choice 97
      (word_then atom_word (atom_rest_agrees S room atoms rules kind.stamp_at kind.spells stamps at))
      (late_agrees at)
      (λ c y piece more f. ap (is_byte 97) (first_of more f))
      no_atom_lem
    where
      no_atom_lem : (c : Care) (y : Line S) (piece more : List ℕ) → Late c y piece → is_byte 97 (slice_get (piece ++ more) 0) ≡ is_byte 97 (Some 114)
      no_atom_lem c y piece more (inl f) = ap (is_byte 97) (first_of more f)
      no_atom_lem c y piece more (inr (inl f)) = ap (is_byte 97) (first_of more f)
      no_atom_lem c y piece more (inr (inr e)) = ap (λ t. is_byte 97 (slice_get (t ++ more) 0)) e.1

  -- what is allowed among rules is allowed among atoms
  late_early : (c : Care) (y : Line S) (text : List ℕ) → LateForm kind room atoms rules c y text → FormAt kind room Atoms atoms rules c y text
  late_early c order_line text h = absurd h
  late_early c (atom_line a) text h = absurd h
  late_early c (rule_line r) text h = h
  late_early c end_line text h = h

  early_to : (c : Care) (y : Line S) (text : List ℕ) {A : List ℕ → Type 0} (f : Followed (Exactly (40 ∷ [])) A text) → Early c y f.back → FormAt kind room Atoms atoms rules c y text
  early_to c y text f (inl g) =
      let (a, e, k, h) = g.second in
      subst (λ x. FormAt kind room Atoms atoms rules c x text) (sym e) (k, opened atom_word f (onto g h))
  early_to c y text f (inr g) = late_early c y text (late_to c y text f g)

  early_from : (c : Care) (y : Line S) (text : List ℕ) → FormAt kind room Atoms atoms rules c y text → Followed (Exactly (40 ∷ [])) (Early c y) text
  early_from c order_line text h = absurd h
  early_from c (atom_line a) text h =
      let f = word_from 40 atom_word h.1 in
      let g = f.second in
      onto f (inl (onto g (a, refl, h.0, g.second)))
  early_from c (rule_line r) text h = under (λ t l. inr l) (late_from c (rule_line r) text h)
  early_from c end_line text h = under (λ t l. inr l) (late_from c end_line text h)

  atoms_agree : Agrees (reads_form kind room Atoms atoms rules) (FormAt kind room Atoms atoms rules) Any
  unfolding late_reader
  atoms_agree =
      agrees_same (atoms_same kind room atoms rules)
      (agrees_as (λ c y text f. early_to c y text f f.second) early_from
      (byte_then_at 40 early_agrees))

  -- before the order
  abbrev Ordered : Care → Line S → List ℕ → Type 0
  Ordered c y = Followed (Exactly order_opening) (Followed (Exactly kind.word) (Followed (Exactly closing) (λ p. (y ≡ order_line) × (p ≡ []))))

  order_to : (c : Care) (y : Line S) (text : List ℕ) → Ordered c y text → FormAt kind room Start atoms rules c y text
  order_to c y text f =
      let g = f.second in
      let whole : OrderForm kind.word text = under (λ t h. under (λ u i. ended i) h) f in
      subst (λ x. FormAt kind room Start atoms rules c x text) (sym g.second.second.0) whole

  order_from : (c : Care) (y : Line S) (text : List ℕ) → FormAt kind room Start atoms rules c y text → Ordered c y text
  order_from c order_line text h = under (λ t g. under (λ u i. unended refl i) g) h
  order_from c (atom_line a) text h = absurd h
  order_from c (rule_line r) text h = absurd h
  order_from c end_line text h = absurd h

  start_agrees : Agrees (reads_form kind room Start atoms rules) (FormAt kind room Start atoms rules) Any
  unfolding order_at
  start_agrees =
      agrees_same (start_same kind room atoms rules)
      (agrees_as order_to order_from
      (word_then order_opening
      (word_then kind.word
      (word_then closing (agrees_done order_line)))))

  -- at every stage but the end
  pub forms_agree : (stage : Stage) → Going stage → Agrees (reads_form kind room stage atoms rules) (FormAt kind room stage atoms rules) Any
  forms_agree Start g = start_agrees
  forms_agree Atoms g = atoms_agree
  forms_agree Rules g = rules_agree
  forms_agree End g = absurd g
