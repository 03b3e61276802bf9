-- What remains of a text from a stage on, one form after another, and the text as a whole.
use Rattle.std.proofs.Common.{◌≡◌, ℕ, ◌+◌, ◌≤◌, List, [], ◌∷◌, ◌++◌, length, Option, sym, refl, ap, ◌∙◌, subst, arith}
use Rattle.books.specs.Meaning.{Rule, Atom, Meaning}
use Rattle.text.specs.Forms.{closing, rule_line}
use Rattle.text.specs.Kinds.{order_opening}
use Rattle.text.specs.Spelt.{end_text}
use Rattle.text.specs.declared.counts.Counts.{Counts}
use Rattle.text.specs.declared.reader.Stage.{Stage}
use Rattle.text.specs.declared.reader.Stage.TheVariants.{Start, Atoms, Rules, End}
use Rattle.grammar.specs.Pieces.{Care, shape, kept, Kept, Exactly, Followed}
use Rattle.grammar.specs.Grammar.{AtomForms, RuleForms, OrderForm}
use Rattle.grammar.proofs.PieceByPiece.{followed_map, regroup, ungroup, under}
use Rattle.grammar.proofs.Degrees.{kept_map}
use Rattle.grammar.proofs.FormsAllowed.{AtomNext, FormAt, Going}
use Rattle.grammar.specs.Notations.{Notation}
use Rattle.grammar.specs.Theorems.{SpeltBy}

-- a book of nothing
abbrev pub bare : {S : Type 0} → Meaning S
bare = record { atoms = []; rules = [] }

module _ {S : Type 0} (kind : Notation S) (room : Counts) where
  -- the rules from number r on, where there is room for them, and the end
  abbrev pub RulesRest : ℕ → ℕ → Care → List (Option Rule) → List ℕ → Type 0
  RulesRest a r c [] = Exactly end_text
  RulesRest a r c (o ∷ os) = Followed (FormAt kind room Rules a r c (rule_line o)) (RulesRest a (r + 1) c os)

  -- the atoms from number a on, and then the rules
  abbrev pub AtomsRest : ℕ → ℕ → Care → List (Atom S) → List (Option Rule) → List ℕ → Type 0
  AtomsRest a r c [] os = RulesRest a r c os
  AtomsRest a r c (x ∷ xs) os = Followed (AtomNext kind room a c x) (AtomsRest (a + 1) r c xs os)

  -- no atom follows a rule
  abbrev pub LateRest : ℕ → ℕ → Care → List (Atom S) → List (Option Rule) → List ℕ → Type 0
  LateRest a r c [] os = RulesRest a r c os
  LateRest a r c (x ∷ xs) os = λ _. ⊥

  -- what remains from a stage on, after so many atoms and rules
  abbrev pub Rest : Stage → ℕ → ℕ → Care → Meaning S → List ℕ → Type 0
  Rest Start a r c m = Followed (OrderForm kind.word) (AtomsRest a r c m.atoms m.rules)
  Rest Atoms a r c m = AtomsRest a r c m.atoms m.rules
  Rest Rules a r c m = LateRest a r c m.atoms m.rules
  Rest End a r c m = λ _. ⊥

  order_form_lem : OrderForm kind.word (order_opening ++ (kind.word ++ closing))
  order_form_lem = record { front = order_opening; back = kind.word ++ closing; whole = refl; first = refl; second = record { front = kind.word; back = closing; whole = refl; first = refl; second = refl } }

  -- from every stage something may follow
  pub rest_sample : (stage : Stage) → Going stage → (a r : ℕ) → (m : Meaning S) × (piece : List ℕ) × Rest stage a r shape m piece
  rest_sample Start g a r = (bare, order_opening ++ (kind.word ++ closing) ++ end_text, record { front = order_opening ++ (kind.word ++ closing); back = end_text; whole = refl; first = order_form_lem; second = refl })
  rest_sample Atoms g a r = (bare, end_text, refl)
  rest_sample Rules g a r = (bare, end_text, refl)
  rest_sample End g a r = absurd g

  rules_spelt : (os : List (Option Rule)) (a r : ℕ) (c : Care) (piece : List ℕ) → RulesRest a r c os piece → Followed (RuleForms c a r os) (Exactly end_text) piece
  rules_spelt [] a r c piece h = record { front = []; back = piece; whole = refl; first = refl; second = h }
  rules_spelt (o ∷ os) a r c piece h =
      regroup (followed_map (λ t f. f.1) (rules_spelt os a (r + 1) c) h)

  rules_rest : (os : List (Option Rule)) (a r : ℕ) (c : Care) (piece : List ℕ) → Kept c (r + length os ≤ room.rules) → Followed (RuleForms c a r os) (Exactly end_text) piece → RulesRest a r c os piece
  rules_rest [] a r c piece k h = grind (arith, h.whole, h.first, h.second)
  rules_rest (o ∷ os) a r c piece k h =
      followed_map
      (λ t f. (kept_map c (λ (l : r + length (o ∷ os) ≤ room.rules). omega arith) k, f))
      (λ t. rules_rest os a (r + 1) c t (kept_map c (λ (l : r + length (o ∷ os) ≤ room.rules). omega arith) k))
      (ungroup h)

  rules_roomy : (os : List (Option Rule)) (a r : ℕ) (piece : List ℕ) → RulesRest a r kept os piece → r ≤ room.rules → r + length os ≤ room.rules
  rules_roomy [] a r piece h l = omega arith
  rules_roomy (o ∷ os) a r piece h l =
      let here = h.first.0 in
      let rest = rules_roomy os a (r + 1) h.back h.second (omega arith) in
      omega arith

  -- the rules and the end, after so many atoms
  abbrev Late : ℕ → Care → List (Option Rule) → ℕ → List ℕ → Type 0
  Late r c os n = Followed (RuleForms c n r os) (Exactly end_text)

  atoms_spelt : (xs : List (Atom S)) (os : List (Option Rule)) (a r : ℕ) (c : Care) (piece : List ℕ) → AtomsRest a r c xs os piece → Followed (AtomForms kind.spells c a xs) (Late r c os (a + length xs)) piece
  atoms_spelt [] os a r c piece h =
      let count : a ≡ a + length {A = Atom S} [] = omega arith in
      record { front = []; back = piece; whole = refl; first = refl; second = subst (λ n. Late r c os n piece) count (rules_spelt os a r c piece h) }
  atoms_spelt (x ∷ xs) os a r c piece h =
      let count : a + 1 + length xs ≡ a + length (x ∷ xs) = omega arith in
      subst (λ n. Followed (AtomForms kind.spells c a (x ∷ xs)) (Late r c os n) piece) count
      (regroup (followed_map (λ t f. f.1) (atoms_spelt xs os (a + 1) r c) h))

  atoms_rest : (xs : List (Atom S)) (os : List (Option Rule)) (a r : ℕ) (c : Care) (piece : List ℕ) → Kept c (a + length xs ≤ room.atoms) → Kept c (r + length os ≤ room.rules) → Followed (AtomForms kind.spells c a xs) (Late r c os (a + length xs)) piece → AtomsRest a r c xs os piece
  atoms_rest [] os a r c piece k l h =
      let count : a + length {A = Atom S} [] ≡ a = omega arith in
      let same : h.back ≡ piece = sym (h.whole ∙ ap (λ t. t ++ h.back) h.first) in
      rules_rest os a r c piece l (subst (λ n. Late r c os n piece) count (subst (Late r c os (a + length {A = Atom S} [])) same h.second))
  atoms_rest (x ∷ xs) os a r c piece k l h =
      let count : a + length (x ∷ xs) ≡ a + 1 + length xs = omega arith in
      followed_map
      (λ t f. (kept_map c (λ (m : a + length (x ∷ xs) ≤ room.atoms). omega arith) k, f))
      (λ t g. atoms_rest xs os (a + 1) r c t (kept_map c (λ (m : a + length (x ∷ xs) ≤ room.atoms). omega arith) k) l g)
      (ungroup (subst (λ n. Followed (AtomForms kind.spells c a (x ∷ xs)) (Late r c os n) piece) count h))

  atoms_roomy : (xs : List (Atom S)) (os : List (Option Rule)) (a r : ℕ) (piece : List ℕ) → AtomsRest a r kept xs os piece → a ≤ room.atoms → r ≤ room.rules → (a + length xs ≤ room.atoms) × (r + length os ≤ room.rules)
  atoms_roomy [] os a r piece h k l = (omega arith, rules_roomy os a r piece h l)
  atoms_roomy (x ∷ xs) os a r piece h k l =
      let here = h.first.0 in
      let rest = atoms_roomy xs os (a + 1) r h.back h.second (omega arith) l in
      (omega (arith, rest.0), rest.1)

  -- what remains from the start on spells the book
  pub rest_spells : (c : Care) (m : Meaning S) (text : List ℕ) → Rest Start 0 0 c m text → SpeltBy kind c m text
  rest_spells c m text h =
      let count : 0 + length m.atoms ≡ length m.atoms = omega arith in
      subst (λ n. Followed (OrderForm kind.word) (Followed (AtomForms kind.spells c 0 m.atoms) (Late 0 c m.rules n)) text) count
      (under (atoms_spelt m.atoms m.rules 0 0 c) h)

  -- and a text that spells a book, where there is room for it, is what remains from the start on
  pub spells_rest : (c : Care) (m : Meaning S) (text : List ℕ) → Kept c ((length m.atoms ≤ room.atoms) × (length m.rules ≤ room.rules)) → SpeltBy kind c m text → Rest Start 0 0 c m text
  spells_rest c m text k h =
      let count : length m.atoms ≡ 0 + length m.atoms = omega arith in
      let one = kept_map c (λ (l : (length m.atoms ≤ room.atoms) × (length m.rules ≤ room.rules)). let x = l.0 in omega arith) k in
      let two = kept_map c (λ (l : (length m.atoms ≤ room.atoms) × (length m.rules ≤ room.rules)). let x = l.1 in omega arith) k in
      under (λ t. atoms_rest m.atoms m.rules 0 0 c t one two)
      (subst (λ n. Followed (OrderForm kind.word) (Followed (AtomForms kind.spells c 0 m.atoms) (Late 0 c m.rules n)) text) count h)

  -- there is room for what remains from the start on
  pub rest_roomy : (m : Meaning S) (text : List ℕ) → Rest Start 0 0 kept m text → (length m.atoms ≤ room.atoms) × (length m.rules ≤ room.rules)
  rest_roomy m text h =
      let l = atoms_roomy m.atoms m.rules 0 0 h.back h.second (omega arith) (omega arith) in
      (omega (arith, l.0), omega (arith, l.1))
