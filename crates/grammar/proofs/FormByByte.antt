-- The form at a place, chosen byte by byte.
use Rattle.std.proofs.Common.{◌≡◌, ℕ, ◌+◌, ◌≤◌, max, Bool, false, cond, ◌&&◌, List, [], ◌∷◌, drop, Some, None, Ok, codes, Option, Result, sym, ap, ◌∙◌, arith}
use Rattle.std.specs.List.{slice_get}
use Rattle.books.specs.declared.fault.Fault.{Fault}
use Rattle.text.specs.Bytes.{and_then, wrong_at, pass_at}
use Rattle.text.specs.Words.{pass_word, agrees_to, is_byte}
use Rattle.text.specs.Kinds.{order_opening, atom_opening, rule_opening, void_opening, end_opening, begins, kind_of}
use Rattle.text.proofs.Opened.{begins_step, pass_if_lem}
use Rattle.text.specs.Rules.{rule_at}
use Rattle.text.specs.Forms.{Line, atom_line, rule_line, end_line, closing, next_number, if_room, reading_at, order_at, atom_at, rule_form_at, void_at, end_at, refused_at, by_kind, form_at}
use Rattle.text.specs.declared.kind.Kind.{Kind}
use Rattle.text.specs.declared.kind.Kind.TheVariants as kinds
use Rattle.text.specs.declared.reader.Stage.TheVariants.{Start, Atoms, Rules}
use Rattle.text.specs.declared.counts.Counts.{Counts}
use Rattle.grammar.specs.Notations.{Notation}
use Rattle.std.proofs.lemmas.Bool.Decides.{nat_tests}

byte_first : {X : Type 0} (b : ℕ) (text : List ℕ) (at : ℕ) (K : ℕ → Result X Fault) → and_then (pass_at b text at) K ≡ cond (is_byte b (slice_get text at)) (K (at + 1)) (wrong_at at)
byte_first b text at K = grind (arith, pass_if_lem b at (slice_get text at))

-- a word is passed by its first byte, and then the rest
word_first : {X : Type 0} (b : ℕ) (word text : List ℕ) (at : ℕ) (K : ℕ → Result X Fault) → and_then (pass_word (b ∷ word) text at) K ≡ cond (is_byte b (slice_get text at)) (and_then (pass_word word text (at + 1)) K) (wrong_at at)
unfolding pass_word
word_first b word text at K = grind (arith, byte_first b text at (pass_word word text))

-- a word with which the text does not begin is refused where they part
word_refused : {X : Type 0} (word text : List ℕ) (at : ℕ) (K : ℕ → Result X Fault) → begins word (drop at text) ≡ false → and_then (pass_word word text at) K ≡ wrong_at (agrees_to word text at)
unfolding agrees_to
word_refused [] text at K h = absurd (grind arith)
word_refused (b ∷ word) text at K h = rw (word_first b word text at K) (grind (arith, word_refused word text (at + 1) K, begins_step b word text at, h))

agrees_past : (word text : List ℕ) (at : ℕ) → at ≤ agrees_to word text at
unfolding agrees_to
agrees_past [] text at = omega arith
agrees_past (b ∷ word) text at = grind (arith, agrees_past word text (at + 1))

-- the kind, by whether the text begins with each opening
abbrev kind_by : Bool → Bool → Bool → Bool → Bool → Option Kind
kind_by o a r v e = cond o (Some kinds.Order) (cond a (Some kinds.Atom) (cond r (Some kinds.Rule) (cond v (Some kinds.Void) (cond e (Some kinds.End) None))))

kind_same : (o a r v e o' a' r' v' e' : Bool) → o ≡ o' → a ≡ a' → r ≡ r' → v ≡ v' → e ≡ e' → kind_by o' a' r' v' e' ≡ kind_by o a r v e
kind_same o a r v e o' a' r' v' e' p q s t u = rw (p, q, s, t, u)

-- where only one form is allowed, its reader refuses what does not begin it
one_by : {X : Type 0} (O N : X) (o a r v e : Bool) → (o ≡ false → O ≡ N) → O ≡ by_kind (kind_by o a r v e) O N N N N N
one_by O N o a r v e h = grind (arith, h)

-- how a form is read from the byte that tells it: whether that byte stands there, whether the rest begins so, the place up to which it agrees
record Way {X : Type 0} (m : ℕ) (here begun : Bool) (reach : ℕ) (answer : Result X Fault) : Type 0 where
  past : m ≤ reach
  refused : (here && begun) ≡ false → answer ≡ wrong_at (cond here reach m)

abbrev WayAt : {X : Type 0} → ℕ → List ℕ → List ℕ → ℕ → Result X Fault → Type 0
WayAt b word text m answer = Way m (is_byte b (slice_get text m)) (begins word (drop (m + 1) text)) (agrees_to word text (m + 1)) answer

way : {X : Type 0} (b : ℕ) (word text : List ℕ) (m : ℕ) (K : ℕ → Result X Fault) → WayAt b word text m (and_then (pass_word (b ∷ word) text m) K)
unfolding agrees_to
way b word text m K =
    record {
      past = omega (arith, agrees_past word text (m + 1));
      refused = λ h. word_refused (b ∷ word) text m K (begins_step b word text m ∙ h);
    }

-- the choice by the byte that tells the form is the choice by its kind
module _ {X : Type 0} (m jr jv je : ℕ) (R V E : Result X Fault) where
  -- the place up to which the text agrees with a form of a rule
  abbrev late_reach : Bool → Bool → Bool → ℕ
  late_reach r v e = max (cond r jr m) (max (cond v jv m) (cond e je m))

  abbrev LateBy : Bool → Bool → Bool → Bool → Bool → Bool → Bool → Bool → Bool → Bool → Type 0
  LateBy o a r v e bo ba br bv be =
      let N = wrong_at (late_reach r v e) in
      cond r R (cond v V E) ≡ by_kind (kind_by (o && bo) (a && ba) (r && br) (v && bv) (e && be)) N N R V E N

  -- the byte after the bracket tells at most one form
  late_by : (o : Option ℕ) (bo ba br bv be : Bool) → Way m (is_byte 114 o) br jr R → Way m (is_byte 118 o) bv jv V → Way m (is_byte 101 o) be je E → LateBy (is_byte 111 o) (is_byte 97 o) (is_byte 114 o) (is_byte 118 o) (is_byte 101 o) bo ba br bv be
  late_by None bo ba br bv be x y z = grind (arith, x.refused, y.refused, z.refused, x.past, y.past, z.past)
  late_by (Some b) bo ba br bv be x y z = grind (arith, nat_tests, x.refused, y.refused, z.refused, x.past, y.past, z.past)

  module _ (ja : ℕ) (A : Result X Fault) where
    abbrev EarlyBy : Bool → Bool → Bool → Bool → Bool → Bool → Bool → Bool → Bool → Bool → Type 0
    EarlyBy o a r v e bo ba br bv be =
        let N = wrong_at (max (cond a ja m) (late_reach r v e)) in
        cond a A (cond r R (cond v V E)) ≡ by_kind (kind_by (o && bo) (a && ba) (r && br) (v && bv) (e && be)) N A R V E N

    early_by : (o : Option ℕ) (bo ba br bv be : Bool) → Way m (is_byte 97 o) ba ja A → Way m (is_byte 114 o) br jr R → Way m (is_byte 118 o) bv jv V → Way m (is_byte 101 o) be je E → EarlyBy (is_byte 111 o) (is_byte 97 o) (is_byte 114 o) (is_byte 118 o) (is_byte 101 o) bo ba br bv be
    early_by None bo ba br bv be w x y z = grind (arith, w.refused, x.refused, y.refused, z.refused, w.past, x.past, y.past, z.past)
    early_by (Some b) bo ba br bv be w x y z = grind (arith, nat_tests, w.refused, x.refused, y.refused, z.refused, w.past, x.past, y.past, z.past)

-- a choice after the bracket, or no bracket
module _ {X : Type 0} (at : ℕ) where
  abbrev if_open : Bool → Result X Fault → Result X Fault
  if_open t r = cond t r (wrong_at at)

  opened : (t o a r v e : Bool) (L N A R V E : Result X Fault) → L ≡ by_kind (kind_by o a r v e) N A R V E N → if_open t L ≡ by_kind (kind_by (t && o) (t && a) (t && r) (t && v) (t && e)) (if_open t N) (if_open t A) (if_open t R) (if_open t V) (if_open t E) (if_open t N)
  opened t o a r v e L N A R V E h = grind (arith, h)

  late_place : (t : Bool) (r v e : ℕ) → if_open t (wrong_at (max r (max v e))) ≡ wrong_at (max (cond t r at) (max (cond t v at) (cond t e at)))
  late_place t r v e = grind arith

  early_place : (t : Bool) (a r v e : ℕ) → if_open t (wrong_at (max a (max r (max v e)))) ≡ wrong_at (max (cond t a at) (max (cond t r at) (max (cond t v at) (cond t e at))))
  early_place t a r v e = grind arith

table_same : {X : Type 0} (k k' : Option Kind) (N N' A A' R R' V V' E E' : X) → k ≡ k' → N ≡ N' → A ≡ A' → R ≡ R' → V ≡ V' → E ≡ E' → by_kind k N A R V E N ≡ by_kind k' N' A' R' V' E' N'
table_same k k' N N' A A' R R' V V' E E' p q s t u w = cc

-- the bracket, the byte that tells the form, and the rest of an opening
opening_step : (b : ℕ) (word text : List ℕ) (at : ℕ) → begins (40 ∷ b ∷ word) (drop at text) ≡ (is_byte 40 (slice_get text at) && (is_byte b (slice_get text (at + 1)) && begins word (drop (at + 1 + 1) text)))
opening_step b word text at = begins_step 40 (b ∷ word) text at ∙ ap (λ u. is_byte 40 (slice_get text at) && u) (begins_step b word text (at + 1))

-- the opening of an atom after its bracket
abbrev pub atom_word : List ℕ
atom_word = codes "atom "

-- the opening of a rule after its bracket
abbrev pub rule_word : List ℕ
rule_word = codes "rule "

-- the opening of a vacant number after its bracket
abbrev pub void_word : List ℕ
void_word = codes "void "

-- the end form after its bracket, up to its line end
abbrev pub end_word : List ℕ
end_word = codes "end)"

-- the openings after the byte that tells the form
abbrev order_tail : List ℕ
order_tail = codes "rder "

abbrev atom_tail : List ℕ
atom_tail = codes "tom "

abbrev rule_tail : List ℕ
rule_tail = codes "ule "

abbrev void_tail : List ℕ
void_tail = codes "oid "

abbrev end_tail : List ℕ
end_tail = codes "nd)"

-- whether a text begins with the byte that tells a form and the rest of the opening
abbrev tells : List ℕ → ℕ → ℕ → List ℕ → Bool
tells text m b word = is_byte b (slice_get text m) && begins word (drop (m + 1) text)

kind_at : (text : List ℕ) (at : ℕ) →
    (let t = is_byte 40 (slice_get text at) in
    kind_by (t && tells text (at + 1) 111 order_tail) (t && tells text (at + 1) 97 atom_tail) (t && tells text (at + 1) 114 rule_tail) (t && tells text (at + 1) 118 void_tail) (t && tells text (at + 1) 101 end_tail) ≡ kind_of (drop at text))
kind_at text at =
    kind_same _ _ _ _ _ _ _ _ _ _
    (opening_step 111 order_tail text at) (opening_step 97 atom_tail text at) (opening_step 114 rule_tail text at) (opening_step 118 void_tail text at) (opening_step 101 end_tail text at)

module _ (S : Type 0) where
  -- the end after its bracket
  abbrev pub end_rest : List ℕ → ℕ → Result (Line S × ℕ) Fault
  end_rest text m = and_then (pass_word end_word text m) (λ a. and_then (pass_at 10 text a) (λ next. Ok (end_line, next)))

  module _ (room : Counts) (atoms rules : ℕ) where
    -- a rule from its number on, in a form that stands at `at`
    abbrev pub rule_rest : ℕ → List ℕ → ℕ → Result (Line S × ℕ) Fault
    rule_rest at text a =
        if_room at rules room.rules
        (and_then (next_number text rules a)
        (λ b. and_then (rule_at text (record { form = at; rule = rules; atoms = atoms }) b)
        (λ p. and_then (pass_word closing text p.1)
        (λ next. Ok (rule_line (Some p.0), next)))))

    -- a void rule from its number on
    abbrev pub void_rest : ℕ → List ℕ → ℕ → Result (Line S × ℕ) Fault
    void_rest at text a =
        if_room at rules room.rules
        (and_then (next_number text rules a)
        (λ b. and_then (pass_word closing text b)
        (λ next. Ok (rule_line None, next))))

    -- an atom from its number on
    abbrev pub atom_rest : (List ℕ → ℕ → Result (S × ℕ) Fault) → ℕ → List ℕ → ℕ → Result (Line S × ℕ) Fault
    atom_rest stamp_at at text a =
        if_room at atoms room.atoms
        (and_then (next_number text atoms a)
        (λ b. and_then (pass_at 32 text b)
        (λ c. and_then (reading_at text c)
        (λ k. and_then (stamp_at text k.1)
        (λ s. and_then (pass_word closing text s.1)
        (λ next. Ok (atom_line (record { stamp = s.0; reading = k.0 }), next)))))))

module _ {S : Type 0} (kind : Notation S) (room : Counts) (atoms rules : ℕ) where
  -- an atom, from the byte after its bracket, which stands at `at`
  abbrev pub after_atom : ℕ → List ℕ → ℕ → Result (Line S × ℕ) Fault
  after_atom at text m = and_then (pass_word atom_word text m) (atom_rest S room atoms rules kind.stamp_at at text)

  -- a rule, from the byte after its bracket
  abbrev pub after_rule : ℕ → List ℕ → ℕ → Result (Line S × ℕ) Fault
  after_rule at text m = and_then (pass_word rule_word text m) (rule_rest S room atoms rules at text)

  -- a vacant number, from the byte after its bracket
  abbrev pub after_void : ℕ → List ℕ → ℕ → Result (Line S × ℕ) Fault
  after_void at text m = and_then (pass_word void_word text m) (void_rest S room atoms rules at text)

  -- the end form, from the byte after its bracket
  abbrev pub after_end : List ℕ → ℕ → Result (Line S × ℕ) Fault
  after_end = end_rest S

  -- at the start only an order is allowed
  pub start_same : (text : List ℕ) (at : ℕ) → order_at kind.word text at ≡ form_at kind.stamp_at kind.word text room (record { stage = Start; next = at; atoms = atoms; rules = rules })
  unfolding form_at refused_at order_at
  start_same text at =
      let bytes = drop at text in
      one_by _ _ (begins order_opening bytes) (begins atom_opening bytes) (begins rule_opening bytes) (begins void_opening bytes) (begins end_opening bytes) (word_refused order_opening text at _)

  -- among rules a form is told by its second byte
  pub rules_same : (text : List ℕ) (at : ℕ) → and_then (pass_at 40 text at) (λ m. cond (is_byte 114 (slice_get text m)) (after_rule at text m) (cond (is_byte 118 (slice_get text m)) (after_void at text m) (after_end text m))) ≡ form_at kind.stamp_at kind.word text room (record { stage = Rules; next = at; atoms = atoms; rules = rules })
  unfolding form_at refused_at agrees_to rule_form_at void_at end_at
  rules_same text at =
      let m = at + 1 in
      let bytes = drop (m + 1) text in
      let bracket = is_byte 40 (slice_get text at) in
      let choice = late_by m _ _ _ _ _ _ (slice_get text m) (begins order_tail bytes) (begins atom_tail bytes) _ _ _ (way 114 rule_tail text m _) (way 118 void_tail text m _) (way 101 end_tail text m _) in
      let place = late_place at bracket _ _ _ in
      byte_first 40 text at _
      ∙ opened at bracket _ _ _ _ _ _ _ _ _ _ _ choice
      ∙ table_same _ _ _ _ _ _ _ _ _ _ _ _ (kind_at text at) place place (sym (word_first 40 _ text at _)) (sym (word_first 40 _ text at _)) (sym (word_first 40 _ text at _))

  -- and among atoms too
  pub atoms_same : (text : List ℕ) (at : ℕ) → and_then (pass_at 40 text at) (λ m. cond (is_byte 97 (slice_get text m)) (after_atom at text m) (cond (is_byte 114 (slice_get text m)) (after_rule at text m) (cond (is_byte 118 (slice_get text m)) (after_void at text m) (after_end text m)))) ≡ form_at kind.stamp_at kind.word text room (record { stage = Atoms; next = at; atoms = atoms; rules = rules })
  unfolding form_at refused_at agrees_to atom_at rule_form_at void_at end_at
  atoms_same text at =
      let m = at + 1 in
      let bytes = drop (m + 1) text in
      let bracket = is_byte 40 (slice_get text at) in
      let choice = early_by m _ _ _ _ _ _ _ _ (slice_get text m) (begins order_tail bytes) _ _ _ _ (way 97 atom_tail text m _) (way 114 rule_tail text m _) (way 118 void_tail text m _) (way 101 end_tail text m _) in
      byte_first 40 text at _
      ∙ opened at bracket _ _ _ _ _ _ _ _ _ _ _ choice
      ∙ table_same _ _ _ _ _ _ _ _ _ _ _ _ (kind_at text at) (early_place at bracket _ _ _ _) (sym (word_first 40 _ text at _)) (sym (word_first 40 _ text at _)) (sym (word_first 40 _ text at _)) (sym (word_first 40 _ text at _))
