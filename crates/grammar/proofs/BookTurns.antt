-- The turns of the reader of a whole text are its forms, read on from the start.
use Rattle.std.proofs.Common.{◌≡◌, ℕ, zero, suc, ◌+◌, ◌<◌, ◌≤◌, cond, List, [], ◌∷◌, ◌++◌, length, drop, Some, None, Ok, Err, Option, Result, sym, refl, ap, ◌∙◌, inl, inr, arith}
use Rattle.std.proofs.lemmas.List.{append_assoc, append-nil, length-append, length-drop, drop_all}
use Rattle.std.proofs.lemmas.Option.{slice_get-get_or, slice_get_past}
use Rattle.std.proofs.lemmas.Bool.{cases_lt, eq-eqb, ne_eqb}
use Rattle.std.specs.List.{slice_get}
use Rattle.books.specs.Meaning.{Rule, Atom, Meaning}
use Rattle.books.specs.declared.fault.Fault.{Fault}
use Rattle.text.specs.Bytes.{and_then, wrong_at}
use Rattle.text.specs.Forms.{Line, order_line, atom_line, rule_line, end_line, form_at, form_in, refused_at}
use Rattle.text.specs.Kinds.{order_opening, atom_opening, rule_opening, void_opening, end_opening, kind_of}
use Rattle.text.specs.Reads.{Progress, after, is_end, one_form, progress_at, book_at}
use Rattle.text.specs.Turns.{turns, tries}
use Rattle.text.specs.Words.{agrees_to, is_byte}
use Rattle.text.specs.declared.reader.Reader.{Reader}
use Rattle.text.specs.declared.counts.Counts.{Counts}
use Rattle.text.specs.declared.reader.Stage.{Stage}
use Rattle.text.specs.declared.reader.Stage.TheVariants.{Start, Atoms, Rules, End}
use Rattle.grammar.specs.Pieces.{Care, kept, Exactly, Followed}
use Rattle.grammar.specs.Agreement.{Between, Seen}
use Rattle.grammar.proofs.AgreeCombined.{then_then, then_same}
use Rattle.grammar.proofs.FormsAllowed.{FormAt, Going, FormsAgree, reads_form}
use Rattle.grammar.proofs.FormsLeftAgree.{with_atom, with_rule, onward, lines}
use Rattle.grammar.proofs.FormsLeft.{bare}
use Rattle.grammar.proofs.ListTurns.{tries_first, tries_stay}
use Rattle.grammar.specs.Notations.{Notation}

tries_none : {X : Type 0} (f : X → Result X Fault) (s : X) → tries f s zero ≡ Ok s
unfolding turns
tries_none f s = refl

-- at the end of a text no word begins
word_ends : (word text : List ℕ) (at : ℕ) → length text ≤ at → agrees_to word text at ≡ at
unfolding agrees_to
word_ends [] text at l = refl
word_ends (b ∷ word) text at l = ap (λ o. cond (is_byte b o) (agrees_to word text (at + 1)) at) (slice_get_past text at l)

refused_there : (text : List ℕ) (stage : Stage) (at : ℕ) → length text ≤ at → refused_at text stage at ≡ at
unfolding refused_at
refused_there text Start at l = word_ends order_opening text at l
refused_there text Atoms at l = omega (arith, word_ends atom_opening text at l, word_ends rule_opening text at l, word_ends void_opening text at l, word_ends end_opening text at l)
refused_there text Rules at l = omega (arith, word_ends rule_opening text at l, word_ends void_opening text at l, word_ends end_opening text at l)
refused_there text End at l = refl

-- a piece that begins with a word has a byte
word_byte : (b : ℕ) (word : List ℕ) (B : List ℕ → Type 0) (piece : List ℕ) → Followed (Exactly (b ∷ word)) B piece → 1 ≤ length piece
word_byte b word B piece f = omega (arith, ap length f.whole, length-append f.front f.back, ap length f.first)

module _ {S : Type 0} (kind : Notation S) (room : Counts) where
  rule_byte : (a r : ℕ) (c : Care) (o : Option Rule) (piece : List ℕ) → FormAt kind room Rules a r c (rule_line o) piece → 1 ≤ length piece
  rule_byte a r c None piece f = word_byte _ _ _ piece f.1
  rule_byte a r c (Some x) piece f = word_byte _ _ _ piece f.1

  form_byte : (stage : Stage) (line : Line S) (a r : ℕ) (c : Care) (piece : List ℕ) → FormAt kind room stage a r c line piece → 1 ≤ length piece
  form_byte Start order_line a r c piece f = word_byte _ _ _ piece f
  form_byte Start (atom_line x) a r c piece f = absurd f
  form_byte Start (rule_line o) a r c piece f = absurd f
  form_byte Start end_line a r c piece f = absurd f
  form_byte Atoms order_line a r c piece f = absurd f
  form_byte Atoms (atom_line x) a r c piece f = word_byte _ _ _ piece f.1
  form_byte Atoms (rule_line o) a r c piece f = rule_byte a r c o piece f
  form_byte Atoms end_line a r c piece f = omega (arith, ap length f)
  form_byte Rules order_line a r c piece f = absurd f
  form_byte Rules (atom_line x) a r c piece f = absurd f
  form_byte Rules (rule_line o) a r c piece f = rule_byte a r c o piece f
  form_byte Rules end_line a r c piece f = omega (arith, ap length f)
  form_byte End line a r c piece f = absurd f

-- the place after is past the one before, and within the text
abbrev Inside : {X : Type 0} → List ℕ → ℕ → Result (X × ℕ) Fault → Type 0
Inside text at (Ok p) = (at < p.1) × (p.1 ≤ length text)
Inside text at (Err e) = Unit {0}

-- what stands between two places of a text ends within it
pub between_within : (text : List ℕ) (at next : ℕ) (piece : List ℕ) → Between text at next piece → at ≤ length text → next ≤ length text
between_within text at next piece b l =
    omega (arith, ap length b.stands, length-append piece (drop next text), length-drop at text, length-drop next text, b.place)

seen_inside : {X : Type 0} (G : Care → X → List ℕ → Type 0) → ((x : X) (piece : List ℕ) → G kept x piece → 1 ≤ length piece) → (r : Result (X × ℕ) Fault) (text : List ℕ) (at : ℕ) → at ≤ length text → Seen G r text at → Inside text at r
seen_inside G byte (Ok p) text at l (piece, b, g) = (omega (arith, byte p.0 piece g, b.place), between_within text at p.1 piece b l)
seen_inside G byte (Err e) text at l h = tt

-- a book after some atoms and rules, where the text ends with it
abbrev closed : {S : Type 0} → List (Atom S) → List (Option Rule) → Meaning S → ℕ → Option ℕ → Result (Meaning S) Fault
closed xs os m at None = Ok (record { atoms = xs ++ m.atoms; rules = os ++ m.rules })
closed xs os m at (Some b) = wrong_at at

closed_atom : {S : Type 0} (xs : List (Atom S)) (os : List (Option Rule)) (x : Atom S) (m : Meaning S) (at : ℕ) (o : Option ℕ) → closed (xs ++ (x ∷ [])) os m at o ≡ closed xs os (with_atom x m) at o
closed_atom xs os x m at None = rw append_assoc refl
closed_atom xs os x m at (Some b) = refl

closed_rule : {S : Type 0} (xs : List (Atom S)) (os : List (Option Rule)) (o : Option Rule) (m : Meaning S) (at : ℕ) (b : Option ℕ) → closed xs (os ++ (o ∷ [])) m at b ≡ closed xs os (with_rule o m) at b
closed_rule xs os o m at None = rw append_assoc refl
closed_rule xs os o m at (Some b) = refl

closed_bare : {S : Type 0} (xs : List (Atom S)) (os : List (Option Rule)) (at : ℕ) → closed xs os bare at None ≡ Ok (record { atoms = xs; rules = os })
closed_bare xs os at = rw (append-nil xs, append-nil os) refl

module _ {S : Type 0} (kind : Notation S) (room : Counts) (text : List ℕ) where
  abbrev place : Stage → ℕ → ℕ → ℕ → Reader
  place stage at a r = record { stage = stage; next = at; atoms = a; rules = r }

  abbrev progress : Stage → ℕ → ℕ → ℕ → List (Atom S) → List (Option Rule) → Progress S
  progress stage at a r xs os = record { reader = place stage at a r; atoms = xs; rules = os }

  abbrev form : Progress S → Result (Progress S) Fault
  form = one_form kind.stamp_at kind.word text room

  abbrev finish : Progress S → Result (Meaning S) Fault
  finish s = cond (is_end s.reader.stage) (Ok (record { atoms = s.atoms; rules = s.rules })) (wrong_at (length text))

  -- at the end of the text no form stands
  form_ends : (stage : Stage) → Going stage → (at a r : ℕ) → length text ≤ at → reads_form kind room stage a r text at ≡ wrong_at at
  unfolding form_at
  form_ends Start g at a r l = ap (λ t. form_in kind.stamp_at kind.word text room (place Start at a r) (wrong_at (refused_at text Start at)) Start (kind_of t)) (drop_all at text l) ∙ ap wrong_at (refused_there text Start at l)
  form_ends Atoms g at a r l = ap (λ t. form_in kind.stamp_at kind.word text room (place Atoms at a r) (wrong_at (refused_at text Atoms at)) Atoms (kind_of t)) (drop_all at text l) ∙ ap wrong_at (refused_there text Atoms at l)
  form_ends Rules g at a r l = ap (λ t. form_in kind.stamp_at kind.word text room (place Rules at a r) (wrong_at (refused_at text Rules at)) Rules (kind_of t)) (drop_all at text l) ∙ ap wrong_at (refused_there text Rules at l)
  form_ends End g at a r l = absurd g

  -- past the end form none is allowed
  form_past : (at a r : ℕ) → reads_form kind room End a r text at ≡ wrong_at at
  unfolding form_at refused_at
  form_past at a r = refl

  unfinished : (stage : Stage) → Going stage → (at a r : ℕ) (xs : List (Atom S)) (os : List (Option Rule)) → finish (progress stage at a r xs os) ≡ wrong_at (length text)
  unfinished Start g at a r xs os = refl
  unfinished Atoms g at a r xs os = refl
  unfinished Rules g at a r xs os = refl
  unfinished End g at a r xs os = absurd g

  one_form_is : (stage : Stage) → Going stage → (at a r : ℕ) (xs : List (Atom S)) (os : List (Option Rule)) → form (progress stage at a r xs os) ≡ and_then (reads_form kind room stage a r text at) (λ p. Ok (after (progress stage at a r xs os) p))
  one_form_is Start g at a r xs os = refl
  one_form_is Atoms g at a r xs os = refl
  one_form_is Rules g at a r xs os = refl
  one_form_is End g at a r xs os = absurd g

  -- past the end form: the book where no byte is left, and the next byte refused where one is
  past_end : (n at a r : ℕ) (xs : List (Atom S)) (os : List (Option Rule)) → at ≤ length text → length text ≤ n + at → and_then (tries form (progress End at a r xs os) n) finish ≡ closed xs os bare at (slice_get text at)
  past_end zero at a r xs os l k =
      rw (tries_none form (progress End at a r xs os), slice_get_past text at (omega arith)) (sym (closed_bare xs os at))
  past_end (suc n) at a r xs os l k =
      let s = progress End at a r xs os in
      elim (cases_lt at (length text)) [
        | inl less ↦
            let more : form s ≡ wrong_at at = ap (λ b. cond b (Ok s) (and_then (reads_form kind room End a r text at) (λ p. Ok (after s p)))) (ne_eqb at (length text) (λ e. omega arith)) ∙ ap (λ q. and_then q (λ p. Ok (after s p))) (form_past at a r) in
            ap (λ t. and_then t finish) (tries_first form s n ∙ ap (λ q. and_then q (λ t. tries form t n)) more) ∙ sym (ap (closed xs os bare at) (slice_get-get_or text at 0 less))
        | inr all ↦
            let stays : form s ≡ Ok s = ap (λ b. cond b (Ok s) (and_then (reads_form kind room End a r text at) (λ p. Ok (after s p)))) (eq-eqb at (length text) (omega arith)) in
            ap (λ t. and_then t finish) (tries_stay form s stays (suc n)) ∙ sym (ap (closed xs os bare at) (slice_get_past text at all) ∙ closed_bare xs os at)
      ]

  -- the turns from a stage on are the forms from it on
  abbrev Same : ℕ → ℕ → Type 0
  Same fuel n = (stage : Stage) → Going stage → (at a r : ℕ) (xs : List (Atom S)) (os : List (Option Rule)) → at ≤ length text → length text ≤ n + at → length text < fuel + at → and_then (tries form (progress stage at a r xs os) n) finish ≡ and_then (lines kind room fuel stage a r text at) (λ p. closed xs os p.0 p.1 (slice_get text p.1))

  module _ (fuel n : ℕ) (known : Same fuel n) (stage : Stage) (at a r : ℕ) (xs : List (Atom S)) (os : List (Option Rule)) (k : length text ≤ suc n + at) (m : length text < suc fuel + at) where
    -- the turns after the form that was read
    line_same : (line : Line S) (next : ℕ) → at < next → next ≤ length text → and_then (tries form (after (progress stage at a r xs os) (line, next)) n) finish ≡ and_then (onward (lines kind room fuel) a r line text next) (λ p. closed xs os p.0 p.1 (slice_get text p.1))
    line_same order_line next l i = known Atoms tt next a r xs os i (omega arith) (omega arith)
    line_same (atom_line x) next l i =
        known Atoms tt next (a + 1) r (xs ++ (x ∷ [])) os i (omega arith) (omega arith)
        ∙ then_same (lines kind room fuel Atoms (a + 1) r text next) _ _ (λ p. closed_atom xs os x p.0 p.1 (slice_get text p.1))
        ∙ sym (then_then (lines kind room fuel Atoms (a + 1) r text next) (λ p. Ok (with_atom x p.0, p.1)) (λ p. closed xs os p.0 p.1 (slice_get text p.1)))
    line_same (rule_line o) next l i =
        known Rules tt next a (r + 1) xs (os ++ (o ∷ [])) i (omega arith) (omega arith)
        ∙ then_same (lines kind room fuel Rules a (r + 1) text next) _ _ (λ p. closed_rule xs os o p.0 p.1 (slice_get text p.1))
        ∙ sym (then_then (lines kind room fuel Rules a (r + 1) text next) (λ p. Ok (with_rule o p.0, p.1)) (λ p. closed xs os p.0 p.1 (slice_get text p.1)))
    line_same end_line next l i = past_end n next a r xs os i (omega arith)

    form_same : (f : Result (Line S × ℕ) Fault) → Inside text at f → and_then (and_then (and_then f (λ p. Ok (after (progress stage at a r xs os) p))) (λ t. tries form t n)) finish ≡ and_then (and_then f (λ p. onward (lines kind room fuel) a r p.0 text p.1)) (λ p. closed xs os p.0 p.1 (slice_get text p.1))
    form_same (Ok p) i = line_same p.0 p.1 i.0 i.1
    form_same (Err e) i = refl

  module _ (inside : (stage : Stage) → Going stage → (at a r : ℕ) → at ≤ length text → Inside text at (reads_form kind room stage a r text at)) where
    turns_lines : (fuel n : ℕ) → Same fuel n
    turns_lines zero n stage g at a r xs os l k m = absurd (omega arith)
    turns_lines (suc fuel) zero stage g at a r xs os l k m =
        let all : length text ≡ at = omega arith in
        ap (λ t. and_then t finish) (tries_none form (progress stage at a r xs os)) ∙ unfinished stage g at a r xs os ∙ ap wrong_at all
        ∙ sym (ap (λ f. and_then (and_then f (λ p. onward (lines kind room fuel) a r p.0 text p.1)) (λ p. closed xs os p.0 p.1 (slice_get text p.1))) (form_ends stage g at a r (omega arith)))
    turns_lines (suc fuel) (suc n) stage g at a r xs os l k m =
        ap (λ t. and_then t finish) (tries_first form (progress stage at a r xs os) n)
        ∙ ap (λ t. and_then (and_then t (λ t. tries form t n)) finish) (one_form_is stage g at a r xs os)
        ∙ form_same fuel n (turns_lines fuel n) stage at a r xs os k m (reads_form kind room stage a r text at) (inside stage g at a r l)

    book_turns : (fuel : ℕ) → length text < fuel → book_at kind.stamp_at kind.word text room ≡ and_then (lines kind room fuel Start 0 0 text 0) (λ p. closed [] [] p.0 p.1 (slice_get text p.1))
    unfolding book_at progress_at
    book_turns fuel l = turns_lines fuel (length text) Start tt 0 0 0 [] [] (omega arith) (omega arith) (omega arith)

-- a book, where no byte is left
abbrev pub at_end : {S : Type 0} → Meaning S → ℕ → Option ℕ → Result (Meaning S × ℕ) Fault
at_end m at None = Ok (m, at)
at_end m at (Some b) = wrong_at at

closed_at_end : {S : Type 0} (m : Meaning S) (at : ℕ) (o : Option ℕ) → closed [] [] m at o ≡ and_then (at_end m at o) (λ p. Ok p.0)
closed_at_end m at None = refl
closed_at_end m at (Some b) = refl

module _ {S : Type 0} (kind : Notation S) (room : Counts) where
  -- the forms of a text from the start on, and no byte more
  abbrev pub whole : ℕ → List ℕ → ℕ → Result (Meaning S × ℕ) Fault
  whole n text at = and_then (lines kind room n Start 0 0 text at) (λ p. at_end p.0 p.1 (slice_get text p.1))

module _ {S : Type 0} (kind : Notation S) (room : Counts) (forms : FormsAgree kind room) where
  -- the book of a text is that of its forms, where there may be more of them than bytes
  pub book_whole : (text : List ℕ) (n : ℕ) → length text < n → book_at kind.stamp_at kind.word text room ≡ and_then (whole kind room n text 0) (λ p. Ok p.0)
  book_whole text n l =
      book_turns kind room text
      (λ stage g at a r i. seen_inside (FormAt kind room stage a r) (λ line piece. form_byte kind room stage line a r kept piece) (reads_form kind room stage a r text at) text at i ((forms stage g a r).seen text at))
      n l
      ∙ then_same (lines kind room n Start 0 0 text 0) _ _ (λ p. closed_at_end p.0 p.1 (slice_get text p.1))
      ∙ sym (then_then (lines kind room n Start 0 0 text 0) (λ p. at_end p.0 p.1 (slice_get text p.1)) (λ p. Ok p.0))
