-- The forms agree with their grammar, each from the byte after its bracket on.
use Rattle.std.proofs.Common.{◌≡◌, ℕ, ◌<◌, Bool, true, false, cond, leb, List, [], ◌∷◌, ◌++◌, Some, None, Ok, codes, Result, refl, ap, ◌∙◌, arith}
use Rattle.std.proofs.lemmas.Bool.{leb-false, lt-leb}
use Rattle.books.specs.Meaning.{Atom, Rule}
use Rattle.books.specs.declared.fault.ReadFault.TheVariants.{TooMany}
use Rattle.books.specs.declared.fault.Fault.{Fault}
use Rattle.books.specs.declared.fault.Fault.TheVariants.{Reading}
use Rattle.text.specs.Bytes.{and_then, pass_at}
use Rattle.text.specs.Forms.{Line, atom_line, rule_line, end_line, closing, reading_at, in_word, out_word}
use Rattle.text.specs.Numbers.{digit_of}
use Rattle.text.specs.Spelt.{kind_text}
use Rattle.text.specs.Words.{pass_word}
use Rattle.text.specs.declared.counts.Counts.{Counts}
use Rattle.grammar.specs.Pieces.{Care, Kept, Exactly, Followed}
use Rattle.grammar.specs.Grammar.{Numbered}
use Rattle.grammar.specs.Agreement.{Agrees, NoDigit}
use Rattle.grammar.proofs.AgreeCombined.{Any, Via, agrees_as, agrees_then, agrees_done, byte_then, word_then}
use Rattle.grammar.proofs.AgreeChosen.{agrees_unless}
use Rattle.grammar.proofs.FormByByte.{end_word, rule_rest, void_rest, end_rest, atom_rest}
use Rattle.grammar.proofs.PieceByPiece.{ended, unended, word_to, word_from, first_of, ungroup, onto}
use Rattle.grammar.proofs.FormPartsAgree.{Parts, kind_agrees, numbered_then, rule_agrees}
use Rattle.grammar.proofs.Degrees.{kept_map}

-- where a piece begins with a byte that is no digit
pub starts : (b : ℕ) (word : List ℕ) (A : List ℕ → Type 0) (piece rest : List ℕ) → digit_of (Some b) ≡ None → Followed (Exactly (b ∷ word)) A piece → NoDigit (piece ++ rest)
starts b word A piece rest e f = ap digit_of (first_of rest f) ∙ e

module _ (S : Type 0) (room : Counts) (atoms rules : ℕ) where
  -- the end of a form that says this
  abbrev Closed : Line S → Care → Line S → List ℕ → Type 0
  Closed line c y = Followed (Exactly closing) (λ p. (y ≡ line) × (p ≡ []))

  closed_agrees : (line : Line S) → Agrees (λ text at. and_then (pass_word closing text at) (λ next. Ok (line, next))) (Closed line) Any
  closed_agrees line = word_then closing (agrees_done line)

  closed_stops : (line : Line S) (c : Care) (y : Line S) (piece rest : List ℕ) → Closed line c y piece → NoDigit (piece ++ rest)
  closed_stops line c y piece rest f = starts 41 (10 ∷ []) (λ p. (y ≡ line) × (p ≡ [])) piece rest refl f

  -- a rule, from its number on
  abbrev pub RuleRest : Care → Line S → List ℕ → Type 0
  RuleRest c y text = (r : Rule) × (y ≡ rule_line (Some r)) × Kept c (rules < room.rules) × Followed (Numbered c rules) (Followed (Parts c atoms r) (Exactly closing)) text

  abbrev RuleSaid : Care → Line S → List ℕ → Type 0
  RuleSaid = Via (λ c r text. Parts c atoms r text) (λ r. Closed (rule_line (Some r)))

  rule_to : (c : Care) (y : Line S) (text : List ℕ) → Kept c (leb room.rules rules ≡ false) × Followed (Numbered c rules) (RuleSaid c y) text → RuleRest c y text
  rule_to c y text (k, f) =
      let v = f.second in
      let g = v.parts in
      (v.value, g.second.second.0, kept_map c (leb-false room.rules rules) k, onto f (onto g (ended g.second)))

  rule_from : (c : Care) (y : Line S) (text : List ℕ) → RuleRest c y text → Kept c (leb room.rules rules ≡ false) × Followed (Numbered c rules) (RuleSaid c y) text
  rule_from c y text (r, e, k, f) =
      let g = f.second in
      (kept_map c (lt-leb room.rules rules) k, onto f (record { value = r; parts = onto g (unended e g.second) }))

  said_stops : (c : Care) (y : Line S) (piece rest : List ℕ) → RuleSaid c y piece → NoDigit (piece ++ rest)
  said_stops c y piece rest v = ap digit_of (first_of rest (ungroup v.parts))

  -- a rule agrees, from its number on
  pub rule_rest_agrees : (at : ℕ) → Agrees (rule_rest S room atoms rules at) RuleRest Any
  rule_rest_agrees at =
      agrees_as rule_to rule_from
      (agrees_unless (Reading (TooMany at)) tt
      (numbered_then rules
      (agrees_then (rule_agrees (record { form = at; rule = rules; atoms = atoms })) (λ b r. closed_agrees (rule_line (Some r))) (λ c r y piece rest g s. tt))
      said_stops)
      (leb room.rules rules))

  -- a vacant number, from its number on
  abbrev pub VoidRest : Care → Line S → List ℕ → Type 0
  VoidRest c y text = (y ≡ rule_line None) × Kept c (rules < room.rules) × Followed (Numbered c rules) (Exactly closing) text

  void_to : (c : Care) (y : Line S) (text : List ℕ) → Kept c (leb room.rules rules ≡ false) × Followed (Numbered c rules) (Closed (rule_line None) c y) text → VoidRest c y text
  void_to c y text (k, f) =
      (f.second.second.0, kept_map c (leb-false room.rules rules) k, onto f (ended f.second))

  void_from : (c : Care) (y : Line S) (text : List ℕ) → VoidRest c y text → Kept c (leb room.rules rules ≡ false) × Followed (Numbered c rules) (Closed (rule_line None) c y) text
  void_from c y text (e, k, f) =
      (kept_map c (lt-leb room.rules rules) k, onto f (unended e f.second))

  -- a vacant number agrees, from its number on
  pub void_rest_agrees : (at : ℕ) → Agrees (void_rest S room atoms rules at) VoidRest Any
  void_rest_agrees at =
      agrees_as void_to void_from
      (agrees_unless (Reading (TooMany at)) tt
      (numbered_then rules (closed_agrees (rule_line None)) (closed_stops (rule_line None)))
      (leb room.rules rules))

  -- the end, from the byte after its bracket on
  abbrev pub EndRest : Care → Line S → List ℕ → Type 0
  EndRest c y text = (y ≡ end_line) × Exactly (codes "end)\n") text

  -- the end form agrees, from the byte after its bracket
  pub end_rest_agrees : Agrees (end_rest S) EndRest Any
  end_rest_agrees =
      agrees_as to from
      (word_then end_word (byte_then 10 (agrees_done end_line)))
    where
      to : (c : Care) (y : Line S) (text : List ℕ) → Followed (Exactly end_word) (Followed (Exactly (10 ∷ [])) (λ p. (y ≡ end_line) × (p ≡ []))) text → EndRest c y text
      to c y text f =
          (f.second.second.0, grind (arith, f.whole, f.first, ended f.second))

      from : (c : Care) (y : Line S) (text : List ℕ) → EndRest c y text → Followed (Exactly end_word) (Followed (Exactly (10 ∷ [])) (λ p. (y ≡ end_line) × (p ≡ []))) text
      from c y text (e, t) =
          record { front = end_word; back = 10 ∷ []; whole = t; first = refl; second = unended e refl }

  -- an atom, from its number on
  module _ (stamp_at : List ℕ → ℕ → Result (S × ℕ) Fault) (spells : Care → S → List ℕ → Type 0) (stamps : Agrees stamp_at spells NoDigit) where
    -- what the grammar has of an atom from its number on, where there is room for it
    abbrev pub AtomRest : Care → Line S → List ℕ → Type 0
    AtomRest c y text = (a : Atom S) × (y ≡ atom_line a) × Kept c (atoms < room.atoms) × Followed (Numbered c atoms) (Followed (Exactly (kind_text a.reading)) (Followed (spells c a.stamp) (Exactly closing))) text

    abbrev Kinded : Care → Bool → List ℕ → Type 0
    Kinded c k piece = Exactly (cond k in_word out_word) piece

    abbrev Stamped : Bool → Care → Line S → List ℕ → Type 0
    Stamped k = Via spells (λ s. Closed (atom_line (record { stamp = s; reading = k })))

    abbrev AtomSaid : Care → Line S → List ℕ → Type 0
    AtomSaid c y = Followed (Exactly (32 ∷ [])) (Via Kinded Stamped c y)

    stamped_agrees : (k : Bool) → Agrees (λ text m. and_then (stamp_at text m) (λ s. and_then (pass_word closing text s.1) (λ next. Ok (atom_line (record { stamp = s.0; reading = k }), next)))) (Stamped k) Any
    stamped_agrees k =
        agrees_then stamps
        (λ at s. closed_agrees (atom_line (record { stamp = s; reading = k })))
        (λ c s y piece rest g x. closed_stops (atom_line (record { stamp = s; reading = k })) c y piece rest g)

    said_agrees : Agrees (λ text b. and_then (pass_at 32 text b) (λ c. and_then (reading_at text c) (λ k. and_then (stamp_at text k.1) (λ s. and_then (pass_word closing text s.1) (λ next. Ok (atom_line (record { stamp = s.0; reading = k.0 }), next)))))) AtomSaid Any
    said_agrees =
        byte_then 32 (agrees_then kind_agrees (λ at k. stamped_agrees k) (λ c k y piece rest g s. tt))

    -- a space and the kind's word
    kind_to : {A : List ℕ → Type 0} (k : Bool) {piece : List ℕ} → Followed (Exactly (32 ∷ [])) (Followed (Exactly (cond k in_word out_word)) A) piece → Followed (Exactly (kind_text k)) A piece
    kind_to true f = word_to 32 in_word f
    kind_to false f = word_to 32 out_word f

    kind_from : {A : List ℕ → Type 0} (k : Bool) {piece : List ℕ} → Followed (Exactly (kind_text k)) A piece → Followed (Exactly (32 ∷ [])) (Followed (Exactly (cond k in_word out_word)) A) piece
    kind_from true f = word_from 32 in_word f
    kind_from false f = word_from 32 out_word f

    atom_to : (c : Care) (y : Line S) (text : List ℕ) → Kept c (leb room.atoms atoms ≡ false) × Followed (Numbered c atoms) (AtomSaid c y) text → AtomRest c y text
    atom_to c y text (k, f) =
        let g = f.second in
        let v = g.second in
        let w = v.parts.second in
        let h = w.parts in
        let a : Atom S = record { stamp = w.value; reading = v.value } in
        (a, h.second.second.0, kept_map c (leb-false room.atoms atoms) k, onto f (kind_to v.value (onto g (onto v.parts (onto h (ended h.second))))))

    atom_from : (c : Care) (y : Line S) (text : List ℕ) → AtomRest c y text → Kept c (leb room.atoms atoms ≡ false) × Followed (Numbered c atoms) (AtomSaid c y) text
    atom_from c y text (a, e, k, f) =
        let g = kind_from a.reading f.second in
        let h = g.second in
        let i = h.second in
        let stamp : Stamped a.reading c y h.back = record { value = a.stamp; parts = onto i (unended e i.second) } in
        let kind : Via Kinded Stamped c y g.back = record { value = a.reading; parts = onto h stamp } in
        (kept_map c (lt-leb room.atoms atoms) k, onto f (onto g kind))

    -- an atom agrees, from its number on
    pub atom_rest_agrees : (at : ℕ) → Agrees (atom_rest S room atoms rules stamp_at at) AtomRest Any
    atom_rest_agrees at =
        agrees_as atom_to atom_from
        (agrees_unless (Reading (TooMany at)) tt
        (numbered_then atoms said_agrees
        (λ c y piece rest g. starts 32 [] (Via Kinded Stamped c y) piece rest refl g))
        (leb room.atoms atoms))
