-- The parts of the forms agree with their grammar.
use Rattle.std.proofs.Common.{◌≡◌, ℕ, Bool, true, false, cond, eqb, leb, ◌⊎◌, List, [], ◌++◌, length, Ok, Err, Result, sym, refl, ap, subst, inl, inr, arith}
use Rattle.std.proofs.lemmas.List.{append-nil}
use Rattle.std.proofs.lemmas.Bool.{leb-false, lt-leb, eqb-true, eq-eqb}
use Rattle.books.specs.Meaning.{Rule}
use Rattle.books.specs.declared.fault.ReadFault.TheVariants.{AtomMissing, Number}
use Rattle.books.specs.declared.fault.Fault.{Fault}
use Rattle.books.specs.declared.fault.Fault.TheVariants.{Reading}
use Rattle.text.specs.Bytes.{and_then, pass_at}
use Rattle.text.specs.Forms.{next_number, reading_at, in_word, out_word}
use Rattle.text.specs.Numbers.{digit_of, number_at}
use Rattle.text.specs.Rules.{head_at, body_at, rule_at}
use Rattle.text.specs.Spelt.{space}
use Rattle.text.specs.Words.{is_byte}
use Rattle.text.specs.declared.site.Site.{Site}
use Rattle.grammar.specs.Pieces.{Care, Kept, Exactly, Followed, Numeral, largest}
use Rattle.grammar.specs.Grammar.{Numbered, Declared, Body}
use Rattle.grammar.specs.Agreement.{Agrees, NoDigit}
use Rattle.grammar.proofs.AgreeCombined.{Any, Via, agrees_same, agrees_as, agrees_then, agrees_done, agrees_if, byte_then, word_then}
use Rattle.grammar.proofs.RuleListAgrees.{body_agrees}
use Rattle.grammar.proofs.AgreeChosen.{agrees_choice, agrees_unless}
use Rattle.grammar.proofs.PieceByPiece.{ended, unended, first_of, onto}
use Rattle.grammar.proofs.Degrees.{kept_map}
use Rattle.grammar.proofs.NumberAgrees.{number_agrees}

abbrev Known : Site → ℕ → Care → ℕ → List ℕ → Type 0
Known site v c n piece = Kept c (leb site.atoms v ≡ false) × ((n ≡ v) × (piece ≡ []))

-- the head of a rule
head_agrees : (site : Site) → Agrees (λ text at. head_at text site at) (λ c n text. Declared c site.atoms n text) NoDigit
head_agrees site =
    agrees_as to from
    (agrees_then (number_agrees largest)
    (λ at v. agrees_unless (Reading (AtomMissing site.rule 0)) tt (agrees_done v) (leb site.atoms v))
    (λ c v n piece rest h s. subst (λ p. NoDigit (p ++ rest)) (sym h.1.1) s))
  where
    to : (c : Care) (n : ℕ) (text : List ℕ) → Via (λ c v piece. Numeral c largest v piece) (Known site) c n text → Declared c site.atoms n text
    to c n text v =
        let f = v.parts in
        let whole : text ≡ f.front = grind (arith, f.whole, f.second.1.1, append-nil) in
        subst (λ k. Declared c site.atoms k text) (sym f.second.1.0)
        (record { spelt = subst (λ t. Numeral c largest v.value t) (sym whole) f.first; declared = kept_map c (leb-false site.atoms v.value) f.second.0 })

    from : (c : Care) (n : ℕ) (text : List ℕ) → Declared c site.atoms n text → Via (λ c v piece. Numeral c largest v piece) (Known site) c n text
    from c n text d =
        record { value = n; parts = record { front = text; back = []; whole = sym (append-nil text); first = d.spelt; second = (kept_map c (lt-leb site.atoms n) d.declared, (refl, refl)) } }

-- the number of a line and then the rest, which does not begin with a digit
module _ {Y : Type 0} (expected : ℕ) {K : List ℕ → ℕ → Result (Y × ℕ) Fault} {G : Care → Y → List ℕ → Type 0} {Stop : List ℕ → Type 0} (a : Agrees K G Stop) (starts : (c : Care) (y : Y) (piece rest : List ℕ) → G c y piece → NoDigit (piece ++ rest)) where
  abbrev Next : ℕ → Care → Y → List ℕ → Type 0
  Next v c y piece = Kept c (eqb v expected ≡ true) × G c y piece

  abbrev Spelt : Care → ℕ → List ℕ → Type 0
  Spelt c v piece = Numeral c largest v piece

  next_to : (c : Care) (y : Y) (text : List ℕ) → Via Spelt Next c y text → Followed (Numbered c expected) (G c y) text
  next_to c y text v =
      let f = v.parts in
      record { front = f.front; back = f.back; whole = f.whole; first = record { number = v.value; spelt = f.first; next = kept_map c (eqb-true v.value expected) f.second.0 }; second = f.second.1 }

  next_from : (c : Care) (y : Y) (text : List ℕ) → Followed (Numbered c expected) (G c y) text → Via Spelt Next c y text
  next_from c y text f =
      record { value = f.first.number; parts = record { front = f.front; back = f.back; whole = f.whole; first = f.first.spelt; second = (kept_map c (eq-eqb f.first.number expected) f.first.next, f.second) } }

  next_same : (text : List ℕ) (at : ℕ) (r : Result (ℕ × ℕ) Fault) → and_then r (λ p. cond (eqb p.0 expected) (K text p.1) (Err (Reading (Number at)))) ≡ and_then (and_then r (λ p. cond (eqb p.0 expected) (Ok p.1) (Err (Reading (Number at))))) (K text)
  next_same text at (Ok p) = grind arith
  next_same text at (Err e) = refl

  -- a reader after a line's number agrees with its pieces after that number
  pub numbered_then : Agrees (λ text at. and_then (next_number text expected at) (K text)) (λ c y. Followed (Numbered c expected) (G c y)) Stop
  numbered_then =
      agrees_same (λ text at. next_same text at (number_at text at largest))
      (agrees_as next_to next_from
      (agrees_then (number_agrees largest)
      (λ at v. agrees_if (Reading (Number at)) tt a (eqb v expected))
      (λ c v y piece rest h s. starts c y piece rest h.1)))

abbrev Kinds : Care → Bool → List ℕ → Type 0
Kinds c k piece = Followed (Exactly out_word) (λ p. (k ≡ false) × (p ≡ [])) piece ⊎ Followed (Exactly in_word) (λ p. (k ≡ true) × (p ≡ [])) piece

-- a reading or not
pub kind_agrees : Agrees (λ text at. reading_at text at) (λ c k piece. Exactly (cond k in_word out_word) piece) Any
kind_agrees =
    agrees_as to from
    (agrees_choice 111
    (word_then out_word (agrees_done false))
    (word_then in_word (agrees_done true))
    (λ c k piece rest f. ap (is_byte 111) (first_of rest f))
    (λ c k piece rest f. ap (is_byte 111) (first_of rest f)))
  where
    to : (c : Care) (k : Bool) (piece : List ℕ) → Kinds c k piece → Exactly (cond k in_word out_word) piece
    to c k piece (inl f) = subst (λ b. Exactly (cond b in_word out_word) piece) (sym f.second.0) (ended f)
    to c k piece (inr f) = subst (λ b. Exactly (cond b in_word out_word) piece) (sym f.second.0) (ended f)

    from : (c : Care) (k : Bool) (piece : List ℕ) → Exactly (cond k in_word out_word) piece → Kinds c k piece
    from c true piece e = inr (unended refl e)
    from c false piece e = inl (unended refl e)

-- head, positives and negatives, each after a space
abbrev pub Parts : Care → ℕ → Rule → List ℕ → Type 0
Parts c atoms r =
    Followed (Exactly space) (Followed (Declared c atoms r.head) (Followed (Exactly space) (Followed (Body c atoms r.positives) (Followed (Exactly space) (Body c atoms r.negatives)))))

module _ (site : Site) where
  abbrev Bodied : Care → List ℕ → List ℕ → Type 0
  Bodied c ns text = Body c site.atoms ns text

  abbrev Headed : Care → ℕ → List ℕ → Type 0
  Headed c n text = Declared c site.atoms n text

  abbrev made : ℕ → List ℕ → List ℕ → Rule
  made h p n = record { head = h; positives = p; negatives = n }

  abbrev Last : ℕ → List ℕ → List ℕ → Care → Rule → List ℕ → Type 0
  Last h p n c r piece = (r ≡ made h p n) × (piece ≡ [])

  abbrev Negatives : ℕ → List ℕ → Care → Rule → List ℕ → Type 0
  Negatives h p c r = Followed (Exactly space) (Via Bodied (Last h p) c r)

  abbrev Positives : ℕ → Care → Rule → List ℕ → Type 0
  Positives h c r = Followed (Exactly space) (Via Bodied (Negatives h) c r)

  negatives_agree : (h : ℕ) (p : List ℕ) → Agrees (λ text at. and_then (pass_at 32 text at) (λ m. and_then (body_at text site (length p) m) (λ n. Ok (made h p n.0, n.1)))) (Negatives h p) Any
  negatives_agree h p =
      byte_then 32 (agrees_then (body_agrees site (length p)) (λ at n. agrees_done (made h p n)) (λ c n r piece rest g s. tt))

  positives_agree : (h : ℕ) → Agrees (λ text at. and_then (pass_at 32 text at) (λ b. and_then (body_at text site 0 b) (λ p. and_then (pass_at 32 text p.1) (λ m. and_then (body_at text site (length p.0) m) (λ n. Ok (made h p.0 n.0, n.1)))))) (Positives h) Any
  positives_agree h =
      byte_then 32 (agrees_then (body_agrees site 0) (λ at p. negatives_agree h p) (λ c p r piece rest g s. tt))

  parts_to : (c : Care) (r : Rule) (text : List ℕ) → Followed (Exactly space) (Via Headed Positives c r) text → Parts c site.atoms r text
  parts_to c r text f =
      let h = f.second in
      let g = h.parts.second in
      let p = g.second in
      let k = p.parts.second in
      subst (λ x. Parts c site.atoms x text) (sym k.second.parts.second.0)
      (onto f (onto h.parts (onto g (onto p.parts (onto k (ended k.second.parts))))))

  parts_from : (c : Care) (r : Rule) (text : List ℕ) → Parts c site.atoms r text → Followed (Exactly space) (Via Headed Positives c r) text
  parts_from c r text f =
      let g = f.second in
      let k = g.second in
      let p = k.second in
      let j = p.second in
      let negatives : Via Bodied (Last r.head r.positives) c r j.back = record { value = r.negatives; parts = unended refl j.second } in
      onto f (record { value = r.head; parts = onto g (onto k (record { value = r.positives; parts = onto p (onto j negatives) })) })

  -- reading a rule is reading its head and its two lists, each after a space
  pub rule_agrees : Agrees (λ text at. rule_at text site at) (λ c r text. Parts c site.atoms r text) Any
  unfolding rule_at
  rule_agrees =
      agrees_as parts_to parts_from
      (byte_then 32 (agrees_then (head_agrees site) (λ at h. positives_agree h)
      (λ c h r piece rest g s. ap digit_of (first_of rest g))))
