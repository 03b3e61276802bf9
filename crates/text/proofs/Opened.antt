-- A text that begins with a word, or with the opening of a form.
use Rattle.std.proofs.Common.{◌≡◌, ℕ, zero, suc, ◌+◌, Bool, true, false, cond, ◌&&◌, List, [], ◌∷◌, length, drop, Some, None, Ok, Option, sym, refl, ap, ◌∙◌, add-one, arith}
use Rattle.std.proofs.lemmas.Bool.{and_parts}
use Rattle.std.specs.List.{slice_get}
use Rattle.text.specs.Bytes.{and_then, wrong_at, pass_if}
use Rattle.text.specs.Words.{pass_word, is_byte}
use Rattle.text.specs.Kinds.{order_opening, atom_opening, rule_opening, void_opening, end_opening, opening_of, begins, kind_of}
use Rattle.text.specs.declared.kind.Kind.{Kind}
use Rattle.text.specs.declared.kind.Kind.TheVariants.{Order, Atom, Rule, Void, End}

-- a text begins with a word if its first byte is the word's, and what follows begins with the rest
pub begins_step : (b : ℕ) (word text : List ℕ) (at : ℕ) → begins (b ∷ word) (drop at text) ≡ (is_byte b (slice_get text at) && begins word (drop (at + 1) text))
begins_step b word text at = by_suc text at ∙ ap (λ n. is_byte b (slice_get text at) && begins word (drop n text)) (sym (add-one at))
  where
    by_suc : (text : List ℕ) (at : ℕ) → begins (b ∷ word) (drop at text) ≡ (is_byte b (slice_get text at) && begins word (drop (suc at) text))
    by_suc [] zero = refl
    by_suc [] (suc at) = refl
    by_suc (x ∷ text) zero = refl
    by_suc (x ∷ text) (suc at) = by_suc text at

-- a byte is passed where it stands
pub pass_if_lem : (b at : ℕ) (o : Option ℕ) → pass_if b at o ≡ cond (is_byte b o) (Ok (at + 1)) (wrong_at at)
pass_if_lem b at None = refl
pass_if_lem b at (Some x) = refl

-- a word is passed where the text begins with it
pub word_passed : (word text : List ℕ) (at : ℕ) → begins word (drop at text) ≡ true → Ok (at + length word) ≡ pass_word word text at
unfolding pass_word
word_passed [] text at h = ap Ok (omega arith)
word_passed (b ∷ word) text at h =
    let p = and_parts (is_byte b (slice_get text at)) (begins word (drop (at + 1) text)) (sym (begins_step b word text at) ∙ h) in
    let further : at + suc (length word) ≡ at + 1 + length word = omega arith in
    ap Ok further ∙ word_passed word text (at + 1) p.1 ∙ sym (ap (λ r. and_then r (pass_word word text)) (pass_if_lem b at (slice_get text at) ∙ ap (λ t. cond t (Ok (at + 1)) (wrong_at at)) p.0))

module _ (bytes : List ℕ) (k : Kind) where
  -- by whether the bytes begin with each opening
  told : (o a r v e : Bool) → begins order_opening bytes ≡ o → begins atom_opening bytes ≡ a → begins rule_opening bytes ≡ r → begins void_opening bytes ≡ v → begins end_opening bytes ≡ e → Some k ≡ cond o (Some Order) (cond a (Some Atom) (cond r (Some Rule) (cond v (Some Void) (cond e (Some End) None)))) → begins (opening_of k) bytes ≡ true
  told true a r v e ho ha hr hv he h = let is : k ≡ Order = cc in rw is ho
  told false true r v e ho ha hr hv he h = let is : k ≡ Atom = cc in rw is ha
  told false false true v e ho ha hr hv he h = let is : k ≡ Rule = cc in rw is hr
  told false false false true e ho ha hr hv he h = let is : k ≡ Void = cc in rw is hv
  told false false false false true ho ha hr hv he h = let is : k ≡ End = cc in rw is he
  told false false false false false ho ha hr hv he h = let z : ◌≡◌ {A = ℕ} 0 1 = cc in absurd (omega arith)

  begins_with : Some k ≡ kind_of bytes → begins (opening_of k) bytes ≡ true
  begins_with h = told (begins order_opening bytes) (begins atom_opening bytes) (begins rule_opening bytes) (begins void_opening bytes) (begins end_opening bytes) refl refl refl refl refl h

-- an opening is passed where it tells the kind
pub opening_passed : (text : List ℕ) (at : ℕ) (k : Kind) (word : List ℕ) → word ≡ opening_of k → Some k ≡ kind_of (drop at text) → Ok (at + length word) ≡ pass_word (opening_of k) text at
opening_passed text at k word e h = ap (λ w. Ok (at + length w)) e ∙ word_passed (opening_of k) text at (begins_with (drop at text) k h)
