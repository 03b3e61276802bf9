-- A word, one byte after another.
use Rattle.std.proofs.Common.{◌≡◌, ℕ, ◌+◌, ◌<◌, false, cond, List, length, get_or, drop, Some, Result, sym, refl, ap, ◌∙◌}
use Rattle.std.proofs.lemmas.List.{at_drop_more}
use Rattle.std.proofs.lemmas.Bool.{eq-eqb}
use Rattle.std.specs.List.{slice_get}
use Rattle.books.specs.declared.fault.Fault.{Fault}
use Rattle.text.specs.Bytes.{and_then, pass_at}
use Rattle.text.specs.Words.{pass_word, agrees_to, is_byte}

module _ (word text : List ℕ) (next i : ℕ) (h : i < length word) where
  -- what is left of the word begins with the byte at i
  abbrev AtByte : Type 0
  AtByte = agrees_to (drop i word) text next ≡ cond (is_byte (get_or word i 0) (slice_get text next)) (agrees_to (drop (i + 1) word) text (next + 1)) next

  at_byte : AtByte
  unfolding agrees_to
  at_byte = at_drop_more (λ w. agrees_to w text next) word i 0 h

  pub agrees_more : Some (get_or word i 0) ≡ slice_get text next → agrees_to (drop i word) text next ≡ agrees_to (drop (i + 1) word) text (next + 1)
  agrees_more e = at_byte ∙ ap (λ o. cond (is_byte (get_or word i 0) o) (agrees_to (drop (i + 1) word) text (next + 1)) next) (sym e) ∙ ap (λ b. cond b (agrees_to (drop (i + 1) word) text (next + 1)) next) (eq-eqb (get_or word i 0) (get_or word i 0) refl)

  pub agrees_no_more : is_byte (get_or word i 0) (slice_get text next) ≡ false → next ≡ agrees_to (drop i word) text next
  agrees_no_more e = sym (at_byte ∙ ap (λ b. cond b (agrees_to (drop (i + 1) word) text (next + 1)) next) e)

  passes : pass_word (drop i word) text next ≡ and_then (pass_at (get_or word i 0) text next) (pass_word (drop (i + 1) word) text)
  unfolding pass_word
  passes = at_drop_more (λ w. pass_word w text next) word i 0 h

  pub passes_more : (r : Result ℕ Fault) → r ≡ pass_at (get_or word i 0) text next → pass_word (drop i word) text next ≡ and_then r (pass_word (drop (i + 1) word) text)
  passes_more r e = passes ∙ ap (λ r. and_then r (pass_word (drop (i + 1) word) text)) (sym e)
