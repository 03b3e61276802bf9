-- The answers of the program, put together.
use Rattle.std.proofs.Common.{◌≡◌, ℕ, ◌≤◌, List, length, Ok, Err, Option, Result, sym, ap, ◌∙◌, subst, arith}
use Rattle.std.proofs.lemmas.Bool.{le-ltb, cond-false}
use Rattle.books.specs.declared.fault.Fault.{Fault}
use Rattle.text.specs.Bytes.{wrong_at}
use Rattle.text.specs.Orders.{word_of, order_refused}
use Rattle.writing.specs.Replies.{Replied, canonical_at, by_word, program_at, reply_text}
use Rattle.stamps.specs.Kinds as kinds
use Rattle.text.specs.Spelt.{tick_text, route_text, pair_text}
use Rattle.text.specs.Stamps.{tick_at, route_at, pair_at, tick_word, route_word, then_word}
use Rattle.text.specs.Written.{Wrote}
use Rattle.text.specs.declared.order.Word.{Word}
use Rattle.text.proofs.Laid.{laid_front}

-- an equal finding has the same reply
pub replied_as : (found found' : Result (List ℕ) Fault) (r : Result ℕ Fault) (old new : List ℕ) → found ≡ found' → Replied found r old new → Replied found' r old new
replied_as found found' r old new e h = subst (λ f. Replied f r old new) e h

module _ (text : List ℕ) (ticks routes pairs rules room : ℕ) where
  -- what is found under each word
  abbrev table : Option Word → Result (List ℕ) Fault
  table w =
      by_word w
      (canonical_at tick_at tick_word tick_text kinds.ticks text ticks rules room)
      (canonical_at route_at route_word route_text kinds.routes text routes rules room)
      (canonical_at pair_at then_word pair_text kinds.pairs text pairs rules room)
      (wrong_at (order_refused text))

  pub program_is : (w : Option Word) → length text ≤ 65536 → w ≡ word_of text → table w ≡ program_at text ticks routes pairs rules room
  unfolding program_at
  program_is w h e = ap table e ∙ sym (cond-false _ _ _ (le-ltb 65536 (length text) h))

-- the text that was found stands on the sheet
pub wrote_found : (found : Result (List ℕ) Fault) (n : ℕ) (old new : List ℕ) → Replied found (Ok n) old new → Wrote old 0 (reply_text found) new n
wrote_found (Ok t) n old new h =
    let k = h.answered in
    let same : n ≡ length t = cc in
    record { held = h.sheet ∙ sym (laid_front old t h.fits); place = omega arith }
wrote_found (Err d) n old new h = let k = h.answered in let z : ◌≡◌ {A = ℕ} 0 1 = cc in absurd (omega arith)
