-- Lists as the reader goes through them, turn by turn, are lists as they are spelt.
use Rattle.std.proofs.Common.{◌≡◌, ℕ, zero, suc, ◌+◌, Bool, true, false, cond, Some, None, Ok, Err, Option, Result, refl, ap, ◌∙◌, arith}
use Rattle.books.specs.declared.fault.Fault.{Fault}
use Rattle.text.specs.Bytes.{and_then, pass_if}
use Rattle.text.specs.Lists.{empty_if, onward_if}
use Rattle.text.specs.Turns.{turns, tries}
use Rattle.text.specs.Words.{is_byte}

module _ {X : Type 0} (f : X → Result X Fault) where
  -- a fault stays for all turns
  tries_fault : (e : Fault) (n : ℕ) → turns (λ r. and_then r f) (Err e) n ≡ Err e
  unfolding turns
  tries_fault e zero = refl
  tries_fault e (suc n) = ap (λ r. and_then r f) (tries_fault e n)

  -- the first turn is done first
  turns_first : (r : Result X Fault) (n : ℕ) → turns (λ r. and_then r f) r (suc n) ≡ turns (λ r. and_then r f) (and_then r f) n
  unfolding turns
  turns_first r zero = refl
  turns_first r (suc n) = ap (λ r. and_then r f) (turns_first r n)

  from_answer : (r : Result X Fault) (n : ℕ) → turns (λ r. and_then r f) r n ≡ and_then r (λ y. tries f y n)
  from_answer (Ok y) n = refl
  from_answer (Err e) n = tries_fault e n

  -- one turn and then the others
  pub tries_first : (x : X) (n : ℕ) → tries f x (suc n) ≡ and_then (f x) (λ y. tries f y n)
  tries_first x n = turns_first (Ok x) n ∙ from_answer (f x) n

  -- a state that a turn leaves as it is stays
  pub tries_stay : (x : X) → f x ≡ Ok x → (n : ℕ) → tries f x n ≡ Ok x
  unfolding turns
  tries_stay x e zero = refl
  tries_stay x e (suc n) = ap (λ r. and_then r f) (tries_stay x e n) ∙ e

module _ {X : Type 0} (x : X) (go : ℕ → Result (X × ℕ) Fault) (F : Bool × ℕ → Result (X × ℕ) Fault) (more : (m : ℕ) → F (true, m) ≡ go m) (end : (m : ℕ) → F (false, m) ≡ Ok (x, m)) where
  -- after a number
  pub onward_same : (k : ℕ) (o : Option ℕ) → and_then (onward_if k o) F ≡ cond (is_byte 32 o) (and_then (pass_if 32 k o) go) (and_then (pass_if 41 k o) (λ m. Ok (x, m)))
  onward_same k None = refl
  onward_same k (Some b) = grind (arith, more (k + 1), end (k + 1))

  -- after the opening bracket
  pub open_same : (m : ℕ) (o : Option ℕ) → F (empty_if m o) ≡ cond (is_byte 41 o) (and_then (pass_if 41 m o) (λ k. Ok (x, k))) (go m)
  open_same m None = more m
  open_same m (Some b) = grind (arith, more m, end (m + 1))
