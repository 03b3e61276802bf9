-- One more turn.
use Rattle.std.proofs.Common.{◌≡◌, ℕ, zero, suc, ◌+◌, ◌-◌, ◌<◌, ◌≤◌, Ok, Err, Result, sym, refl, ap, ◌∙◌, add-zero, add-suc, add-one, arith}
use Rattle.books.specs.declared.fault.Fault.{Fault}
use Rattle.text.specs.Bytes.{and_then}
use Rattle.text.specs.Turns.{turns, tries}

pub turns_none : {X : Type 0} (f : X → X) (x : X) → turns f x 0 ≡ x
unfolding turns
turns_none f x = refl

pub turns_more : {X : Type 0} (f : X → X) (x : X) (n : ℕ) → turns f x (n + 1) ≡ f (turns f x n)
unfolding turns
turns_more f x n = rw add-one refl

turns_stay : {X : Type 0} (f : X → X) (x y : X) (i k : ℕ) → f y ≡ y → y ≡ turns f x i → y ≡ turns f x (i + k)
turns_stay f x y i zero e h = rw add-zero h
turns_stay f x y i (suc k) e h = rw (add-suc, ← add-one) (sym e ∙ ap f (turns_stay f x y i k e h) ∙ sym (turns_more f x (i + k)))

-- what a turn leaves as it is, more turns leave as it is
pub turns_end : {X : Type 0} (f : X → X) (x y : X) (i n : ℕ) → f y ≡ y → y ≡ turns f x i → i ≤ n → y ≡ turns f x n
turns_end f x y i n e h l =
    let whole : i + (n - i) ≡ n = omega arith in
    turns_stay f x y i (n - i) e h ∙ ap (turns f x) whole

module _ {X : Type 0} (f : X → Result X Fault) (x : X) where
  -- the same of a step that may be refused
  pub tries_end : (y : X) (i n : ℕ) → f y ≡ Ok y → Ok y ≡ tries f x i → i ≤ n → Ok y ≡ tries f x n
  tries_end y i n e h l = turns_end (λ r. and_then r f) (Ok x) (Ok y) i n e h l

  pub tries_more : (n : ℕ) (s : X) → Ok s ≡ tries f x n → f s ≡ tries f x (n + 1)
  tries_more n s e = ap (λ r. and_then r f) e ∙ sym (turns_more (λ r. and_then r f) (Ok x) n)

  -- a step that is refused is refused after more turns too, since a fault stays
  pub tries_refused : (i n : ℕ) (s : X) (e : Fault) → Ok s ≡ tries f x i → Err e ≡ f s → i < n → Err e ≡ tries f x n
  tries_refused i n s e h r l = turns_end (λ r. and_then r f) (Ok x) (Err e) (i + 1) n refl (r ∙ tries_more i s h) (omega arith)
