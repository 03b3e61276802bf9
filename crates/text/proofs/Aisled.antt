-- What is written of one aisle.
use Rattle.std.proofs.Common.{◌≡◌, ℕ, ◌*◌, ◌/◌, ◌%◌, ◌^◌, ◌<◌, [], ap, ◌∙◌}
use Rattle.std.proofs.lemmas.Nat.{one_shl}
use Rattle.std.proofs.lemmas.Bool.{ne_eqb, cond-false}
use Rattle.text.specs.Spelt.{aisle_text}

module _ (aisles k bit : ℕ) (h : k < 64) (e : bit ≡ (1 * 2 ^ k) % 2 ^ 64) where
  is_bit : bit ≡ 2 ^ k
  is_bit = e ∙ one_shl k 64 h

  pub no_aisle_lem : (aisles / bit % 2 ≡ 1 → ⊥) → aisle_text aisles k ≡ []
  no_aisle_lem t = cond-false _ _ _ (ne_eqb (aisles / 2 ^ k % 2) 1 (λ p. t (ap (λ b. aisles / b % 2) is_bit ∙ p)))
