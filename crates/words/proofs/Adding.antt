-- What a set has once a number is put into it.
use Rattle.std.proofs.Common.{◌≡◌, ℕ, ◌/◌, ◌%◌, ◌^◌, ◌<◌, ◌||◌, ◌==◌, List, length, get_or, ap, ◌∙◌, inl, inr, arith, get_or-set_other, get_or-set_same}
use Rattle.std.specs.Int.{bit_at}
use Rattle.std.specs.Prelude.{bit_or}
use Rattle.std.proofs.lemmas.Nat.{div-add-mod'}
use Rattle.std.proofs.lemmas.Nat.Bits.{bit_at_or, bit_at-lt, bit_at-pow_same, bit_at-pow_other}
use Rattle.std.proofs.lemmas.Bool.{cases_eq}
use Rattle.std.proofs.lemmas.Bool.Decides.{nat_tests}
use Rattle.words.specs.Members.{has_number, with_number}

pub with_bit : (w k j : ℕ) → (bit_at (bit_or w (2 ^ k)) j == 1) ≡ (j == k || bit_at w j == 1)
with_bit w k j =
    let small = bit_at-lt w j in
    elim (cases_eq j k) [
      | inl same ↦ rw (bit_at_or w (2 ^ k) j, same, bit_at-pow_same k) (let s = bit_at-lt w k in grind (arith, nat_tests))
      | inr apart ↦ rw (bit_at_or w (2 ^ k) j, bit_at-pow_other k j apart) (grind (arith, nat_tests))
    ]

-- two numbers of one word are equal where their bits are
same_word : (k n : ℕ) → k / 64 ≡ n / 64 → (k % 64 == n % 64) ≡ (k == n)
same_word k n e = let d = div-add-mod' k 64 in let f = div-add-mod' n 64 in grind (arith, nat_tests)

pub has_number-with_number : (ws : List ℕ) (n : ℕ) → n / 64 < length ws → (k : ℕ) → has_number (with_number ws n) k ≡ (k == n || has_number ws k)
has_number-with_number ws n l k =
    let word : ℕ = bit_or (get_or ws (n / 64) 0) (2 ^ (n % 64)) in
    elim (cases_eq (k / 64) (n / 64)) [
      | inl same ↦
          rw (same, get_or-set_same ws (n / 64) word 0 l)
          (with_bit (get_or ws (n / 64) 0) (n % 64) (k % 64) ∙ ap (λ b. b || bit_at (get_or ws (n / 64) 0) (k % 64) == 1) (same_word k n same))
      | inr apart ↦ rw (get_or-set_other ws (n / 64) (k / 64) word 0 apart) (grind (arith, nat_tests))
    ]
