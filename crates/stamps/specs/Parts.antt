-- A route's mask against its aisles, and what `part_of` keeps.
use Rattle.std.specs.Prelude.{◌≡◌, ℕ, zero, suc, ◌+◌, ◌/◌, ◌%◌, ◌^◌, ◌<◌, ◌≤◌, Bool, bit_and, ◌==◌, refl}
use Rattle.std.specs.Bool.{IsTrue}
use Rattle.std.specs.Int.{bit_at}
use Rattle.std.specs.List.{list_all, range_with_len}
use Rattle.std.proofs.Common.{mod-eq_of_lt, arith, ap, sym, subst, ◌∙◌, inl, inr}
use Rattle.std.proofs.lemmas.Nat.{and_le_l, mod_below, pow_pos, div-add-mod'}
use Rattle.std.proofs.lemmas.Nat.Bits.{bit_at_cat_low, bit_at_and, bit_at-lt, same_from_bits_below}
use Rattle.std.proofs.lemmas.Bool.{cases_eq}
use Rattle.std.proofs.lemmas.Bool.Decides.{nat_tests}
use Rattle.stamps.specs.Aisles.{shares_aisle, part_of}

-- a test that n numbers from a on pass is passed by each of them
from_all : (p : ℕ → Bool) (a n k : ℕ) → IsTrue (list_all p (range_with_len a n)) → a ≤ k → k < a + n → IsTrue (p k)
from_all p a zero k h l u = absurd (omega arith)
from_all p a (suc n) k h l u = elim (cases_eq a k) [
  | inl same ↦ subst (λ x. IsTrue (p x)) same (grind arith)
  | inr apart ↦ from_all p (suc a) n k (grind arith) (omega arith) (omega arith)
]

-- a test that each number below a + n passes is passed by n numbers from a on
to_all : (p : ℕ → Bool) (a n : ℕ) → ((k : ℕ) → k < a + n → IsTrue (p k)) → IsTrue (list_all p (range_with_len a n))
to_all p a zero h = refl
to_all p a (suc n) h =
    let here = h a (omega arith) in
    let rest = to_all p (suc a) n (λ k l. h k (omega arith)) in
    grind arith

-- a part shares each aisle
part_out : (a b k : ℕ) → IsTrue (part_of a b) → k < 64 → IsTrue (shares_aisle a b k)
unfolding part_of
part_out a b k p l = from_all (shares_aisle a b) 0 64 k p (omega arith) l

-- what shares each aisle is a part
part_in : (a b : ℕ) → ((k : ℕ) → k < 64 → IsTrue (shares_aisle a b k)) → IsTrue (part_of a b)
unfolding part_of
part_in a b h = to_all (shares_aisle a b) 0 64 h

-- a mask cut to k bits has the bits below k that it had
bit_low : (a k i : ℕ) → i < k → bit_at (a % 2 ^ k) i ≡ bit_at a i
bit_low a k i l = sym (bit_at_cat_low (a / 2 ^ k) k (a % 2 ^ k) i l) ∙ ap (λ x. bit_at x i) (div-add-mod' a (2 ^ k))

-- on masks cut to k bits, sharing the aisles below k is `a & b == a`
pub shares_mask : (a b k : ℕ) → list_all (shares_aisle a b) (range_with_len 0 k) ≡ (bit_and (a % 2 ^ k) (b % 2 ^ k) == a % 2 ^ k)
shares_mask a b k =
    let c : ℕ = a % 2 ^ k in
    let d : ℕ = b % 2 ^ k in
    let below : c < 2 ^ k = mod_below a (2 ^ k) (pow_pos k) in
    let small = and_le_l c d in
    let equal : IsTrue (list_all (shares_aisle a b) (range_with_len 0 k)) → bit_and c d ≡ c =
    λ p. same_from_bits_below k (bit_and c d) c (omega arith) below
    (λ i l. let m = bit_at_and c d i in let s = from_all (shares_aisle a b) 0 k i p (omega arith) (omega arith) in
    let u = bit_low a k i l in let v = bit_low b k i l in let x = bit_at-lt a i in let y = bit_at-lt b i in grind (arith, nat_tests)) in
    let part : bit_and c d ≡ c → IsTrue (list_all (shares_aisle a b) (range_with_len 0 k)) =
    λ e. to_all (shares_aisle a b) 0 k (λ i l. let j : i < k = omega arith in let m = bit_at_and c d i in let s = ap (λ x. bit_at x i) e in
    let u = bit_low a k i j in let v = bit_low b k i j in let x = bit_at-lt a i in let y = bit_at-lt b i in grind (arith, nat_tests)) in
    grind (arith, nat_tests, equal, part)

-- on masks of 64 bits, part of is `a & b == a`
pub part_mask : (a b : ℕ) → a < 2 ^ 64 → b < 2 ^ 64 → part_of a b ≡ (bit_and a b == a)
unfolding part_of
part_mask a b ha hb = shares_mask a b 64 ∙ (rw (mod-eq_of_lt ha, mod-eq_of_lt hb) refl)

-- a route is part of itself
pub part_self : (a : ℕ) → IsTrue (part_of a a)
part_self a = part_in a a (λ k l. grind arith)

-- part of a part is part
pub part_trans : (a b c : ℕ) → IsTrue (part_of a b) → IsTrue (part_of b c) → IsTrue (part_of a c)
part_trans a b c p q = part_in a c (λ k l. let x = part_out a b k p l in let y = part_out b c k q l in grind arith)
