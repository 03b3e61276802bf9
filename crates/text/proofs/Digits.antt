-- A number's digits, one by one.
use Rattle.std.proofs.Common.{◌≡◌, ℕ, ◌+◌, ◌*◌, ◌^◌, ◌<◌, ◌≤◌, List, Some, None, sym, ap, ◌∙◌, pow-suc, add-one, arith}
use Rattle.text.specs.Numbers.{digit_at, digits_from, one_more, grown}
use Rattle.text.proofs.Turned.{turns_none, turns_more, turns_end}

-- n digits are read, and make a number that fits its type
pub record Read (text : List ℕ) (at value next n : ℕ) : Type 0 where
  pub place : next ≡ at + n
  pub few : n ≤ 10
  pub read : (value, next) ≡ digits_from text at n
  pub small : value < 10 ^ n

pub read_none : (text : List ℕ) (at n : ℕ) → n ≡ 0 → Read text at 0 at n
read_none text at n e = rw e (record { place = omega arith; few = omega arith; read = sym (turns_none (one_more text) (0, at)); small = omega arith })

module _ (text : List ℕ) (at value next n : ℕ) (h : Read text at value next n) where
  pub read_more : (digit m : ℕ) → Some digit ≡ digit_at text next → digit < 10 → n < 10 → m ≡ n + 1 → Read text at (value * 10 + digit) (next + 1) m
  read_more digit m e d l k =
      rw k
      (record {
        place = let p = h.place in omega arith;
        few = omega arith;
        read = ap (grown (value, next)) e ∙ ap (one_more text) h.read ∙ sym (turns_more (one_more text) (0, at) n);
        small = let s = h.small in rw (add-one n, pow-suc 10 n) (omega arith);
      })

  -- where no digit follows, the number is read
  pub read_all : None ≡ digit_at text next → (value, next) ≡ digits_from text at 10
  read_all e = turns_end (one_more text) (0, at) (value, next) n 10 (ap (grown (value, next)) (sym e)) h.read h.few
