-- Numbers in base ten: up to ten digits, leading zeros allowed.
use Rattle.std.specs.Prelude.{ℕ, ◌+◌, ◌-◌, ◌*◌, cond, ◌&&◌, List, is_some, Some, None, Ok, Err, Option, Result, ◌==◌, nat_le, nat_lt}
use Rattle.std.specs.List.{slice_get}
use Rattle.books.specs.declared.fault.ReadFault.TheVariants.{Number}
use Rattle.books.specs.declared.fault.Fault.{Fault}
use Rattle.books.specs.declared.fault.Fault.TheVariants.{Reading}
use Rattle.text.specs.Bytes.{wrong_at}
use Rattle.text.specs.Turns.{turns}

-- the digit that a byte is
abbrev pub digit_of : Option ℕ → Option ℕ
digit_of None = None
digit_of (Some b) = cond (nat_le 48 b && nat_le b 57) (Some (b - 48)) None

-- the digit at a place
abbrev pub digit_at : List ℕ → ℕ → Option ℕ
digit_at text at = digit_of (slice_get text at)

-- a number so far and the place after it, with one more digit
abbrev pub grown : ℕ × ℕ → Option ℕ → ℕ × ℕ
grown p None = p
grown p (Some d) = (p.0 * 10 + d, p.1 + 1)

-- one more digit of the text, where there is one
abbrev pub one_more : List ℕ → ℕ × ℕ → ℕ × ℕ
one_more text p = grown p (digit_at text p.1)

-- the number in the first n digits at a place, and the place after them
abbrev pub digits_from : List ℕ → ℕ → ℕ → ℕ × ℕ
digits_from text at n = turns (one_more text) (0, at) n

-- a run of digits as a number: it has one digit at least and ten at most, and its value is within the limit
abbrev pub judged : List ℕ → ℕ → ℕ → ℕ × ℕ → Result (ℕ × ℕ) Fault
judged text at limit p =
    cond (p.1 == at) (wrong_at at)
    (cond (is_some (digit_at text p.1)) (wrong_at p.1)
    (cond (nat_lt limit p.0) (Err (Reading (Number at))) (Ok p)))

-- the number at a place, which is the whole run of digits there, and the place after it
unfoldable pub number_at : List ℕ → ℕ → ℕ → Result (ℕ × ℕ) Fault
number_at text at limit = judged text at limit (digits_from text at 10)
