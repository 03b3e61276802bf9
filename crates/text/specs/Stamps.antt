-- Stamps as a text has them: a number, a pair of numbers, or rising aisles.
use Rattle.std.specs.Prelude.{ℕ, ◌+◌, ◌^◌, Bool, cond, List, Ok, Err, codes, Result, bit_or, nat_lt}
use Rattle.books.specs.declared.fault.ReadFault.TheVariants.{NotRising}
use Rattle.books.specs.declared.fault.Fault.{Fault}
use Rattle.books.specs.declared.fault.Fault.TheVariants.{Reading}
use Rattle.stamps.specs.declared.tick.Tick.{Tick}
use Rattle.stamps.specs.declared.route.Route.{Route}
use Rattle.stamps.specs.declared.then.Then.{Then}
use Rattle.text.specs.Bytes.{and_then, pass_at}
use Rattle.text.specs.Turns.{tries}
use Rattle.text.specs.Numbers.{number_at}
use Rattle.text.specs.Lists.{open_at, onward_at}

-- a tick is a number
abbrev pub tick_at : List ℕ → ℕ → Result (Tick × ℕ) Fault
tick_at text at = and_then (number_at text at 4294967295) (λ p. Ok (record { 0 = p.0 }, p.1))

-- two ticks in brackets
abbrev pub pair_at : List ℕ → ℕ → Result (Then Tick Tick × ℕ) Fault
pair_at text at =
    and_then (pass_at 40 text at)
    (λ first. and_then (tick_at text first)
    (λ a. and_then (pass_at 32 text a.1)
    (λ second. and_then (tick_at text second)
    (λ b. and_then (pass_at 41 text b.1)
    (λ next. Ok (record { first = a.0; second = b.0 }, next))))))

-- the aisles of a route so far, the lowest that may come next, whether one follows, and where
pub record Aisles : Type 0 where
  pub aisles : ℕ
  pub least : ℕ
  pub more : Bool
  pub next : ℕ

-- one more aisle of a route, above those before it
abbrev pub one_aisle : List ℕ → Aisles → Result Aisles Fault
one_aisle text s =
    cond s.more
    (and_then (number_at text s.next 63)
    (λ p. cond (nat_lt p.0 s.least) (Err (Reading (NotRising s.next)))
    (and_then (onward_at text p.1)
    (λ q. Ok (record { aisles = bit_or s.aisles (2 ^ p.0); least = p.0 + 1; more = q.0; next = q.1 })))))
    (Ok s)

-- no aisle is read
abbrev pub no_aisle : Bool × ℕ → Aisles
no_aisle q = record { aisles = 0; least = 0; more = q.0; next = q.1 }

-- the aisles of a list, which are 64 at most since they rise; the 65th is refused
unfoldable pub aisles_at : List ℕ → Bool × ℕ → Result Aisles Fault
aisles_at text q = tries (one_aisle text) (no_aisle q) 65

-- a route is the list of its aisles
abbrev pub route_at : List ℕ → ℕ → Result (Route × ℕ) Fault
route_at text at = and_then (open_at text at) (λ q. and_then (aisles_at text q) (λ s. Ok (record { aisles = s.aisles }, s.next)))

-- the word of ticks
abbrev pub tick_word : List ℕ
tick_word = codes "tick"

-- the word of routes
abbrev pub route_word : List ℕ
route_word = codes "route"

-- the word of pairs of ticks
abbrev pub then_word : List ℕ
then_word = codes "then"
