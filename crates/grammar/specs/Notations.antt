-- The three kinds of stamps that have a word.
use Rattle.std.specs.Prelude.{ℕ, ◌^◌, ◌<◌, List, codes, Result}
use Rattle.books.specs.declared.fault.Fault.{Fault}
use Rattle.stamps.specs.declared.tick.Tick.{Tick}
use Rattle.stamps.specs.declared.route.Route.{Route}
use Rattle.stamps.specs.declared.then.Then.{Then}
use Rattle.text.specs.Spelt.{tick_text, pair_text, route_text}
use Rattle.text.specs.Stamps.{tick_at, pair_at, route_at}
use Rattle.grammar.specs.Pieces.{Care}
use Rattle.grammar.specs.Stamps.{TickSpelt, PairSpelt, RouteSpelt}

-- a kind of stamp: its word, how the grammar spells a stamp, how one is read and written, and which ones the machine holds
pub record Notation (S : Type 0) : Type 1 where
  pub word : List ℕ
  pub spells : Care → S → List ℕ → Type 0
  pub stamp_at : List ℕ → ℕ → Result (S × ℕ) Fault
  pub spelt : S → List ℕ
  pub Fits : S → Type 0

-- a kind by its members
abbrev pub notation_of : {S : Type 0} → List ℕ → (List ℕ → ℕ → Result (S × ℕ) Fault) → (S → List ℕ) → (Care → S → List ℕ → Type 0) → (S → Type 0) → Notation S
notation_of word stamp_at spelt spells Fits = record { word = word; spells = spells; stamp_at = stamp_at; spelt = spelt; Fits = Fits }

-- a tick has 32 bits
abbrev pub ticks : Notation Tick
ticks = record { word = codes "tick"; spells = TickSpelt; stamp_at = tick_at; spelt = tick_text; Fits = λ t. t.0 < 2 ^ 32 }

-- a route has 64 aisles
abbrev pub routes : Notation Route
routes = record { word = codes "route"; spells = RouteSpelt; stamp_at = route_at; spelt = route_text; Fits = λ r. r.aisles < 2 ^ 64 }

-- a pair has two ticks, and the word of one order then another
abbrev pub pairs : Notation (Then Tick Tick)
pairs = record { word = codes "then"; spells = PairSpelt; stamp_at = pair_at; spelt = pair_text; Fits = λ p. (p.first.0 < 2 ^ 32) × (p.second.0 < 2 ^ 32) }
