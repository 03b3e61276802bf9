-- Stamps as the grammar has them.
use Rattle.std.specs.Prelude.{◌≡◌, ℕ, ◌+◌, ◌^◌, ◌≤◌, List, [], ◌∷◌, codes, bit_or}
use Rattle.stamps.specs.declared.tick.Tick.{Tick}
use Rattle.stamps.specs.declared.route.Route.{Route}
use Rattle.stamps.specs.declared.then.Then.{Then}
use Rattle.grammar.specs.Pieces.{Care, Kept, Exactly, Followed, largest, Numeral, Listed}

-- a tick is its number
abbrev pub TickSpelt : Care → Tick → List ℕ → Type 0
TickSpelt c t = Numeral c largest t.0

-- two ticks in brackets
abbrev pub PairSpelt : Care → Then Tick Tick → List ℕ → Type 0
PairSpelt c p =
    Followed (Exactly (codes "(")) (Followed (TickSpelt c p.first) (Followed (Exactly (codes " ")) (Followed (TickSpelt c p.second) (Exactly (codes ")")))))

-- each number is the least one or more, and below those after it
abbrev pub RisingFrom : ℕ → List ℕ → Type 0
RisingFrom least [] = Unit {0}
RisingFrom least (k ∷ ks) = (least ≤ k) × RisingFrom (k + 1) ks

-- the mask with these aisles besides
abbrev pub with_aisles : ℕ → List ℕ → ℕ
with_aisles mask [] = mask
with_aisles mask (k ∷ ks) = with_aisles (bit_or mask (2 ^ k)) ks

-- a route is the list of its aisles, rising
pub record RouteSpelt (c : Care) (r : Route) (text : List ℕ) : Type 0 where
  pub aisles : List ℕ
  pub listed : Listed c 63 aisles text
  pub rising : Kept c (RisingFrom 0 aisles)
  pub means : r.aisles ≡ with_aisles 0 aisles
