-- The tests of the kinds of stamps that a text can name.
use Rattle.stamps.specs.Orders.{Tests, tick_tests, route_tests, then_tests}
use Rattle.stamps.specs.declared.tick.Tick.{Tick}
use Rattle.stamps.specs.declared.route.Route.{Route}
use Rattle.stamps.specs.declared.then.Then.{Then}

-- ticks, by their numbers
abbrev pub ticks : Tests Tick
ticks = tick_tests (λ a. a.0)

-- routes, by their aisles
abbrev pub routes : Tests Route
routes = route_tests (λ a. a.aisles)

-- a tick, and then another
abbrev pub pairs : Tests (Then Tick Tick)
pairs = then_tests ticks ticks (λ a. a.first) (λ a. a.second)
