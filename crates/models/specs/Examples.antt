-- Small books, and what the definitions say of them. Stamps are ticks, compared as numbers, or routes as masks of aisles.
use Rattle.std.specs.Prelude.{◌≡◌, ℕ, zero, suc, true, false, cond, List, [], ◌∷◌, ◌++◌, length, Some, nat_eq}
use Rattle.stamps.specs.Orders.{Tests, tick_tests, route_tests}
use Rattle.books.specs.Meaning.{Rule, Atom, Meaning}
use Rattle.models.specs.Sets.{Set}
use Rattle.models.specs.Verdicts.{due, blocks, safe, ruled_out}
use Rattle.models.specs.Stability.{ReadingsOf, Stable}
use Rattle.models.specs.Moves.{feed, close, take, sweep, start, may, reached, model_of}
use Rattle.models.specs.Sets.{State}
use Rattle.std.specs.List.{list_any}

-- numbers as ticks
abbrev pub numbers : Tests ℕ
numbers = tick_tests (λ n. n)

-- numbers as the masks of routes
abbrev pub masks : Tests ℕ
masks = route_tests (λ n. n)

-- the set of the atoms of a list
abbrev pub among : List ℕ → Set
among xs a = list_any (λ x. nat_eq x a) xs

-- the numbers below n that are in the set, rising
abbrev pub listed : ℕ → Set → List ℕ
listed zero X = []
listed (suc n) X = listed n X ++ cond (X n) (n ∷ []) []

-- a reading with that stamp
abbrev pub reads : {S : Type 0} → S → Atom S
reads s = record { stamp = s; reading = true }

-- an atom with that stamp that is no reading
abbrev pub derives : {S : Type 0} → S → Atom S
derives s = record { stamp = s; reading = false }

-- a rule's head, positives and negatives
abbrev pub from : ℕ → List ℕ → List ℕ → Rule
from h ps ns = record { head = h; positives = ps; negatives = ns }

-- two level atoms, each the other's only positive
abbrev pub level_pair : Meaning ℕ
level_pair = record { atoms = derives 1 ∷ derives 1 ∷ []; rules = Some (from 0 (1 ∷ []) []) ∷ Some (from 1 (0 ∷ []) []) ∷ [] }

-- readings 0 and 1 at ticks 1 and 2; 2 at tick 2 from 1; 3 at tick 3 from 0 and not 2; 4 at tick 4 from 0 and not 3
abbrev pub five_atoms : Meaning ℕ
five_atoms = record {
  atoms = reads 1 ∷ reads 2 ∷ derives 2 ∷ derives 3 ∷ derives 4 ∷ [];
  rules = Some (from 2 (1 ∷ []) []) ∷ Some (from 3 (0 ∷ []) (2 ∷ [])) ∷ Some (from 4 (0 ∷ []) (3 ∷ [])) ∷ [];
}

-- a fact 0 at route {1}; 1 at {2, 3} from not 2; 2 at {2}, which has no rule; as masks the routes are 2, 12 and 4
abbrev pub three_routes : Meaning ℕ
three_routes = record { atoms = derives 2 ∷ derives 12 ∷ derives 4 ∷ []; rules = Some (from 0 [] []) ∷ Some (from 1 [] (2 ∷ [])) ∷ [] }

-- the readings have a stable model, and each one has exactly these atoms of the book
pub record ModelIs (m : Meaning ℕ) (readings atoms : List ℕ) : Type 0 where
  pub stable : Stable m (among readings) (model_of numbers m (among readings))
  pub each : (M : Set) → Stable m (among readings) M → listed (length m.atoms) M ≡ atoms

-- the book of five atoms with 0 fed
abbrev pub fed0 : State
fed0 = reached numbers five_atoms (feed 0 ∷ [])

-- and 1 closed then
abbrev pub closed1 : State
closed1 = reached numbers five_atoms (feed 0 ∷ close 1 ∷ [])

-- and a sweep after that
abbrev pub swept : State
swept = reached numbers five_atoms (feed 0 ∷ close 1 ∷ sweep ∷ [])

-- What the definitions say of these books.
-- For a planner: two atoms that only support each other are never held; a reading that is still open holds back what a "not" may depend on;
-- and an atom on another route holds back nothing.
pub record ExamplesHold : Type 0 where
  -- atoms that only support each other are in no stable model
  pub level_pair_holds_nothing : (R M : Set) → ReadingsOf level_pair R → Stable level_pair R M → listed 2 M ≡ []
  -- 0 fed and 1 closed; both fed
  pub five_with_one : ModelIs five_atoms (0 ∷ []) (0 ∷ 3 ∷ [])
  pub five_with_both : ModelIs five_atoms (0 ∷ 1 ∷ []) (0 ∷ 1 ∷ 2 ∷ 4 ∷ [])
  -- with 0 fed, 3 and 4 are due; the open reading 1 is level with 2 and so blocks the rule of 3; nothing is safe or ruled out yet
  pub due_at_first : listed 5 (due five_atoms fed0) ≡ 3 ∷ 4 ∷ []
  pub blockers_of_three : listed 5 (blocks numbers five_atoms fed0 (from 3 (0 ∷ []) (2 ∷ []))) ≡ 1 ∷ []
  pub blockers_of_four : listed 5 (blocks numbers five_atoms fed0 (from 4 (0 ∷ []) (3 ∷ []))) ≡ 1 ∷ 3 ∷ []
  pub not_yet : may numbers five_atoms fed0 (take 3) ≡ false
  pub safe_at_first : listed 5 (safe numbers five_atoms fed0) ≡ []
  pub undecided_at_first : listed 5 (ruled_out numbers five_atoms fed0) ≡ []
  -- with 1 closed, 1 and 2 are ruled out and 3 is safe; 4 still waits for 3
  pub out_then : listed 5 (ruled_out numbers five_atoms closed1) ≡ 1 ∷ 2 ∷ []
  pub safe_then : listed 5 (safe numbers five_atoms closed1) ≡ 3 ∷ []
  pub still_blocked : may numbers five_atoms closed1 (take 4) ≡ false
  -- after the sweep 0 and 3 are held, the others are ruled out, and nothing is due
  pub held_at_last : listed 5 swept.held ≡ 0 ∷ 3 ∷ []
  pub out_at_last : listed 5 (ruled_out numbers five_atoms swept) ≡ 1 ∷ 2 ∷ 4 ∷ []
  pub due_at_last : listed 5 (due five_atoms swept) ≡ []
  -- atoms on other routes do not wait for each other
  pub both_safe : listed 3 (safe masks three_routes (start three_routes)) ≡ 0 ∷ 1 ∷ []
