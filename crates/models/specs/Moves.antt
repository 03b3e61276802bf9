-- The moves of a run, over sets: from "nothing held, exactly the readings open", readings are fed or closed and safe atoms are taken.
use Rattle.std.specs.Prelude.{◌≡◌, ℕ, zero, suc, Bool, true, false, ◌&&◌, ◌||◌, List, [], ◌∷◌, length, ◌==◌}
use Rattle.books.specs.Meaning.{Meaning}
use Rattle.models.specs.Sets.{Set, Within, Empty, none, adding, removing, State}
use Rattle.models.specs.Verdicts.{is_reading, due, safe}
use Rattle.models.specs.Stability.{ReadingsOf}
use Rattle.std.specs.Bool.{IsTrue}
use Rattle.stamps.specs.Orders.{Tests}

-- a reading is fed or closed, a safe atom is taken, or all safe atoms are swept together
pub data Move : Type 0 where
  feed : ℕ → Move
  close : ℕ → Move
  take : ℕ → Move
  sweep : Move

-- nothing is held, and exactly the readings are open
abbrev pub start : {S : Type 0} → Meaning S → State
start m = record { held = none; still_open = is_reading m }

-- the move can be made: what is fed or closed is open, what is taken is safe, and a sweep can always be made
abbrev pub may : {S : Type 0} → Tests S → Meaning S → State → Move → Bool
may tests m s (feed a) = s.still_open a
may tests m s (close a) = s.still_open a
may tests m s (take a) = safe tests m s a
may tests m s sweep = true

-- what is held and still open after the move
abbrev pub after : {S : Type 0} → Tests S → Meaning S → State → Move → State
after tests m s (feed a) = record { held = adding a s.held; still_open = removing a s.still_open }
after tests m s (close a) = record { held = s.held; still_open = removing a s.still_open }
after tests m s (take a) = record { held = adding a s.held; still_open = s.still_open }
after tests m s sweep =
    record { held = λ a. s.held a || safe tests m s a; still_open = s.still_open }

-- the state after moves, one after the other
abbrev pub after_all : {S : Type 0} → Tests S → Meaning S → State → List Move → State
after_all tests m s [] = s
after_all tests m s (x ∷ xs) = after_all tests m (after tests m s x) xs

-- each of the moves can be made where it comes
abbrev pub may_all : {S : Type 0} → Tests S → Meaning S → State → List Move → Bool
may_all tests m s [] = true
may_all tests m s (x ∷ xs) = may tests m s x && may_all tests m (after tests m s x) xs

-- the moves of a run: each can be made where it comes, from the start on
abbrev pub Run : {S : Type 0} → Tests S → Meaning S → List Move → Type 0
Run tests m xs = IsTrue (may_all tests m (start m) xs)

-- the state that a run's moves lead to
abbrev pub reached : {S : Type 0} → Tests S → Meaning S → List Move → State
reached tests m xs = after_all tests m (start m) xs

-- so many sweeps
abbrev pub sweeps : ℕ → List Move
sweeps zero = []
sweeps (suc n) = sweep ∷ sweeps n

-- the reading that the move feeds, if it feeds one
abbrev pub feeds : Move → Set
feeds (feed x) a = x == a
feeds (close x) a = false
feeds (take x) a = false
feeds sweep a = false

-- the reading that the move closes, if it closes one
abbrev pub closes : Move → Set
closes (feed x) a = false
closes (close x) a = x == a
closes (take x) a = false
closes sweep a = false

-- the readings that the moves fed
abbrev pub fed_by : List Move → Set
fed_by [] a = false
fed_by (x ∷ xs) a = feeds x a || fed_by xs a

-- the readings that the moves closed
abbrev pub closed_by : List Move → Set
closed_by [] a = false
closed_by (x ∷ xs) a = closes x a || closed_by xs a

-- no reading is open any more
abbrev pub NothingOpen : State → Type 0
NothingOpen s = Empty s.still_open

-- no atom is due
abbrev pub NothingDue : {S : Type 0} → Meaning S → State → Type 0
NothingDue m s = Empty (due m s)

-- a possible outcome of a run: a set of readings with all the fed and none of the closed
pub record Outcome {S : Type 0} (m : Meaning S) (moves : List Move) (readings : Set) : Type 0 where
  pub readings_only : ReadingsOf m readings
  pub fed : Within (fed_by moves) readings
  pub none_closed : (a : ℕ) → IsTrue (closed_by moves a) → readings a ≡ false

-- all that is still open is decided at once: held where it is in the set, and closed where it is not
abbrev pub decided : Set → State → State
decided readings s = record { held = λ a. s.held a || s.still_open a && readings a; still_open = none }

-- the stable model, computed: decide every reading, then sweep as often as there are atoms
abbrev pub model_of : {S : Type 0} → Tests S → Meaning S → Set → Set
model_of tests m readings = (after_all tests m (decided readings (start m)) (sweeps (length m.atoms))).held
