-- What holds of every book that the check accepts. The tests `before` and `not_after` are those of any order that keeps the laws.
use Rattle.std.specs.Prelude.{◌≡◌, ℕ, false, ◌||◌, List, ◌++◌, length}
use Rattle.books.specs.Meaning.{Meaning}
use Rattle.books.specs.Judged.{Sound}
use Rattle.models.specs.Sets.{Set, Within, Same}
use Rattle.models.specs.Verdicts.{due, safe, ruled_out}
use Rattle.models.specs.Stability.{ReadingsOf, Stable}
use Rattle.models.specs.Moves.{Move, after_all, Run, reached, sweeps, fed_by, Outcome, NothingOpen, NothingDue, model_of}
use Rattle.models.specs.Sets.{State}
use Rattle.stamps.specs.Orders.{Tests}
use Rattle.std.specs.Bool.{IsTrue}

-- the computed model is stable for the readings, and no other set is
pub record OneModel {S : Type 0} (tests : Tests S) (m : Meaning S) (readings : Set) : Type 0 where
  pub stable : Stable m readings (model_of tests m readings)
  pub only : (M : Set) → Stable m readings M → Same M (model_of tests m readings)

-- Every set of readings of the book has exactly one stable model.
-- For a planner: once it is known which readings come, the book says of each atom yes or no, and never two things.
abbrev pub EachHasOneModel : {S : Type 0} → Tests S → Type 0
EachHasOneModel {S} tests = (m : Meaning S) → Sound tests m → (readings : Set) → ReadingsOf m readings → OneModel tests m readings

-- An atom that is ruled out after some moves is ruled out after any moves that follow.
-- For a crew: a "no" that was told is kept, whatever is fed, closed or taken later.
abbrev pub RuledOutLasts : {S : Type 0} → Tests S → Type 0
RuledOutLasts {S} tests =
    (m : Meaning S) → Sound tests m → (moves more : List Move) → Run tests m (moves ++ more) → (a : ℕ) →
    IsTrue (ruled_out tests m (reached tests m moves) a) → IsTrue (ruled_out tests m (reached tests m (moves ++ more)) a)

-- Whichever of the open readings come, they and the fed ones are a possible outcome.
-- For a planner: of an open reading nothing is known yet, and there is always an outcome that what is told must be right for.
abbrev pub OpenMayCome : {S : Type 0} → Tests S → Type 0
OpenMayCome {S} tests =
    (m : Meaning S) → Sound tests m → (moves : List Move) → Run tests m moves → (come : Set) →
    Within come (reached tests m moves).still_open → Outcome m moves (λ a. fed_by moves a || come a)

-- what the state says of a set M: all that is held is in M, and nothing that is ruled out is
pub record TrueOf {S : Type 0} (tests : Tests S) (m : Meaning S) (s : State) (M : Set) : Type 0 where
  pub held : Within s.held M
  pub out : (a : ℕ) → IsTrue (ruled_out tests m s a) → M a ≡ false

-- After any moves of a run, and for every set of readings with all the fed and none of the closed: each held atom is in its stable model, and no ruled out atom is.
-- For a crew: what is held or ruled out while readings are still open is right however these turn out, so a shuttle may move on it.
abbrev pub NothingTakenBack : {S : Type 0} → Tests S → Type 0
NothingTakenBack {S} tests =
    (m : Meaning S) → Sound tests m → (moves : List Move) → Run tests m moves → (readings M : Set) →
    Outcome m moves readings → Stable m readings M → TrueOf tests m (reached tests m moves) M

-- With nothing open, whatever is held: if some atom is due, some atom is safe.
-- For a crew: once the last reading is fed or closed, work never stands still with something left to do.
abbrev pub DueGivesSafe : {S : Type 0} → Tests S → Type 0
DueGivesSafe {S} tests =
    (m : Meaning S) → Sound tests m → (s : State) → NothingOpen s →
    (a : ℕ) → IsTrue (due m s a) → (b : ℕ) × IsTrue (safe tests m s b)

-- With nothing open, whatever is held: after as many sweeps as there are atoms, nothing is due.
-- For a planner: no more sweeps are ever needed than the book has atoms.
abbrev pub SweepingEnds : {S : Type 0} → Tests S → Type 0
SweepingEnds {S} tests =
    (m : Meaning S) → Sound tests m → (s : State) → NothingOpen s → NothingDue m (after_all tests m s (sweeps (length m.atoms)))

-- how a run ends: in the stable model of what it fed, as does every other run that fed the same
pub record EndsInModel {S : Type 0} (tests : Tests S) (m : Meaning S) (moves : List Move) : Type 0 where
  pub model : Stable m (fed_by moves) (reached tests m moves).held
  pub same : (others : List Move) → Run tests m others → NothingOpen (reached tests m others) → NothingDue m (reached tests m others) →
      Same (fed_by others) (fed_by moves) → Same (reached tests m others).held (reached tests m moves).held

-- A run with nothing due and nothing open holds exactly the stable model of the readings that it fed.
-- For a planner: the order in which readings come and atoms are taken or swept makes no difference to where a run ends.
abbrev pub EndIsModel : {S : Type 0} → Tests S → Type 0
EndIsModel {S} tests =
    (m : Meaning S) → Sound tests m → (moves : List Move) → Run tests m moves →
    NothingOpen (reached tests m moves) → NothingDue m (reached tests m moves) → EndsInModel tests m moves
