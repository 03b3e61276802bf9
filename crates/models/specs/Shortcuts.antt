-- Two tempting ways to look for blockers, and books on which they go wrong.
use Rattle.std.specs.Prelude.{◌≡◌, ℕ, Bool, false, not, ◌&&◌, [], ◌∷◌, length, Some}
use Rattle.books.specs.Meaning.{Rule, Meaning}
use Rattle.books.specs.Judged.{Sound, relates}
use Rattle.models.specs.Sets.{Set, State, some_below}
use Rattle.models.specs.Verdicts.{heads_some, ready, due, pending, safe}
use Rattle.models.specs.Stability.{ReadingsOf, Stable}
use Rattle.models.specs.Moves.{start, NothingOpen}
use Rattle.models.specs.Examples.{numbers, among, reads, derives, from}
use Rattle.std.specs.Bool.{IsTrue}
use Rattle.std.specs.List.{list_any}

-- which atoms a way to look for blockers would take, of a book in a state
abbrev pub Shortcut : Type 0
Shortcut = Meaning ℕ → State → Set

-- blockers are looked for only strictly before the negative
abbrev pub strictly : Shortcut
strictly = safe (record numbers { not_after = numbers.before })

-- some atom that is due or still open stands to the rule's head, in place of each negative, as the test says
abbrev pub blocked_by_head : (ℕ → ℕ → Bool) → Meaning ℕ → State → Rule → Bool
blocked_by_head test m s r =
    some_below (length m.atoms) (λ b. pending m s b && list_any (λ n. relates test m b r.head) r.negatives)

-- blockers are compared with the head in place of the negative
abbrev pub by_head : (ℕ → ℕ → Bool) → Shortcut
by_head test m s a =
    due m s a && heads_some m (λ r. ready m s r && not (blocked_by_head test m s r)) a

-- at the start the shortcut takes an atom that is not in the stable model of a possible outcome: a "yes" that is taken back
pub record TakesTooMuch (shortcut : Shortcut) (m : Meaning ℕ) (atom : ℕ) (readings : Set) : Type 0 where
  pub accepted : Sound numbers m
  pub takes : IsTrue (shortcut m (start m) atom)
  pub possible : ReadingsOf m readings
  pub wrong : (M : Set) → Stable m readings M → M atom ≡ false

-- nothing is open and the atom is due, and the shortcut takes nothing: the run stands still for ever
pub record StandsStill (shortcut : Shortcut) (m : Meaning ℕ) (atom : ℕ) : Type 0 where
  pub accepted : Sound numbers m
  pub all_closed : NothingOpen (start m)
  pub waits : IsTrue (due m (start m) atom)
  pub takes_nothing : some_below (length m.atoms) (shortcut m (start m)) ≡ false

-- the shortcut refuses an atom that is in the stable model of every set of readings: it waits for a reading that decides nothing
pub record WaitsForNothing (shortcut : Shortcut) (m : Meaning ℕ) (atom : ℕ) : Type 0 where
  pub accepted : Sound numbers m
  pub refuses : shortcut m (start m) atom ≡ false
  pub certain : (readings M : Set) → ReadingsOf m readings → Stable m readings M → IsTrue (M atom)

-- reading 0 at tick 1; 1 at tick 2 from not 0
abbrev pub not_reading : Meaning ℕ
not_reading = record { atoms = reads 1 ∷ derives 2 ∷ []; rules = Some (from 1 [] (0 ∷ [])) ∷ [] }

-- reading 0 and atom 1, from 0, both at tick 1; 2 at tick 2 from not 1
abbrev pub not_level : Meaning ℕ
not_level = record { atoms = reads 1 ∷ derives 1 ∷ derives 2 ∷ []; rules = Some (from 1 (0 ∷ []) []) ∷ Some (from 2 [] (1 ∷ [])) ∷ [] }

-- 0 at tick 1 without a rule; 1 at tick 2 from not 0
abbrev pub not_alone : Meaning ℕ
not_alone = record { atoms = derives 1 ∷ derives 2 ∷ []; rules = Some (from 1 [] (0 ∷ [])) ∷ [] }

-- 0 at tick 1 without a rule; reading 1 at tick 3; 2 at tick 5 from not 0
abbrev pub not_early : Meaning ℕ
not_early = record { atoms = derives 1 ∷ reads 3 ∷ derives 5 ∷ []; rules = Some (from 2 [] (0 ∷ [])) ∷ [] }

-- Both shortcuts are wrong.
-- For a planner: blockers are to be looked for up to and level with the negative, and up to nothing else.
pub record ShortcutsAreWrong : Type 0 where
  -- the negative itself is open and may still be held
  pub itself : TakesTooMuch strictly not_reading 1 (among (0 ∷ []))
  -- the negative is level with an open reading that it follows from
  pub level : TakesTooMuch strictly not_level 2 (among (0 ∷ []))
  -- a due atom is not after itself, so it blocks its own rule for ever
  pub not_after_head : StandsStill (by_head numbers.not_after) not_alone 1
  -- a reading before the head that is after the negative cannot make the negative hold
  pub before_head : WaitsForNothing (by_head numbers.before) not_early 2
