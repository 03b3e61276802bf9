-- A book that repeats its slots and its pattern rules every tick.
use Rattle.std.specs.Prelude.{ℕ, zero, suc, ◌+◌, ◌-◌, ◌*◌, Bool, cond, ◌&&◌, ◌||◌, List, [], ◌++◌, map, length, Some, Option, nat_le, nat_lt}
use Rattle.std.specs.List.{slice_get, list_all}
use Rattle.std.specs.Option.{option_map, option_and_then}
use Rattle.std.specs.Bool.{then_some}
use Rattle.stamps.specs.declared.then.Then.{Then}
use Rattle.stamps.specs.declared.tick.Tick.{Tick}
use Rattle.books.specs.Meaning.{Rule, Atom, Meaning}
use Rattle.books.specs.Check.{first_below}
use Rattle.books.specs.declared.fault.CheckFault.TheVariants.{TooLarge}
use Rattle.books.specs.declared.fault.MakeFault.{MakeFault}
use Rattle.books.specs.declared.fault.MakeFault.TheVariants.{SlotMissing}
use Rattle.books.specs.declared.fault.Fault.{Fault}
use Rattle.books.specs.declared.fault.Fault.TheVariants.{Checking, Making}
use Rattle.makes.specs.Bodies.{body_items}
use Rattle.makes.specs.Flats.{rule_by}
use Rattle.makes.specs.declared.patterns.Slot.{Slot}
use Rattle.makes.specs.declared.patterns.Step.{Step}
use Rattle.makes.specs.declared.patterns.Pattern.{Pattern}

-- the list once for each tick below the number: with W items, item s of tick t stands at t × W + s
abbrev pub every_tick : {X Y : Type 0} → (ℕ → X → Y) → List X → ℕ → List Y
every_tick f items zero = []
every_tick f items (suc t) = every_tick f items t ++ map (f t) items

-- a slot at tick t has the stamp (t, stage)
abbrev pub slot_atom : ℕ → Slot → Atom (Then Tick Tick)
slot_atom t s = record { stamp = record { first = record { 0 = t }; second = record { 0 = s.stage } }; reading = s.reading }

-- none of the steps from tick t falls before tick 0
abbrev pub started_by : ℕ → List Step → Bool
started_by t = list_all (λ s. nat_le s.back t)

-- the slots of the steps are among so many
abbrev pub slots_there : ℕ → List Step → Bool
slots_there width = list_all (λ s. nat_lt s.slot width)

-- the atom of a step from tick t, with so many slots
abbrev pub atom_back : ℕ → ℕ → Step → ℕ
atom_back width t s = (t - s.back) * width + s.slot

-- what a pattern is at tick t: a rule, or vacant where any body atom would fall before tick 0
abbrev pub instance_of : ℕ → ℕ → Pattern → Option Rule
instance_of width t p =
    then_some (started_by t (body_items p.positives) && started_by t (body_items p.negatives))
    (rule_by (t * width + p.head) (map (atom_back width t) (body_items p.positives)) (map (atom_back width t) (body_items p.negatives)))

-- each slot and each pattern at each tick, tick by tick
abbrev pub repeating_meaning : List Slot → ℕ → List Pattern → Meaning (Then Tick Tick)
repeating_meaning slots ticks patterns = record { atoms = every_tick slot_atom slots ticks; rules = every_tick (instance_of (length slots)) patterns ticks }

-- a pattern's steps, positives first
abbrev pub steps : Pattern → List Step
steps p = body_items p.positives ++ body_items p.negatives

-- a step is at fault if its slot is not there or it goes more than 3 ticks back
abbrev pub step_fault : ℕ → ℕ → ℕ → Step → Option MakeFault
step_fault width k i s = then_some (nat_le width s.slot || nat_lt 3 s.back) (SlotMissing k (i + 1))

-- the first fault of pattern k: its head, then its steps
abbrev pub pattern_fault : ℕ → ℕ → Pattern → Option MakeFault
pattern_fault width k p =
    cond (nat_le width p.head) (Some (SlotMissing k 0))
    (first_below (length (body_items p.positives) + length (body_items p.negatives)) (λ i. option_and_then (step_fault width k i) (slice_get (steps p) i)))

-- the first fault of the patterns in order
abbrev pub patterns_fault : ℕ → List Pattern → Option MakeFault
patterns_fault width patterns = first_below (length patterns) (λ k. option_and_then (pattern_fault width k) (slice_get patterns k))

-- why a repeating book is not made: too many atoms or rule numbers, then the first pattern that is at fault
abbrev pub making_fault : List Slot → ℕ → List Pattern → Option Fault
making_fault slots ticks patterns =
    cond (nat_lt 1024 (length slots * ticks) || nat_lt 1024 (length patterns * ticks)) (Some (Checking TooLarge))
    (option_map Making (patterns_fault (length slots) patterns))
