-- What is known of a repeating book that was made.
use Rattle.std.proofs.Common.{◌≡◌, ℕ, ◌+◌, ◌*◌, ◌<◌, ◌≤◌, true, nat_lt, List, length, get_or, None, length-append, arith}
use Rattle.std.specs.List.{slice_get}
use Rattle.std.specs.Option.{option_and_then}
use Rattle.std.proofs.lemmas.Bool.Decides.{nat_tests}
use Rattle.std.proofs.lemmas.List.Elements.{All-from_get_or}
use Rattle.std.proofs.lemmas.List.Folds.{list_all-append}
use Rattle.std.proofs.lemmas.List.Sums.{list_all-from_AllPass}
use Rattle.std.proofs.lemmas.Option.{slice_get-get_or}
use Rattle.books.specs.Check.{first_below}
use Rattle.books.proofs.First.{first_none}
use Rattle.makes.specs.Bodies.{body_items}
use Rattle.makes.specs.Repeats.{steps, step_fault, slots_there, pattern_fault, making_fault}
use Rattle.makes.specs.declared.patterns.Slot.{Slot}
use Rattle.makes.specs.declared.patterns.Step.{Step}
use Rattle.makes.specs.declared.patterns.Pattern.{Pattern}

-- what a step reads as beyond the end of a list
abbrev no_step : Step
no_step = record { slot = 0; back = 0 }

module _ (width k : ℕ) (p : Pattern) (fine : pattern_fault width k p ≡ None) where
  steps_fine : first_below (length (body_items p.positives) + length (body_items p.negatives)) (λ i. option_and_then (step_fault width k i) (slice_get (steps p) i)) ≡ None
  steps_fine = grind arith

  slot_there : (i : ℕ) → i < length (steps p) → nat_lt (get_or (steps p) i no_step).slot width ≡ true
  slot_there i l =
      let below : i < length (body_items p.positives) + length (body_items p.negatives) = omega (arith, length-append {A = Step}) in
      let none = first_none (λ i. option_and_then (step_fault width k i) (slice_get (steps p) i)) _ steps_fine i below in
      let at = slice_get-get_or (steps p) i no_step l in
      grind (arith, nat_tests)

  all_there : slots_there width (steps p) ≡ true
  all_there = list_all-from_AllPass _ (steps p) (All-from_get_or (λ (s : Step). nat_lt s.slot width ≡ true) (steps p) no_step slot_there)

module _ (slots : List Slot) (ticks : ℕ) (patterns : List Pattern) (made : making_fault slots ticks patterns ≡ None) where
  pub few_atoms : length slots * ticks ≤ 1024
  few_atoms = grind (arith, nat_tests)

  pub few_rules : length patterns * ticks ≤ 1024
  few_rules = grind (arith, nat_tests)

  module _ (k : ℕ) (d : Pattern) (l : k < length patterns) where
    pattern_fine : pattern_fault (length slots) k (get_or patterns k d) ≡ None
    pattern_fine =
        let none = first_none (λ k. option_and_then (pattern_fault (length slots) k) (slice_get patterns k)) (length patterns) (grind arith) k l in
        let at = slice_get-get_or patterns k d l in
        grind arith

    pub head_there : (get_or patterns k d).head < length slots
    head_there = let fine = pattern_fine in grind (arith, nat_tests)

    pub positives_there : slots_there (length slots) (body_items (get_or patterns k d).positives) ≡ true
    positives_there = let all = all_there (length slots) k (get_or patterns k d) pattern_fine in grind (arith, list_all-append)

    pub negatives_there : slots_there (length slots) (body_items (get_or patterns k d).negatives) ≡ true
    negatives_there = let all = all_there (length slots) k (get_or patterns k d) pattern_fine in grind (arith, list_all-append)

pub ruleset made_book = (few_atoms, head_there, positives_there, negatives_there)
