-- The examples, by computing.
use Rattle.std.proofs.Common.{◌≡◌, ℕ, zero, suc, false, ◌||◌, eqb, leb, List, [], ◌∷◌, length, refl, ap, ◌∙◌, subst, ⊎_elim}
use mathlib.Core.Path.{fun_ext}
use Rattle.stamps.specs.Aisles.{part_of}
use Rattle.books.specs.Meaning.{Meaning}
use Rattle.books.specs.Judged.{Sound}
use Rattle.models.specs.Sets.{Set}
use Rattle.models.specs.Verdicts.{is_reading, ready, due, pending, blocks, blocked, safe, awaited, ruled_out}
use Rattle.models.specs.Stability.{ReadingsOf, Stable}
use Rattle.models.specs.Moves.{take, model_of}
use Rattle.models.specs.Examples.{numbers, among, listed, level_pair, five_atoms, ModelIs, ExamplesHold}
use Rattle.models.specs.Shortcuts.{not_reading, not_level, not_alone, not_early, ShortcutsAreWrong}
use Rattle.models.proofs.TrueTests.{or_out, never}
use Rattle.models.proofs.SoundByTest.{ticks, each_rule, fits, sound_by}
use Rattle.models.proofs.OneModel.{unique}
use Rattle.models.proofs.SettledIsModel.{model_stable, held_in_model}
use Rattle.std.specs.Bool.{IsTrue}
use Rattle.std.proofs.lemmas.Bool.{leb-true, eqb-true}

-- a book's stable model is the computed one
is_computed : (m : Meaning ℕ) → Sound numbers m → (R M : Set) → ReadingsOf m R → Stable m R M → M ≡ model_of numbers m R
is_computed m sound R M readings stable =
    fun_ext (unique ticks sound R M (model_of numbers m R) readings stable (model_stable ticks sound R readings))

-- a list of readings
one_reading : (m : Meaning ℕ) (x : ℕ) → IsTrue (is_reading m x) → ReadingsOf m (among (x ∷ []))
one_reading m x t a h = ⊎_elim (λ e. subst (λ (b : ℕ). IsTrue (is_reading m b)) (eqb-true x a e) t) (λ f. never f) (or_out (eqb x a) false h)

two_readings : (m : Meaning ℕ) (x y : ℕ) → IsTrue (is_reading m x) → IsTrue (is_reading m y) → ReadingsOf m (among (x ∷ y ∷ []))
two_readings m x y t u a h =
    ⊎_elim (λ e. subst (λ (b : ℕ). IsTrue (is_reading m b)) (eqb-true x a e) t) (one_reading m y u a) (or_out (eqb x a) (eqb y a || false) h)

accepted : (m : Meaning ℕ) → IsTrue (leb (length m.atoms) 1024) → IsTrue (leb (length m.rules) 1024) → IsTrue (each_rule (fits numbers m) m.rules) → Sound numbers m
accepted m a r t = sound_by numbers m (leb-true (length m.atoms) 1024 a) (leb-true (length m.rules) 1024 r) t

-- the readings' models are the computed one, whose atoms are these
model_is : (m : Meaning ℕ) (readings atoms : List ℕ) → Sound numbers m → ReadingsOf m (among readings) → listed (length m.atoms) (model_of numbers m (among readings)) ≡ atoms → ModelIs m readings atoms
model_is m readings atoms sound only e = record {
  stable = model_stable ticks sound (among readings) only;
  each = λ M stable. ap (listed (length m.atoms)) (is_computed m sound (among readings) M only stable) ∙ e;
}

pub examples_hold_lem : ExamplesHold
unfolding ready due pending blocks blocked safe awaited ruled_out part_of
examples_hold_lem = record {
  level_pair_holds_nothing = λ R M readings stable. ap (listed 2) (is_computed level_pair (accepted level_pair refl refl refl) R M readings stable);
  five_with_one = model_is five_atoms (0 ∷ []) (0 ∷ 3 ∷ []) (accepted five_atoms refl refl refl) (one_reading five_atoms 0 refl) refl;
  five_with_both = model_is five_atoms (0 ∷ 1 ∷ []) (0 ∷ 1 ∷ 2 ∷ 4 ∷ []) (accepted five_atoms refl refl refl) (two_readings five_atoms 0 1 refl refl) refl;
  due_at_first = refl;
  blockers_of_three = refl;
  blockers_of_four = refl;
  not_yet = refl;
  safe_at_first = refl;
  undecided_at_first = refl;
  out_then = refl;
  safe_then = refl;
  still_blocked = refl;
  held_at_last = refl;
  out_at_last = refl;
  due_at_last = refl;
  both_safe = refl;
}

none_open : (a : ℕ) → is_reading not_alone a ≡ false
none_open zero = refl
none_open (suc zero) = refl
none_open (suc (suc a)) = refl

pub shortcuts_are_wrong_lem : ShortcutsAreWrong
unfolding ready due pending blocks blocked safe awaited ruled_out
shortcuts_are_wrong_lem = record {
  itself = record {
    accepted = accepted not_reading refl refl refl;
    takes = refl;
    possible = one_reading not_reading 0 refl;
    wrong = λ M stable. ap (λ (X : Set). X 1) (is_computed not_reading (accepted not_reading refl refl refl) (among (0 ∷ [])) M (one_reading not_reading 0 refl) stable);
  };
  level = record {
    accepted = accepted not_level refl refl refl;
    takes = refl;
    possible = one_reading not_level 0 refl;
    wrong = λ M stable. ap (λ (X : Set). X 2) (is_computed not_level (accepted not_level refl refl refl) (among (0 ∷ [])) M (one_reading not_level 0 refl) stable);
  };
  not_after_head = record { accepted = accepted not_alone refl refl refl; all_closed = none_open; waits = refl; takes_nothing = refl };
  before_head = record {
    accepted = accepted not_early refl refl refl;
    refuses = refl;
    certain = λ R M readings stable.
        held_in_model ticks (accepted not_early refl refl refl) (take 2 ∷ []) refl R M
        (record { readings_only = readings; fed = λ a f. never f; none_closed = λ a f. never f }) stable 2 refl;
  };
}
