-- With nothing due the held set is the stable model of the fed readings, and every possible outcome can be played to such an end.
use Rattle.std.proofs.Common.{◌≡◌, ℕ, zero, suc, Bool, true, false, ◌&&◌, ◌||◌, List, [], ◌∷◌, length, sym, refl, ◌∙◌, subst, inl, inr, ⊎_elim}
use mathlib.Core.Path.{fun_ext}
use Rattle.books.specs.Meaning.{Meaning}
use Rattle.books.specs.Judged.{Sound}
use Rattle.models.specs.Sets.{Set, Within, Same, none}
use Rattle.models.specs.Verdicts.{in_book, holds, due, ruled_out}
use Rattle.models.specs.Stability.{ReadingsOf, Closed, Stable}
use Rattle.models.specs.Moves.{Move, start, after, after_all, may_all, reached, sweeps, feeds, closes, fed_by, closed_by, Outcome, decided, NothingDue, model_of}
use Rattle.models.specs.Sets.{State}
use Rattle.std.proofs.Math.Bool.{or_assoc}
use Rattle.std.proofs.lemmas.Bool.{false_from_ne_true, true_from_ne_false}
use Rattle.models.proofs.TrueTests.{and_in, and_right, or_left, or_right, or_out, false_out, never}
use Rattle.models.proofs.ListMembers.{every_within, none_of, some_within}
use Rattle.models.proofs.BookOrder.{reading_in_book, derived_in_book}
use Rattle.models.proofs.ClosedByRules.{closed_in, closed_out}
use Rattle.models.proofs.OneModel.{head_derived, unique}
use Rattle.models.proofs.VerdictFacts.{holds_in, holds_held, ready_in, due_in, ruled_unheld}
use Rattle.models.proofs.RuledOutStays.{lasts, lasts_all, kept_all, grows_decided}
use Rattle.models.proofs.HeldIsFounded.{Founded, Covered, union, grounded_more, open_goes, founded_all, founded_start, founded_run}
use Rattle.models.proofs.SafeFromDue.{may_sweep, sweeping_ends_lem}
use Rattle.stamps.specs.Orders.{IsLawful, Tests}
use Rattle.std.specs.Bool.{IsTrue}

module _ {S : Type 0} {tests : Tests S} (laws : IsLawful tests) {m : Meaning S} (sound : Sound tests m) where
  -- what is held is in the book
  pub held_in_book_lem : (s : State) (fed : Set) → Founded tests m s fed → Within s.held (in_book m)
  held_in_book_lem s fed f =
      f.grounded (in_book m) (λ a h. reading_in_book m a (f.readings a h))
      (λ k r e ps ns. derived_in_book m r.head (head_derived laws sound k r e))

  -- what is ruled out is not held
  pub out_unheld : (s : State) (fed : Set) → Founded tests m s fed → (a : ℕ) → IsTrue (ruled_out tests m s a) → IsTrue (s.held a) → ⊥
  out_unheld s fed f a out h = ruled_unheld m s tests a out (holds_in m s a (held_in_book_lem s fed f a h) h)

  -- with nothing due, what is held is closed under what it leaves of the rules
  held_closed : (s : State) (fed : Set) → Founded tests m s fed → NothingDue m s → Closed m s.held s.held
  held_closed s fed f idle = closed_in m s.held s.held (λ k r e ps ns. true_from_ne_false (s.held r.head) (λ unheld.
      false_out (due m s r.head) (idle r.head)
      (due_in m s r.head
      (λ h. false_out (s.held r.head) unheld (holds_held m s r.head h))
      (record {
        number = k;
        rule = r;
        is = e;
        heads = refl;
        so = ready_in m s r (record {
          derived = head_derived laws sound k r e;
          positives = every_within s.held (holds m s) (λ a h. holds_in m s a (held_in_book_lem s fed f a h) h) r.positives ps;
          negatives = λ n. ns (some_within (holds m s) s.held (holds_held m s) r.negatives n);
        });
      }))))

  -- with nothing due, what is held is the stable model of the fed readings
  pub stable_end : (s : State) (fed : Set) → Founded tests m s fed → NothingDue m s → Stable m fed s.held
  stable_end s fed f idle = record {
    has = f.fed_held;
    closed = held_closed s fed f idle;
    least = λ X has closed. f.grounded X has (λ k r e ps ns.
        closed_out m s.held X closed k r e ps (none_of (ruled_out tests m s) s.held (out_unheld s fed f) r.negatives ns));
  }

  covered_all : (s : State) (fed closed : Set) (xs : List Move) → Covered m s fed closed → Covered m (after_all tests m s xs) (union fed (fed_by xs)) (union closed (closed_by xs))
  covered_all s fed closed [] c a r =
      ⊎_elim inl (λ w. inr (⊎_elim (λ h. inl (or_left (fed a) false h)) (λ h. inr (or_left (closed a) false h)) w)) (c a r)
  covered_all s fed closed (x ∷ xs) c a r =
      ⊎_elim inl
      (λ w. inr (⊎_elim
      (λ h. inl (subst IsTrue (or_assoc (fed a) (feeds x a) (fed_by xs a)) h))
      (λ h. inr (subst IsTrue (or_assoc (closed a) (closes x a) (closed_by xs a)) h))
      w))
      (covered_all (after tests m s x) (union fed (feeds x)) (union closed (closes x)) xs step a r)
    where
      step : Covered m (after tests m s x) (union fed (feeds x)) (union closed (closes x))
      step b q =
          ⊎_elim
          (λ o. ⊎_elim inl
          (λ w. inr (⊎_elim (λ h. inl (or_right (fed b) (feeds x b) h)) (λ h. inr (or_right (closed b) (closes x b) h)) w))
          (open_goes tests m s x b o))
          (λ w. inr (⊎_elim (λ h. inl (or_left (fed b) (feeds x b) h)) (λ h. inr (or_left (closed b) (closes x b) h)) w))
          (c b q)

  -- each reading is open, fed or closed after a run's moves
  covered_run : (xs : List Move) → Covered m (reached tests m xs) (fed_by xs) (closed_by xs)
  covered_run xs = covered_all (start m) none none xs (λ a r. inl r)

  -- deciding what is open by a possible outcome gives a state founded on that outcome
  founded_decided : (s : State) (fed closed R : Set) → Founded tests m s fed → Covered m s fed closed → ReadingsOf m R → Within fed R →
      ((a : ℕ) → IsTrue (closed a) → R a ≡ false) → Founded tests m (decided R s) R
  founded_decided s fed closed R f c readings all none-closed = record {
    opens = λ a o. never o;
    readings = readings;
    fed_held = λ a h. ⊎_elim
        (λ o. or_right (s.held a) (s.still_open a && R a) (and_in (s.still_open a) (R a) o h))
        (⊎_elim
        (λ g. or_left (s.held a) (s.still_open a && R a) (f.fed_held a g))
        (λ g. absurd (false_out (R a) (none-closed a g) h)))
        (c a (readings a h));
    grounded = grounded_more tests m s (decided R s) fed R
        (lasts laws sound s (decided R s) (grows_decided tests m s R)) all
        (λ a h. ⊎_elim inl (λ g. inr (inl (and_right (s.still_open a) (R a) g))) (or_out (s.held a) (s.still_open a && R a) h))
        f.grounded;
  }

  -- what the state comes to where the outcome is R: what is open is decided, then everything is swept
  abbrev pub played : State → Set → State
  played s R = after_all tests m (decided R s) (sweeps (length m.atoms))

  fed_nothing : (n : ℕ) (a : ℕ) → fed_by (sweeps n) a ≡ false
  fed_nothing zero a = refl
  fed_nothing (suc n) a = fed_nothing n a

  founded_played : (s : State) (R : Set) → Founded tests m (decided R s) R → Founded tests m (played s R) R
  founded_played s R f =
      subst (Founded tests m (played s R)) (fun_ext (λ a. dropped (R a) (fed_by (sweeps (length m.atoms)) a) (fed_nothing (length m.atoms) a)))
      (founded_all laws sound (decided R s) R (sweeps (length m.atoms)) (may_sweep tests m (length m.atoms) (decided R s)) f)
    where
      dropped : (x y : Bool) → y ≡ false → (x || y) ≡ x
      dropped true y e = refl
      dropped false y e = e

  -- that end is a stable model of the outcome
  stable_played : (s : State) (R : Set) → Founded tests m (decided R s) R → Stable m R (played s R).held
  stable_played s R f = stable_end (played s R) R (founded_played s R f) (sweeping_ends_lem laws sound (decided R s) (λ a. refl))

  -- a set of readings has a stable model: the computed one
  pub model_stable : (R : Set) → ReadingsOf m R → Stable m R (model_of tests m R)
  model_stable R readings =
      stable_played (start m) R
      (founded_decided (start m) none none R (founded_start laws sound) (λ a r. inl r) readings (λ a h. never h) (λ a h. never h))

  module _ (xs : List Move) (run : IsTrue (may_all tests m (start m) xs)) (R M : Set) (outcome : Outcome m xs R) (stable : Stable m R M) where
    -- where the run stands
    abbrev pub now : State
    now = reached tests m xs

    decided_now : Founded tests m (decided R now) R
    decided_now =
        founded_decided now (fed_by xs) (closed_by xs) R (founded_run laws sound xs run) (covered_run xs)
        outcome.readings_only outcome.fed outcome.none_closed

    is_played : Same M (played now R).held
    is_played = unique laws sound R M (played now R).held outcome.readings_only stable (stable_played now R decided_now)

    sweeping : IsTrue (may_all tests m (decided R now) (sweeps (length m.atoms)))
    sweeping = may_sweep tests m (length m.atoms) (decided R now)

    -- what is held is in the outcome's model
    pub held_in_model : Within now.held M
    held_in_model a h =
        subst IsTrue (sym (is_played a))
        (kept_all laws sound (decided R now) (sweeps (length m.atoms)) sweeping a ((grows_decided tests m now R).kept a h))

    -- what is ruled out is not in it
    pub out_of_model : (a : ℕ) → IsTrue (ruled_out tests m now a) → M a ≡ false
    out_of_model a out =
        is_played a ∙
        false_from_ne_true ((played now R).held a)
        (out_unheld (played now R) R (founded_played now R decided_now) a
        (lasts_all laws sound (decided R now) (sweeps (length m.atoms)) sweeping a
        (lasts laws sound now (decided R now) (grows_decided tests m now R) a out)))
