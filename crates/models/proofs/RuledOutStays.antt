-- An atom once ruled out stays ruled out: whatever becomes due has a newly held atom among its positives,
-- and that one was itself due or open before.
use Rattle.std.proofs.Common.{◌≡◌, ℕ, not, ◌&&◌, ◌||◌, eqb, ◌⊎◌, List, [], ◌∷◌, Some, subst, inl, inr, ⊎_elim}
use Rattle.books.specs.Meaning.{Rule, Meaning, rule_at}
use Rattle.books.specs.Judged.{Sound, relates}
use Rattle.models.specs.Sets.{Set, Within}
use Rattle.models.specs.Verdicts.{in_book, holds, ready, due, pending, safe, ruled_out}
use Rattle.models.specs.Moves.{Move, feed, close, take, sweep, may, after, after_all, may_all, decided}
use Rattle.models.specs.Sets.{State}
use Rattle.models.proofs.TrueTests.{and_left, and_right, or_left, or_out, either, never}
use Rattle.models.proofs.ListMembers.{one_differs, some_within}
use Rattle.models.proofs.BookOrder.{Headed, related_in_book, reflexive, transitive}
use Rattle.models.proofs.VerdictFacts.{Ready, holds_in, holds_there, holds_held, holds_within, ready_out, ready_in, due_unheld, due_rule, due_in, pending_due, pending_open, pending_out, safe_due, ruled_in, ruled_unheld, ruled_none}
use Rattle.stamps.specs.Orders.{IsLawful, Tests}
use Rattle.std.specs.Bool.{IsTrue}
use Rattle.std.proofs.lemmas.Bool.{eqb-true}
use Rattle.std.specs.List.{list_all}

-- from one state to a later one: what is held stays, nothing opens, and what is newly held was due or open
pub record Grows {S : Type 0} (m : Meaning S) (s t : State) : Type 0 where
  pub kept : Within s.held t.held
  pub fewer : Within t.still_open s.still_open
  pub fresh : (a : ℕ) → IsTrue (t.held a) → IsTrue (s.held a) ⊎ IsTrue (pending m s a)

module _ {S : Type 0} {tests : Tests S} (laws : IsLawful tests) {m : Meaning S} (sound : Sound tests m) where
  module _ (s t : State) (grows : Grows m s t) where
    newly : (a : ℕ) → IsTrue (holds m t a) → (IsTrue (holds m s a) → ⊥) → IsTrue (pending m s a)
    newly a h f =
        ⊎_elim
        (λ k. absurd (f (holds_in m s a (holds_there m t a h) k)))
        (λ p. p)
        (grows.fresh a (holds_held m t a h))

    -- a rule that is ready later was ready before, or has a positive that was due or open
    ready_before : (k : ℕ) (r : Rule) → rule_at m k ≡ Some r → IsTrue (ready m t r) →
        IsTrue (ready m s r) ⊎ ((p : ℕ) × IsTrue (relates tests.not_after m p r.head) × IsTrue (pending m s p))
    ready_before k r e h =
        let now : Ready m t r = ready_out m t r h in
        ⊎_elim
        (λ all. inl (ready_in m s r (record {
          derived = now.derived;
          positives = all;
          negatives = λ n. now.negatives (some_within (holds m s) (holds m t) (holds_within m s t grows.kept) r.negatives n);
        })))
        (λ lacks.
        let one : (p : ℕ) × IsTrue (relates tests.not_after m p r.head) × IsTrue (holds m t p) × (IsTrue (holds m s p) → ⊥)
        = one_differs (λ p. IsTrue (relates tests.not_after m p r.head)) (holds m t) (holds m s) r.positives
        (sound.rules k r e).positives now.positives lacks in
        inr (one.0, one.1, newly one.0 one.2 one.3))
        (either (list_all (holds m s) r.positives))

    -- whatever is due or open later, something was due or open before that is not after it
    source : (b : ℕ) → IsTrue (in_book m b) → IsTrue (pending m t b) → (p : ℕ) × IsTrue (relates tests.not_after m p b) × IsTrue (pending m s p)
    source b there later = ⊎_elim was_due (λ o. (b, reflexive laws m b there, pending_open m s b (grows.fewer b o))) (pending_out m t b later)
      where
        was_due : IsTrue (due m t b) → (p : ℕ) × IsTrue (relates tests.not_after m p b) × IsTrue (pending m s p)
        was_due d =
            let h : Headed m b (λ r. IsTrue (ready m t r)) = due_rule m t b d in
            ⊎_elim
            (λ r. (
              b,
              reflexive laws m b there,
              pending_due m s b (due_in m s b
                  (λ k. due_unheld m t b d (holds_within m s t grows.kept b k))
                  (record { number = h.number; rule = h.rule; is = h.is; heads = h.heads; so = r })),
            ))
            (λ w. (w.0, subst (λ (c : ℕ). IsTrue (relates tests.not_after m w.0 c)) h.heads w.1, w.2))
            (ready_before h.number h.rule h.is h.so)

    -- what is ruled out is so later
    pub lasts : (a : ℕ) → IsTrue (ruled_out tests m s a) → IsTrue (ruled_out tests m t a)
    lasts a out =
        ruled_in m t tests a
        (λ h. ruled_none m s tests a out a
        (newly a h (ruled_unheld m s tests a out))
        (reflexive laws m a (holds_there m t a h)))
        (λ b p r.
        let w : (p : ℕ) × IsTrue (relates tests.not_after m p b) × IsTrue (pending m s p) = source b (related_in_book m tests.not_after b a r) p in
        ruled_none m s tests a out w.0 w.2 (transitive laws m w.0 b a w.1 r))

-- each move leads to such a later state
module _ {S : Type 0} (tests : Tests S) (m : Meaning S) (s : State) where
  -- one atom that was due or open is held more
  one_more : (x : ℕ) → IsTrue (pending m s x) → (a : ℕ) → IsTrue (s.held a || eqb x a) → IsTrue (s.held a) ⊎ IsTrue (pending m s a)
  one_more x p a t =
      ⊎_elim inl (λ e. inr (subst (λ (b : ℕ). IsTrue (pending m s b)) (eqb-true x a e) p)) (or_out (s.held a) (eqb x a) t)

  pub grows : (x : Move) → IsTrue (may tests m s x) → Grows m s (after tests m s x)
  grows (feed x) t = record {
    kept = λ a h. or_left (s.held a) (eqb x a) h;
    fewer = λ a h. and_left (s.still_open a) (not (eqb x a)) h;
    fresh = one_more x (pending_open m s x t);
  }
  grows (close x) t = record { kept = λ a h. h; fewer = λ a h. and_left (s.still_open a) (not (eqb x a)) h; fresh = λ a h. inl h }
  grows (take x) t = record {
    kept = λ a h. or_left (s.held a) (eqb x a) h;
    fewer = λ a h. h;
    fresh = one_more x (pending_due m s x (safe_due m s tests x t));
  }
  grows sweep t = record {
    kept = λ a h. or_left (s.held a) (safe tests m s a) h;
    fewer = λ a h. h;
    fresh = λ a h. ⊎_elim inl
        (λ k. inr (pending_due m s a (safe_due m s tests a k)))
        (or_out (s.held a) (safe tests m s a) h);
  }

  pub grows_decided : (R : Set) → Grows m s (decided R s)
  grows_decided R = record {
    kept = λ a h. or_left (s.held a) (s.still_open a && R a) h;
    fewer = λ a h. never h;
    fresh = λ a h. ⊎_elim inl
        (λ k. inr (pending_open m s a (and_left (s.still_open a) (R a) k)))
        (or_out (s.held a) (s.still_open a && R a) h);
  }

module _ {S : Type 0} {tests : Tests S} (laws : IsLawful tests) {m : Meaning S} (sound : Sound tests m) where
  pub lasts_all : (s : State) (xs : List Move) → IsTrue (may_all tests m s xs) → (a : ℕ) → IsTrue (ruled_out tests m s a) → IsTrue (ruled_out tests m (after_all tests m s xs) a)
  lasts_all s [] t a out = out
  lasts_all s (x ∷ xs) t a out =
      lasts_all (after tests m s x) xs (and_right (may tests m s x) (may_all tests m (after tests m s x) xs) t) a
      (lasts laws sound s (after tests m s x)
      (grows tests m s x (and_left (may tests m s x) (may_all tests m (after tests m s x) xs) t)) a out)

  pub kept_all : (s : State) (xs : List Move) → IsTrue (may_all tests m s xs) → Within s.held (after_all tests m s xs).held
  kept_all s [] t a h = h
  kept_all s (x ∷ xs) t a h =
      kept_all (after tests m s x) xs (and_right (may tests m s x) (may_all tests m (after tests m s x) xs) t) a
      ((grows tests m s x (and_left (may tests m s x) (may_all tests m (after tests m s x) xs) t)).kept a h)
