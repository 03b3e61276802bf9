-- With nothing open, something due gives something safe, and sweeping comes to an end.
use Rattle.std.proofs.Common.{◌≡◌, ℕ, zero, suc, ◌<◌, ◌≤◌, not, length, Some, subst, ⊎_elim, not-suc-le-zero, arith, refl}
use Rattle.books.specs.Meaning.{Rule, Meaning, rule_at}
use Rattle.books.specs.Judged.{Sound, relates}
use Rattle.models.specs.Sets.{some_below}
use Rattle.models.specs.Verdicts.{in_book, holds, ready, due, pending, blocked, safe, ruled_out}
use Rattle.models.specs.Moves.{sweep, after, after_all, may_all, sweeps, NothingOpen, NothingDue}
use Rattle.models.specs.Sets.{State}
use Rattle.std.proofs.lemmas.Bool.{false_from_ne_true}
use Rattle.models.proofs.TrueTests.{or_right, not_in, not_out, either, false_out}
use Rattle.models.proofs.ListMembers.{some_with, below_in, below_out}
use Rattle.models.proofs.SetCounts.{count_below, count_less, count_top, count_some}
use Rattle.models.proofs.BookOrder.{Headed, place, derived_in_book, reflexive, strict_right, depth, deeper}
use Rattle.models.proofs.VerdictFacts.{holds_in, holds_within, ready_out, due_unheld, due_rule, pending_due, pending_out, blocked_out, safe_due, safe_in, unblocked_in, ruled_in, ruled_none}
use Rattle.models.proofs.RuledOutStays.{grows, lasts_all, kept_all}
use Rattle.stamps.specs.Orders.{IsLawful, Tests}
use Rattle.std.specs.Bool.{IsTrue}
use Rattle.std.specs.List.{list_any}

-- a due atom is in the book
pub due_in_book : {S : Type 0} (m : Meaning S) (s : State) (a : ℕ) → IsTrue (due m s a) → IsTrue (in_book m a)
due_in_book m s a t =
    let h : Headed m a (λ r. IsTrue (ready m s r)) = due_rule m s a t in
    subst (λ (b : ℕ). IsTrue (in_book m b)) h.heads (derived_in_book m h.rule.head (ready_out m s h.rule h.so).derived)

-- a sweep can always be made
pub may_sweep : {S : Type 0} (tests : Tests S) (m : Meaning S) (n : ℕ) (s : State) → IsTrue (may_all tests m s (sweeps n))
may_sweep tests m zero s = refl
may_sweep tests m (suc n) s = may_sweep tests m n (after tests m s sweep)

module _ {S : Type 0} {tests : Tests S} (laws : IsLawful tests) {m : Meaning S} (sound : Sound tests m) where
  -- with nothing open, what blocks a rule is due and before the rule's head
  blocker_before : (s : State) → NothingOpen s → (k : ℕ) (r : Rule) → rule_at m k ≡ Some r → IsTrue (blocked tests m s r) →
      (b : ℕ) × IsTrue (due m s b) × IsTrue (relates tests.before m b r.head)
  blocker_before s shut k r e t =
      let w : (b : ℕ) × IsTrue (pending m s b) × IsTrue (list_any (relates tests.not_after m b) r.negatives) = blocked_out m s tests r t in
      let n : (n : ℕ) × IsTrue (relates tests.before m n r.head) × IsTrue (relates tests.not_after m w.0 n)
      = some_with (λ n. IsTrue (relates tests.before m n r.head)) (relates tests.not_after m w.0) r.negatives (sound.rules k r e).negatives w.2 in (
        w.0,
        ⊎_elim (λ d. d) (λ o. absurd (false_out (s.still_open w.0) (shut w.0) o)) (pending_out m s w.0 w.1),
        strict_right laws m w.0 n.0 r.head n.2 n.1,
      )

  safe_below : (s : State) → NothingOpen s → (n a : ℕ) → depth laws m a < n → IsTrue (due m s a) → (b : ℕ) × IsTrue (safe tests m s b)
  safe_below s shut zero a l t = absurd (not-suc-le-zero l)
  safe_below s shut (suc n) a l t =
      let h : Headed m a (λ r. IsTrue (ready m s r)) = due_rule m s a t in
      ⊎_elim
      (λ blocks.
      let b : (b : ℕ) × IsTrue (due m s b) × IsTrue (relates tests.before m b h.rule.head) = blocker_before s shut h.number h.rule h.is blocks in
      let q : depth laws m b.0 < depth laws m a = deeper laws m b.0 a (subst (λ (c : ℕ). IsTrue (relates tests.before m b.0 c)) h.heads b.2) in
      safe_below s shut n b.0 (omega arith) b.1)
      (λ free. (
        a,
        safe_in m s tests a t (record {
          number = h.number;
          rule = h.rule;
          is = h.is;
          heads = h.heads;
          so = unblocked_in m s tests h.rule h.so free;
        }),
      ))
      (either (blocked tests m s h.rule))

  -- with nothing open, something due gives something safe
  pub something_safe : (s : State) → NothingOpen s → (a : ℕ) → IsTrue (due m s a) → (b : ℕ) × IsTrue (safe tests m s b)
  something_safe s shut a t = safe_below s shut (suc (depth laws m a)) a (omega arith) t

  -- with nothing open and nothing due, sweeps make nothing due
  stays_done : (s : State) → NothingOpen s → NothingDue m s → (n : ℕ) → NothingDue m (after_all tests m s (sweeps n))
  stays_done s shut idle n a = false_from_ne_true (due m end a) (λ d.
      ruled_none m end tests a
      (lasts_all laws sound s (sweeps n) (may_sweep tests m n s) a (out d)) a
      (pending_due m end a d)
      (reflexive laws m a (due_in_book m end a d)))
    where
      end : State
      end = after_all tests m s (sweeps n)

      out : IsTrue (due m end a) → IsTrue (ruled_out tests m s a)
      out d = ruled_in m s tests a
          (λ h. due_unheld m end a d (holds_within m s end (kept_all laws sound s (sweeps n) (may_sweep tests m n s)) a h))
          (λ b p r. ⊎_elim (false_out (due m s b) (idle b)) (false_out (s.still_open b) (shut b)) (pending_out m s b p))

  -- how many atoms of the book are not held
  abbrev unheld : State → ℕ
  unheld s = count_below (length m.atoms) (λ a. not (holds m s a))

  -- with nothing open and something due, a sweep holds more
  holds_more : (s : State) → NothingOpen s → (a : ℕ) → IsTrue (due m s a) → unheld (after tests m s sweep) < unheld s
  holds_more s shut a d =
      let b : (b : ℕ) × IsTrue (safe tests m s b) = something_safe s shut a d in
      let bd : IsTrue (due m s b.0) = safe_due m s tests b.0 b.1 in
      let there : IsTrue (in_book m b.0) = due_in_book m s b.0 bd in
      let next : State = after tests m s sweep in
      count_less (length m.atoms) (λ c. not (holds m next c)) (λ c. not (holds m s c))
      (λ c n. not_in (holds m s c) (λ h. not_out (holds m next c) n
      (holds_within m s next (grows tests m s sweep refl).kept c h)))
      b.0 (place m b.0 there)
      (not_in (holds m s b.0) (due_unheld m s b.0 bd))
      (λ n. not_out (holds m next b.0) n
      (holds_in m next b.0 there (or_right (s.held b.0) (safe tests m s b.0) b.1)))

  ends_within : (n : ℕ) (s : State) → NothingOpen s → unheld s ≤ n → NothingDue m (after_all tests m s (sweeps n))
  ends_within zero s shut l a = false_from_ne_true (due m s a) (λ d.
      let q : 0 < unheld s = count_some (length m.atoms) (λ c. not (holds m s c)) a
      (place m a (due_in_book m s a d)) (not_in (holds m s a) (due_unheld m s a d)) in
      omega arith)
  ends_within (suc n) s shut l a =
      ⊎_elim
      (λ t. let w : (a : ℕ) × (a < length m.atoms) × IsTrue (due m s a) = below_out (length m.atoms) (due m s) t in
      let q : unheld (after tests m s sweep) < unheld s = holds_more s shut w.0 w.2 in
      ends_within n (after tests m s sweep) shut (omega arith) a)
      (λ f. stays_done s shut
      (λ b. false_from_ne_true (due m s b) (λ d. f (below_in (length m.atoms) (due m s) b (place m b (due_in_book m s b d)) d)))
      (suc n) a)
      (either (some_below (length m.atoms) (due m s)))

  -- with nothing open, as many sweeps as there are atoms leave nothing due
  pub sweeping_ends_lem : (s : State) → NothingOpen s → NothingDue m (after_all tests m s (sweeps (length m.atoms)))
  sweeping_ends_lem s shut = ends_within (length m.atoms) s shut (count_top (length m.atoms) (λ a. not (holds m s a)))
