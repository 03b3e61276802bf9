-- Each verdict as the facts that it stands for, and back.
use Rattle.std.proofs.Common.{ℕ, Bool, not, ◌&&◌, ◌⊎◌, length, arith}
use Rattle.books.specs.Meaning.{Rule, Meaning}
use Rattle.books.specs.Judged.{relates}
use Rattle.models.specs.Sets.{State, Within}
use Rattle.models.specs.Verdicts.{in_book, is_derived, holds, ready, due, pending, blocks, blocked, safe, awaited, ruled_out}
use Rattle.models.proofs.TrueTests.{or_out}
use Rattle.models.proofs.ListMembers.{some_out, below_in, below_out}
use Rattle.models.proofs.BookOrder.{Headed, place, related_in_book, headed_in, headed_out}
use Rattle.std.specs.Bool.{IsTrue}
use Rattle.std.proofs.Common.{arith}
use Rattle.std.proofs.lemmas.Bool.{false≢true, false_from_ne_true}
use Rattle.stamps.specs.Orders.{Tests}
use Rattle.std.specs.List.{list_all, list_any}

pub record Ready {S : Type 0} (m : Meaning S) (s : State) (r : Rule) : Type 0 where
  pub derived : IsTrue (is_derived m r.head)
  pub positives : IsTrue (list_all (holds m s) r.positives)
  pub negatives : IsTrue (list_any (holds m s) r.negatives) → ⊥

module _ {S : Type 0} (m : Meaning S) where
  pub holds_in : (s : State) (a : ℕ) → IsTrue (in_book m a) → IsTrue (s.held a) → IsTrue (holds m s a)
  holds_in s a p q = grind arith

  pub holds_there : (s : State) (a : ℕ) → IsTrue (holds m s a) → IsTrue (in_book m a)
  holds_there s a t = grind arith

  pub holds_held : (s : State) (a : ℕ) → IsTrue (holds m s a) → IsTrue (s.held a)
  holds_held s a t = grind arith

  pub holds_within : (s t : State) → Within s.held t.held → Within (holds m s) (holds m t)
  holds_within s t f a h = holds_in t a (holds_there s a h) (f a (holds_held s a h))

  pub ready_out : (s : State) (r : Rule) → IsTrue (ready m s r) → Ready m s r
  unfolding ready
  ready_out s r t = record { derived = grind arith; positives = grind arith; negatives = λ n. false≢true (grind arith) }

  pub ready_in : (s : State) (r : Rule) → Ready m s r → IsTrue (ready m s r)
  unfolding ready
  ready_in s r h = let none = false_from_ne_true _ h.negatives in grind (arith, h.derived, h.positives)

  pub due_unheld : (s : State) (a : ℕ) → IsTrue (due m s a) → IsTrue (holds m s a) → ⊥
  unfolding due
  due_unheld s a t h = false≢true (grind arith)

  pub due_rule : (s : State) (a : ℕ) → IsTrue (due m s a) → Headed m a (λ r. IsTrue (ready m s r))
  unfolding due
  due_rule s a t = headed_out m (ready m s) a (grind arith)

  pub due_in : (s : State) (a : ℕ) → (IsTrue (holds m s a) → ⊥) → Headed m a (λ r. IsTrue (ready m s r)) → IsTrue (due m s a)
  unfolding due
  due_in s a f h = let unheld = false_from_ne_true (holds m s a) f in let heads = headed_in m (ready m s) a h in grind arith

  module _ (s : State) where
    pub pending_due : (a : ℕ) → IsTrue (due m s a) → IsTrue (pending m s a)
    unfolding pending
    pending_due a t = grind arith

    pub pending_open : (a : ℕ) → IsTrue (s.still_open a) → IsTrue (pending m s a)
    unfolding pending
    pending_open a t = grind arith

    pub pending_out : (a : ℕ) → IsTrue (pending m s a) → IsTrue (due m s a) ⊎ IsTrue (s.still_open a)
    unfolding pending
    pending_out a = or_out (due m s a) (s.still_open a)

    module _ (tests : Tests S) where
      pub blocked_out : (r : Rule) → IsTrue (blocked tests m s r) → (b : ℕ) × IsTrue (pending m s b) × IsTrue (list_any (relates tests.not_after m b) r.negatives)
      unfolding blocked blocks
      blocked_out r t = let f = below_out (length m.atoms) (blocks tests m s r) t in let b = f.2 in (f.0, grind arith, grind arith)

      pub blocked_in : (r : Rule) (b : ℕ) → IsTrue (pending m s b) → IsTrue (list_any (relates tests.not_after m b) r.negatives) → IsTrue (blocked tests m s r)
      unfolding blocked blocks
      blocked_in r b p q =
          let n = some_out (relates tests.not_after m b) r.negatives q in
          below_in (length m.atoms) (blocks tests m s r) b (place m b (related_in_book m tests.not_after b n.0 n.1)) (grind arith)

      -- ready and without a blocker
      abbrev pub unblocked : Rule → Bool
      unblocked r = ready m s r && not (blocked tests m s r)

      pub safe_due : (a : ℕ) → IsTrue (safe tests m s a) → IsTrue (due m s a)
      unfolding safe
      safe_due a t = grind arith

      pub safe_rule : (a : ℕ) → IsTrue (safe tests m s a) → Headed m a (λ r. IsTrue (unblocked r))
      unfolding safe
      safe_rule a t = headed_out m unblocked a (grind arith)

      pub safe_in : (a : ℕ) → IsTrue (due m s a) → Headed m a (λ r. IsTrue (unblocked r)) → IsTrue (safe tests m s a)
      unfolding safe
      safe_in a t h = let heads = headed_in m unblocked a h in grind arith

      pub unblocked_ready : (r : Rule) → IsTrue (unblocked r) → IsTrue (ready m s r)
      unblocked_ready r t = grind arith

      pub unblocked_free : (r : Rule) → IsTrue (unblocked r) → IsTrue (blocked tests m s r) → ⊥
      unblocked_free r t b = false≢true (grind arith)

      pub unblocked_in : (r : Rule) → IsTrue (ready m s r) → (IsTrue (blocked tests m s r) → ⊥) → IsTrue (unblocked r)
      unblocked_in r t f = let free = false_from_ne_true (blocked tests m s r) f in grind arith

      pub ruled_in : (a : ℕ) → (IsTrue (holds m s a) → ⊥) → ((b : ℕ) → IsTrue (pending m s b) → IsTrue (relates tests.not_after m b a) → ⊥) → IsTrue (ruled_out tests m s a)
      unfolding ruled_out awaited
      ruled_in a f g =
          let unheld = false_from_ne_true (holds m s a) f in
          let alone = false_from_ne_true (awaited tests m s a) (λ t.
          let w = below_out (length m.atoms) (λ b. pending m s b && relates tests.not_after m b a) t in let b = w.2 in
          g w.0 (grind arith) (grind arith)) in
          grind arith

      pub ruled_unheld : (a : ℕ) → IsTrue (ruled_out tests m s a) → IsTrue (holds m s a) → ⊥
      unfolding ruled_out
      ruled_unheld a t h = false≢true (grind arith)

      pub ruled_none : (a : ℕ) → IsTrue (ruled_out tests m s a) → (b : ℕ) → IsTrue (pending m s b) → IsTrue (relates tests.not_after m b a) → ⊥
      unfolding ruled_out awaited
      ruled_none a t b p q =
          let some = below_in (length m.atoms) (λ b. pending m s b && relates tests.not_after m b a) b (place m b (related_in_book m tests.not_after b a q)) (grind arith) in
          false≢true (grind arith)
