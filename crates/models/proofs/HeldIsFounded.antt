-- What is held is founded: it is in every set that has the fed readings and the heads of those rules
-- whose positives it has and whose negatives are ruled out.
use Rattle.std.proofs.Common.{◌≡◌, ℕ, Bool, true, false, not, ◌&&◌, ◌||◌, eqb, ◌⊎◌, List, [], ◌∷◌, Some, refl, subst, inl, inr, ⊎_elim}
use mathlib.Core.Path.{fun_ext}
use Rattle.books.specs.Meaning.{Rule, Meaning, rule_at}
use Rattle.books.specs.Judged.{Sound, relates}
use Rattle.models.specs.Sets.{Set, Within, none}
use Rattle.models.specs.Verdicts.{is_reading, holds, pending, safe, ruled_out}
use Rattle.models.specs.Stability.{ReadingsOf}
use Rattle.models.specs.Moves.{Move, feed, close, take, sweep, start, may, after, after_all, may_all, reached, feeds, closes, fed_by}
use Rattle.models.specs.Sets.{State}
use Rattle.std.proofs.Math.Bool.{or_assoc}
use Rattle.models.proofs.TrueTests.{and_in, and_left, and_right, or_left, or_right, or_out, not_in, either, never}
use Rattle.models.proofs.ListMembers.{every_within}
use Rattle.models.proofs.BookOrder.{Headed}
use Rattle.models.proofs.VerdictFacts.{Ready, holds_held, ready_out, safe_rule, unblocked, unblocked_ready, unblocked_free, blocked_in, ruled_in}
use Rattle.models.proofs.RuledOutStays.{Grows, lasts, grows}
use Rattle.stamps.specs.Orders.{IsLawful, Tests}
use Rattle.std.specs.Bool.{IsTrue}
use Rattle.std.proofs.lemmas.Bool.{eqb-true}
use Rattle.std.specs.List.{list_all, list_any}

module _ {S : Type 0} (tests : Tests S) (m : Meaning S) where
  -- X has the head of each rule whose positives it has and whose negatives are all ruled out
  abbrev pub Obeys : State → Set → Type 0
  Obeys s X =
      (k : ℕ) (r : Rule) → rule_at m k ≡ Some r → IsTrue (list_all X r.positives) → IsTrue (list_all (ruled_out tests m s) r.negatives) → IsTrue (X r.head)

  -- what is held comes from the fed readings by rules whose negatives are ruled out
  abbrev pub Grounded : State → Set → Type 0
  Grounded s fed = (X : Set) → Within fed X → Obeys s X → Within s.held X

-- what every state of a run keeps: open atoms and fed ones are readings, the fed ones are held, and what is held is grounded
pub record Founded {S : Type 0} (tests : Tests S) (m : Meaning S) (s : State) (fed : Set) : Type 0 where
  pub opens : ReadingsOf m s.still_open
  pub readings : ReadingsOf m fed
  pub fed_held : Within fed s.held
  pub grounded : Grounded tests m s fed

-- each reading is still open, fed or closed
abbrev pub Covered : {S : Type 0} → Meaning S → State → Set → Set → Type 0
Covered m s fed closed = (a : ℕ) → IsTrue (is_reading m a) → IsTrue (s.still_open a) ⊎ (IsTrue (fed a) ⊎ IsTrue (closed a))

-- where none of a list is held and nothing due or open is not after one of it, each of it is ruled out
each_ruled : {S : Type 0} (tests : Tests S) (m : Meaning S) (s : State) (ns : List ℕ) → (IsTrue (list_any (holds m s) ns) → ⊥) →
    ((b : ℕ) → IsTrue (pending m s b) → IsTrue (list_any (relates tests.not_after m b) ns) → ⊥) → IsTrue (list_all (ruled_out tests m s) ns)
each_ruled tests m s [] f g = refl
each_ruled tests m s (n ∷ ns) f g =
    and_in (ruled_out tests m s n) (list_all (ruled_out tests m s) ns)
    (ruled_in m s tests n
    (λ h. f (or_left (holds m s n) (list_any (holds m s) ns) h))
    (λ b p r. g b p (or_left (relates tests.not_after m b n) (list_any (relates tests.not_after m b) ns) r)))
    (each_ruled tests m s ns
    (λ h. f (or_right (holds m s n) (list_any (holds m s) ns) h))
    (λ b p r. g b p (or_right (relates tests.not_after m b n) (list_any (relates tests.not_after m b) ns) r)))

module _ {S : Type 0} (tests : Tests S) (m : Meaning S) (s : State) where
  -- the negatives of a ready rule without a blocker are ruled out
  negatives_ruled : (r : Rule) → IsTrue (unblocked m s tests r) → IsTrue (list_all (ruled_out tests m s) r.negatives)
  negatives_ruled r u =
      each_ruled tests m s r.negatives
      (ready_out m s r (unblocked_ready m s tests r u)).negatives
      (λ b p t. unblocked_free m s tests r u (blocked_in m s tests r b p t))

  -- a safe atom is in every set that obeys and has what is held
  safe_obeys : (X : Set) → Obeys tests m s X → Within s.held X → (a : ℕ) → IsTrue (safe tests m s a) → IsTrue (X a)
  safe_obeys X obeys has a t =
      let h : Headed m a (λ r. IsTrue (unblocked m s tests r)) = safe_rule m s tests a t in
      let full : Ready m s h.rule = ready_out m s h.rule (unblocked_ready m s tests h.rule h.so) in
      subst (λ (b : ℕ). IsTrue (X b)) h.heads
      (obeys h.number h.rule h.is
      (every_within (holds m s) X (λ b k. has b (holds_held m s b k)) h.rule.positives full.positives)
      (negatives_ruled h.rule h.so))

  -- a later state, in which only fed and safe atoms are newly held, is grounded too
  pub grounded_more : (t : State) (fed more : Set) → ((a : ℕ) → IsTrue (ruled_out tests m s a) → IsTrue (ruled_out tests m t a)) → Within fed more →
      ((a : ℕ) → IsTrue (t.held a) → IsTrue (s.held a) ⊎ (IsTrue (more a) ⊎ IsTrue (safe tests m s a))) →
      Grounded tests m s fed → Grounded tests m t more
  grounded_more t fed more last within fresh grounded X has obeys a h =
      ⊎_elim (old a) (⊎_elim (has a) (safe_obeys X obeyed old a)) (fresh a h)
    where
      obeyed : Obeys tests m s X
      obeyed k r e ps ns = obeys k r e ps (every_within (ruled_out tests m s) (ruled_out tests m t) last r.negatives ns)

      old : Within s.held X
      old = grounded X (λ b f. has b (within b f)) obeyed

-- what a move does to the sets
module _ {S : Type 0} (tests : Tests S) (m : Meaning S) (s : State) where
  pub fed_open : (x : Move) → IsTrue (may tests m s x) → (a : ℕ) → IsTrue (feeds x a) → IsTrue (s.still_open a)
  fed_open (feed x) t a f = subst (λ (b : ℕ). IsTrue (s.still_open b)) (eqb-true x a f) t
  fed_open (close x) t a f = never f
  fed_open (take x) t a f = never f
  fed_open sweep t a f = never f

  fed_held_lem : (x : Move) → (a : ℕ) → IsTrue (feeds x a) → IsTrue ((after tests m s x).held a)
  fed_held_lem (feed x) a f = or_right (s.held a) (eqb x a) f
  fed_held_lem (close x) a f = never f
  fed_held_lem (take x) a f = never f
  fed_held_lem sweep a f = never f

  left_open : (x : ℕ) (a : ℕ) → IsTrue (s.still_open a) → IsTrue (s.still_open a && not (eqb x a)) ⊎ IsTrue (eqb x a)
  left_open x a o = ⊎_elim inr (λ f. inl (and_in (s.still_open a) (not (eqb x a)) o (not_in (eqb x a) f))) (either (eqb x a))

  pub open_goes : (x : Move) → (a : ℕ) → IsTrue (s.still_open a) → IsTrue ((after tests m s x).still_open a) ⊎ (IsTrue (feeds x a) ⊎ IsTrue (closes x a))
  open_goes (feed x) a o = ⊎_elim inl (λ e. inr (inl e)) (left_open x a o)
  open_goes (close x) a o = ⊎_elim inl (λ e. inr (inr e)) (left_open x a o)
  open_goes (take x) a o = inl o
  open_goes sweep a o = inl o

  held_from : (x : Move) → IsTrue (may tests m s x) → (a : ℕ) → IsTrue ((after tests m s x).held a) → IsTrue (s.held a) ⊎ (IsTrue (feeds x a) ⊎ IsTrue (safe tests m s a))
  held_from (feed x) t a h = ⊎_elim inl (λ e. inr (inl e)) (or_out (s.held a) (eqb x a) h)
  held_from (close x) t a h = inl h
  held_from (take x) t a h =
      ⊎_elim inl
      (λ e. inr (inr (subst (λ (b : ℕ). IsTrue (safe tests m s b)) (eqb-true x a e) t)))
      (or_out (s.held a) (eqb x a) h)
  held_from sweep t a h = ⊎_elim inl (λ e. inr (inr e)) (or_out (s.held a) (safe tests m s a) h)

-- one set or the other
abbrev pub union : Set → Set → Set
union X Y a = X a || Y a

union_assoc : (X Y Z : Set) → union (union X Y) Z ≡ union X (union Y Z)
union_assoc X Y Z = fun_ext (λ a. or_assoc (X a) (Y a) (Z a))

module _ {S : Type 0} {tests : Tests S} (laws : IsLawful tests) {m : Meaning S} (sound : Sound tests m) where
  founded_move : (s : State) (fed : Set) (x : Move) → IsTrue (may tests m s x) → Founded tests m s fed → Founded tests m (after tests m s x) (union fed (feeds x))
  founded_move s fed x t f = record {
    opens = λ a o. f.opens a (step.fewer a o);
    readings = λ a h. ⊎_elim (f.readings a) (λ e. f.opens a (fed_open tests m s x t a e)) (or_out (fed a) (feeds x a) h);
    fed_held = λ a h. ⊎_elim (λ e. step.kept a (f.fed_held a e)) (fed_held_lem tests m s x a) (or_out (fed a) (feeds x a) h);
    grounded = grounded_more tests m s (after tests m s x) fed (union fed (feeds x))
        (lasts laws sound s (after tests m s x) step)
        (λ a h. or_left (fed a) (feeds x a) h)
        (λ a h. ⊎_elim inl (λ n. inr (⊎_elim (λ e. inl (or_right (fed a) (feeds x a) e)) inr n)) (held_from tests m s x t a h))
        f.grounded;
  }
    where
      step : Grows m s (after tests m s x)
      step = grows tests m s x t

  pub founded_all : (s : State) (fed : Set) (xs : List Move) → IsTrue (may_all tests m s xs) → Founded tests m s fed → Founded tests m (after_all tests m s xs) (union fed (fed_by xs))
  founded_all s fed [] t f = subst (Founded tests m s) (fun_ext (λ a. or_false (fed a))) f
    where
      or_false : (x : Bool) → x ≡ (x || false)
      or_false true = refl
      or_false false = refl
  founded_all s fed (x ∷ xs) t f =
      subst (Founded tests m (after_all tests m (after tests m s x) xs)) (union_assoc fed (feeds x) (fed_by xs))
      (founded_all (after tests m s x) (union fed (feeds x)) xs
      (and_right (may tests m s x) (may_all tests m (after tests m s x) xs) t)
      (founded_move s fed x (and_left (may tests m s x) (may_all tests m (after tests m s x) xs) t) f))

  -- the start is founded, with nothing fed
  pub founded_start : Founded tests m (start m) none
  founded_start = record { opens = λ a o. o; readings = λ a h. never h; fed_held = λ a h. never h; grounded = λ X has obeys a h. never h }

  -- every state of a run is founded on what the run fed
  pub founded_run : (xs : List Move) → IsTrue (may_all tests m (start m) xs) → Founded tests m (reached tests m xs) (fed_by xs)
  founded_run xs t = founded_all (start m) none xs t founded_start
