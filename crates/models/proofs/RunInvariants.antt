-- What every state of a run keeps: open atoms are readings, held ones are in the book, no atom is both, and of the readings only the fed are held.
use Rattle.std.proofs.Common.{ℕ, Bool, not, ◌||◌, eqb, ◌⊎◌, List, [], ◌∷◌, Some, None, Option, subst, inl, inr, ⊎_elim}
use Rattle.books.specs.Meaning.{Meaning, reading_of}
use Rattle.books.specs.Judged.{Sound}
use Rattle.models.specs.Sets.{Set, Within}
use Rattle.models.specs.Verdicts.{passes, in_book, is_reading, is_derived, ready, due}
use Rattle.models.specs.Stability.{ReadingsOf}
use Rattle.models.specs.Moves.{Move, feed, close, take, sweep, start, may, after, after_all, may_all, Run, reached, feeds, closes, fed_by, closed_by, Outcome}
use Rattle.models.specs.Sets.{State}
use Rattle.models.proofs.TrueTests.{and_left, and_right, or_left, or_right, or_out, not_out, never}
use Rattle.models.proofs.BookOrder.{Headed}
use Rattle.models.proofs.OneModel.{head_derived}
use Rattle.models.proofs.VerdictFacts.{ready_out, due_rule}
use Rattle.models.proofs.RuledOutStays.{grows}
use Rattle.models.proofs.HeldIsFounded.{Founded, fed_open, founded_run}
use Rattle.models.proofs.SettledIsModel.{held_in_book_lem}
use Rattle.stamps.specs.Orders.{IsLawful, Tests}
use Rattle.std.specs.Bool.{IsTrue}
use Rattle.std.proofs.lemmas.Bool.{eqb-true, false_from_ne_true}

-- no atom is both a reading and derived
pub not_both : {S : Type 0} (m : Meaning S) (a : ℕ) → IsTrue (is_reading m a) → IsTrue (is_derived m a) → ⊥
not_both m a = clash (reading_of m a)
  where
    clash : (o : Option Bool) → IsTrue (passes (λ b. b) o) → IsTrue (passes not o) → ⊥
    clash None p q = never p
    clash (Some b) p q = not_out b q p

-- a due atom is no reading
pub due_derived : {S : Type 0} (m : Meaning S) (s : State) (a : ℕ) → IsTrue (due m s a) → IsTrue (is_derived m a)
due_derived m s a t =
    let h : Headed m a (λ r. IsTrue (ready m s r)) = due_rule m s a t in
    subst (λ (b : ℕ). IsTrue (is_derived m b)) h.heads (ready_out m s h.rule h.so).derived

module _ {S : Type 0} (tests : Tests S) (m : Meaning S) where
  -- nothing opens again
  pub fewer_all : (s : State) (xs : List Move) → IsTrue (may_all tests m s xs) → Within (after_all tests m s xs).still_open s.still_open
  fewer_all s [] t a o = o
  fewer_all s (x ∷ xs) t a o =
      let next = after tests m s x in
      (grows tests m s x (and_left (may tests m s x) (may_all tests m next xs) t)).fewer a
      (fewer_all next xs (and_right (may tests m s x) (may_all tests m next xs) t) a o)

  closed_open : (s : State) (x : Move) → IsTrue (may tests m s x) → (a : ℕ) → IsTrue (closes x a) → IsTrue (s.still_open a)
  closed_open s (feed x) t a c = never c
  closed_open s (close x) t a c = subst (λ (b : ℕ). IsTrue (s.still_open b)) (eqb-true x a c) t
  closed_open s (take x) t a c = never c
  closed_open s sweep t a c = never c

  fed_shut : (s : State) (x : Move) (a : ℕ) → IsTrue (feeds x a) → IsTrue ((after tests m s x).still_open a) → ⊥
  fed_shut s (feed x) a f o = not_out (eqb x a) (and_right (s.still_open a) (not (eqb x a)) o) f
  fed_shut s (close x) a f o = never f
  fed_shut s (take x) a f o = never f
  fed_shut s sweep a f o = never f

  closed_shut : (s : State) (x : Move) (a : ℕ) → IsTrue (closes x a) → IsTrue ((after tests m s x).still_open a) → ⊥
  closed_shut s (feed x) a c o = never c
  closed_shut s (close x) a c o = not_out (eqb x a) (and_right (s.still_open a) (not (eqb x a)) o) c
  closed_shut s (take x) a c o = never c
  closed_shut s sweep a c o = never c

  one_only : (x : Move) (a : ℕ) → IsTrue (feeds x a) → IsTrue (closes x a) → ⊥
  one_only (feed x) a f c = never c
  one_only (close x) a f c = never f
  one_only (take x) a f c = never f
  one_only sweep a f c = never f

  -- what is not open is neither fed nor closed any more
  never_again : (s : State) (xs : List Move) → IsTrue (may_all tests m s xs) → (a : ℕ) → (IsTrue (s.still_open a) → ⊥) → IsTrue (fed_by xs a) ⊎ IsTrue (closed_by xs a) → ⊥
  never_again s [] t a shut w = ⊎_elim (λ f. never f) (λ c. never c) w
  never_again s (x ∷ xs) t a shut w =
      let next = after tests m s x in
      let first = and_left (may tests m s x) (may_all tests m next xs) t in
      let later : IsTrue (fed_by xs a) ⊎ IsTrue (closed_by xs a) → ⊥
      = never_again next xs (and_right (may tests m s x) (may_all tests m next xs) t) a (λ o. shut ((grows tests m s x first).fewer a o)) in
      ⊎_elim
      (λ f. ⊎_elim (λ e. shut (fed_open tests m s x first a e)) (λ e. later (inl e)) (or_out (feeds x a) (fed_by xs a) f))
      (λ c. ⊎_elim (λ e. shut (closed_open s x first a e)) (λ e. later (inr e)) (or_out (closes x a) (closed_by xs a) c))
      w

  -- no reading is both fed and closed
  pub fed_not_closed : (s : State) (xs : List Move) → IsTrue (may_all tests m s xs) → (a : ℕ) → IsTrue (fed_by xs a) → IsTrue (closed_by xs a) → ⊥
  fed_not_closed s [] t a f c = never f
  fed_not_closed s (x ∷ xs) t a f c =
      let next = after tests m s x in
      let rest = and_right (may tests m s x) (may_all tests m next xs) t in
      ⊎_elim
      (λ e. ⊎_elim (one_only x a e) (λ d. never_again next xs rest a (fed_shut s x a e) (inr d)) (or_out (closes x a) (closed_by xs a) c))
      (λ e. ⊎_elim (λ d. never_again next xs rest a (closed_shut s x a d) (inl e)) (fed_not_closed next xs rest a e) (or_out (closes x a) (closed_by xs a) c))
      (or_out (feeds x a) (fed_by xs a) f)

  -- what was fed is not open
  pub fed_not_open : (s : State) (xs : List Move) → IsTrue (may_all tests m s xs) → (a : ℕ) → IsTrue (fed_by xs a) → IsTrue ((after_all tests m s xs).still_open a) → ⊥
  fed_not_open s [] t a f o = never f
  fed_not_open s (x ∷ xs) t a f o =
      let next = after tests m s x in
      let rest = and_right (may tests m s x) (may_all tests m next xs) t in
      ⊎_elim (λ e. fed_shut s x a e (fewer_all next xs rest a o)) (λ e. fed_not_open next xs rest a e o) (or_out (feeds x a) (fed_by xs a) f)

  -- what was closed is not open
  pub closed_not_open : (s : State) (xs : List Move) → IsTrue (may_all tests m s xs) → (a : ℕ) → IsTrue (closed_by xs a) → IsTrue ((after_all tests m s xs).still_open a) → ⊥
  closed_not_open s [] t a c o = never c
  closed_not_open s (x ∷ xs) t a c o =
      let next = after tests m s x in
      let rest = and_right (may tests m s x) (may_all tests m next xs) t in
      ⊎_elim (λ e. closed_shut s x a e (fewer_all next xs rest a o)) (λ e. closed_not_open next xs rest a e o) (or_out (closes x a) (closed_by xs a) c)

pub record Kept {S : Type 0} (m : Meaning S) (s : State) (fed : Set) : Type 0 where
  pub open_readings : ReadingsOf m s.still_open
  pub held_in_book : Within s.held (in_book m)
  pub apart : (a : ℕ) → IsTrue (s.still_open a) → IsTrue (s.held a) → ⊥
  pub fed_held : Within fed s.held
  pub held_fed : (a : ℕ) → IsTrue (is_reading m a) → IsTrue (s.held a) → IsTrue (fed a)

module _ {S : Type 0} {tests : Tests S} (laws : IsLawful tests) {m : Meaning S} (sound : Sound tests m) where
  -- of the readings only the fed are held
  held_fed_lem : (s : State) (fed : Set) → Founded tests m s fed → (a : ℕ) → IsTrue (is_reading m a) → IsTrue (s.held a) → IsTrue (fed a)
  held_fed_lem s fed f a r h =
      ⊎_elim (λ e. e) (λ d. absurd (not_both m a r d)) (or_out (fed a) (is_derived m a)
      (f.grounded (λ b. fed b || is_derived m b) (λ b e. or_left (fed b) (is_derived m b) e)
      (λ k x e ps ns. or_right (fed x.head) (is_derived m x.head) (head_derived laws sound k x e)) a h))

  pub kept : (xs : List Move) → Run tests m xs → Kept m (reached tests m xs) (fed_by xs)
  kept xs run =
      let f : Founded tests m (reached tests m xs) (fed_by xs) = founded_run laws sound xs run in
      record {
        open_readings = f.opens;
        held_in_book = held_in_book_lem laws sound (reached tests m xs) (fed_by xs) f;
        apart = λ a o h. fed_not_open tests m (start m) xs run a (held_fed_lem (reached tests m xs) (fed_by xs) f a (f.opens a o) h) o;
        fed_held = f.fed_held;
        held_fed = held_fed_lem (reached tests m xs) (fed_by xs) f;
      }

  -- whichever of the open readings come, they and the fed ones are a possible outcome
  pub may_come : (xs : List Move) → Run tests m xs → (come : Set) → Within come (reached tests m xs).still_open → Outcome m xs (λ a. fed_by xs a || come a)
  may_come xs run come within = record {
    readings_only = λ a h. ⊎_elim (founded.readings a) (λ e. founded.opens a (within a e)) (or_out (fed_by xs a) (come a) h);
    fed = λ a f. or_left (fed_by xs a) (come a) f;
    none_closed = λ a c. false_from_ne_true (fed_by xs a || come a) (λ h. ⊎_elim
        (λ f. fed_not_closed tests m (start m) xs run a f c)
        (λ e. closed_not_open tests m (start m) xs run a c (within a e))
        (or_out (fed_by xs a) (come a) h));
  }
    where
      founded : Founded tests m (reached tests m xs) (fed_by xs)
      founded = founded_run laws sound xs run
