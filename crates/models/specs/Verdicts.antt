-- What a book's meaning says of two sets of atoms, the held and the still open: which rules are ready,
-- which atoms are due, which block, which are safe to take and which are ruled out.
use Rattle.std.specs.Prelude.{Bool, false, not, ◌&&◌, ◌||◌, length, Some, None, Option, ◌==◌, nat_lt}
use Rattle.books.specs.Meaning.{Rule, Meaning, rule_at, reading_of}
use Rattle.books.specs.Judged.{relates}
use Rattle.models.specs.Sets.{Set, State, some_below}
use Rattle.stamps.specs.Orders.{Tests}
use Rattle.std.specs.List.{list_all, list_any}

-- there is something, and it passes the test
abbrev pub passes : {X : Type 0} → (X → Bool) → Option X → Bool
passes test None = false
passes test (Some x) = test x

-- the atom is in the book
abbrev pub in_book : {S : Type 0} → Meaning S → Set
in_book m a = nat_lt a (length m.atoms)

-- the atom is in the book and is a reading
abbrev pub is_reading : {S : Type 0} → Meaning S → Set
is_reading m a = passes (λ b. b) (reading_of m a)

-- the atom is in the book and is no reading
abbrev pub is_derived : {S : Type 0} → Meaning S → Set
is_derived m a = passes not (reading_of m a)

-- the atom is held; one that is not in the book never is
abbrev pub holds : {S : Type 0} → Meaning S → State → Set
holds m s a = in_book m a && s.held a

-- the atom heads some rule that passes the test; a vacant number heads nothing
abbrev pub heads_some : {S : Type 0} → Meaning S → (Rule → Bool) → Set
heads_some m test a = some_below (length m.rules) (λ k. passes (λ r. (r.head == a) && test r) (rule_at m k))

-- all its positives are held and none of its negatives is, and its head is in the book and no reading
unfoldable pub ready : {S : Type 0} → Meaning S → State → Rule → Bool
ready m s r = is_derived m r.head && list_all (holds m s) r.positives && not (list_any (holds m s) r.negatives)

-- the atom is not held and heads some ready rule
unfoldable pub due : {S : Type 0} → Meaning S → State → Set
due m s a = not (holds m s a) && heads_some m (ready m s) a

-- the atom is due or still open, so that it may yet be held; only readings are ever open
unfoldable pub pending : {S : Type 0} → Meaning S → State → Set
pending m s a = due m s a || s.still_open a

-- the atom is due or still open, and its stamp is not after that of one of the rule's negatives
unfoldable pub blocks : {S : Type 0} → Tests S → Meaning S → State → Rule → Set
blocks tests m s r b = pending m s b && list_any (relates tests.not_after m b) r.negatives

-- some atom of the book blocks the rule
unfoldable pub blocked : {S : Type 0} → Tests S → Meaning S → State → Rule → Bool
blocked tests m s r = some_below (length m.atoms) (blocks tests m s r)

-- the atom is due, and at least one ready rule with that head has no blocker
unfoldable pub safe : {S : Type 0} → Tests S → Meaning S → State → Set
safe tests m s a = due m s a && heads_some m (λ r. ready m s r && not (blocked tests m s r)) a

-- some atom that is due or still open has a stamp not after the atom's own
unfoldable pub awaited : {S : Type 0} → Tests S → Meaning S → State → Set
awaited tests m s a = some_below (length m.atoms) (λ b. pending m s b && relates tests.not_after m b a)

-- the atom is not held, and no due atom and no open reading has a stamp not after its own
unfoldable pub ruled_out : {S : Type 0} → Tests S → Meaning S → State → Set
ruled_out tests m s a = not (holds m s a) && not (awaited tests m s a)
