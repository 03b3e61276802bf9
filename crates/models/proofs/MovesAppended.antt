-- Moves after moves.
use Rattle.std.proofs.Common.{◌≡◌, ℕ, true, ◌||◌, List, [], ◌∷◌, ◌++◌, sym, refl, ap, ◌∙◌}
use Rattle.books.specs.Meaning.{Meaning}
use Rattle.models.specs.Moves.{Move, may, after, after_all, may_all, feeds, closes, fed_by, closed_by}
use Rattle.models.specs.Sets.{State}
use Rattle.std.proofs.Math.Bool.{or_assoc}
use Rattle.models.proofs.TrueTests.{and_in, and_left, and_right}
use Rattle.std.specs.Bool.{IsTrue}
use Rattle.stamps.specs.Orders.{Tests}

module _ {S : Type 0} (tests : Tests S) (m : Meaning S) where
  pub after_all-append : (s : State) (xs ys : List Move) → after_all tests m s (xs ++ ys) ≡ after_all tests m (after_all tests m s xs) ys
  after_all-append s [] ys = refl
  after_all-append s (x ∷ xs) ys = after_all-append (after tests m s x) xs ys

  pub may_first : (s : State) (xs ys : List Move) → IsTrue (may_all tests m s (xs ++ ys)) → IsTrue (may_all tests m s xs)
  may_first s [] ys t = refl
  may_first s (x ∷ xs) ys t =
      let next = after tests m s x in
      and_in (may tests m s x) (may_all tests m next xs) (and_left (may tests m s x) (may_all tests m next (xs ++ ys)) t)
      (may_first next xs ys (and_right (may tests m s x) (may_all tests m next (xs ++ ys)) t))

  pub may_then : (s : State) (xs ys : List Move) → IsTrue (may_all tests m s (xs ++ ys)) → IsTrue (may_all tests m (after_all tests m s xs) ys)
  may_then s [] ys t = t
  may_then s (x ∷ xs) ys t =
      let next = after tests m s x in may_then next xs ys (and_right (may tests m s x) (may_all tests m next (xs ++ ys)) t)

  pub may_all-append : (s : State) (xs ys : List Move) → IsTrue (may_all tests m s xs) → IsTrue (may_all tests m (after_all tests m s xs) ys) → IsTrue (may_all tests m s (xs ++ ys))
  may_all-append s [] ys t u = u
  may_all-append s (x ∷ xs) ys t u =
      let next = after tests m s x in
      and_in (may tests m s x) (may_all tests m next (xs ++ ys)) (and_left (may tests m s x) (may_all tests m next xs) t)
      (may_all-append next xs ys (and_right (may tests m s x) (may_all tests m next xs) t) u)

  -- one move more
  pub may_more : (s : State) (xs : List Move) (x : Move) → IsTrue (may_all tests m s xs) → IsTrue (may tests m (after_all tests m s xs) x) → IsTrue (may_all tests m s (xs ++ x ∷ []))
  may_more s xs x t u = may_all-append s xs (x ∷ []) t (and_in (may tests m (after_all tests m s xs) x) true u refl)

  pub after_more : (s : State) (xs : List Move) (x : Move) → after_all tests m s (xs ++ x ∷ []) ≡ after tests m (after_all tests m s xs) x
  after_more s xs x = after_all-append s xs (x ∷ [])

pub fed_by-append : (xs ys : List Move) (a : ℕ) → fed_by (xs ++ ys) a ≡ (fed_by xs a || fed_by ys a)
fed_by-append [] ys a = refl
fed_by-append (x ∷ xs) ys a = ap (λ b. feeds x a || b) (fed_by-append xs ys a) ∙ sym (or_assoc (feeds x a) (fed_by xs a) (fed_by ys a))

pub closed_by-append : (xs ys : List Move) (a : ℕ) → closed_by (xs ++ ys) a ≡ (closed_by xs a || closed_by ys a)
closed_by-append [] ys a = refl
closed_by-append (x ∷ xs) ys a = ap (λ b. closes x a || b) (closed_by-append xs ys a) ∙ sym (or_assoc (closes x a) (closed_by xs a) (closed_by ys a))
