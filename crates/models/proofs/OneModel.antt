-- Two stable models of one set of readings are the same set.
use Rattle.std.proofs.Common.{◌≡◌, ℕ, zero, suc, ◌<◌, Bool, true, false, not, Some, Option, sym, subst, not-suc-le-zero, arith, refl}
use Rattle.books.specs.Meaning.{Rule, Meaning, rule_at}
use Rattle.books.specs.Judged.{Sound, relates}
use Rattle.models.specs.Sets.{Set, Within, Same}
use Rattle.models.specs.Verdicts.{passes, in_book, is_derived}
use Rattle.models.specs.Stability.{ReadingsOf, Stable}
use Rattle.models.proofs.TrueTests.{same, never}
use Rattle.models.proofs.ListMembers.{every_with, some_moved}
use Rattle.models.proofs.BookOrder.{reading_in_book, derived_in_book, reflexive, transitive, strict_left, depth, deeper}
use Rattle.models.proofs.ClosedByRules.{closed_in, closed_out}
use Rattle.stamps.specs.Orders.{IsLawful, Tests}
use Rattle.std.specs.Bool.{IsTrue}
use Rattle.std.specs.List.{list_all, list_any}

-- b, which is asked for only where the test passes
abbrev given : Bool → Bool → Bool
given true b = b
given false b = true

given_in : (t b : Bool) → (IsTrue t → IsTrue b) → IsTrue (given t b)
given_in true b f = f refl
given_in false b f = refl

given_out : (t b : Bool) → IsTrue t → IsTrue (given t b) → IsTrue b
given_out true b t g = g
given_out false b t g = never t

module _ {S : Type 0} {tests : Tests S} (laws : IsLawful tests) {m : Meaning S} (sound : Sound tests m) where
  -- the head of a rule is in the book and no reading
  pub head_derived : (k : ℕ) (r : Rule) → rule_at m k ≡ Some r → IsTrue (is_derived m r.head)
  head_derived k r e = subst (λ (o : Option Bool). IsTrue (passes not o)) (sym (sound.rules k r e).derived) refl

  -- a stable model has only atoms of the book
  pub model_in_book : (R M : Set) → ReadingsOf m R → Stable m R M → Within M (in_book m)
  model_in_book R M readings stable =
      stable.least (in_book m) (λ a h. reading_in_book m a (readings a h))
      (closed_in m M (in_book m) (λ k r e ps ns. derived_in_book m r.head (head_derived k r e)))

  module _ (R M N : Set) (stable_m : Stable m R M) (stable_n : Stable m R N) where
    -- what M has at an atom of the book, N has too, where the two agree before it
    part : (a : ℕ) → IsTrue (in_book m a) → ((b : ℕ) → IsTrue (relates tests.before m b a) → M b ≡ N b) → IsTrue (M a) → IsTrue (N a)
    part a there agree h =
        given_out (relates tests.not_after m a a) (N a) (reflexive laws m a there) (stable_m.least X has (closed_in m M X leads) a h)
      where
        X : Set
        X b = given (relates tests.not_after m b a) (N b)

        has : Within R X
        has b t = given_in (relates tests.not_after m b a) (N b) (λ _. stable_n.has b t)

        leads : (k : ℕ) (r : Rule) → rule_at m k ≡ Some r → IsTrue (list_all X r.positives) → (IsTrue (list_any M r.negatives) → ⊥) → IsTrue (X r.head)
        leads k r e ps ns =
            given_in (relates tests.not_after m r.head a) (N r.head) (λ below.
            closed_out m N N stable_n.closed k r e
            (every_with (λ p. IsTrue (relates tests.not_after m p r.head)) X N
            (λ p q x. given_out (relates tests.not_after m p a) (N p) (transitive laws m p r.head a q below) x)
            r.positives (sound.rules k r e).positives ps)
            (λ t. ns (some_moved (λ n. IsTrue (relates tests.before m n r.head)) N M
            (λ n q x. subst IsTrue (sym (agree n (strict_left laws m n r.head a q below))) x)
            r.negatives (sound.rules k r e).negatives t)))

  agreeing : (R M N : Set) → ReadingsOf m R → Stable m R M → Stable m R N → (n a : ℕ) → depth laws m a < n → M a ≡ N a
  agreeing R M N readings stable_m stable_n zero a h = absurd (not-suc-le-zero h)
  agreeing R M N readings stable_m stable_n (suc n) a h =
      let below : (b : ℕ) → IsTrue (relates tests.before m b a) → M b ≡ N b
      = λ b t. agreeing R M N readings stable_m stable_n n b (let q : depth laws m b < depth laws m a = deeper laws m b a t in omega arith) in
      same (M a) (N a)
      (λ t. part R M N stable_m stable_n a (model_in_book R M readings stable_m a t) below t)
      (λ t. part R N M stable_n stable_m a (model_in_book R N readings stable_n a t) (λ b u. sym (below b u)) t)

  -- the book has at most one stable model for a set of readings
  pub unique : (R M N : Set) → ReadingsOf m R → Stable m R M → Stable m R N → Same M N
  unique R M N readings stable_m stable_n a = agreeing R M N readings stable_m stable_n (suc (depth laws m a)) a (omega arith)
