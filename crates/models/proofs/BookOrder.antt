-- Atoms and rules of a book by their numbers, and how the order of stamps orders the atoms.
use Rattle.std.proofs.Common.{◌≡◌, ℕ, zero, suc, ◌<◌, Bool, false, not, ◌&&◌, eqb, List, [], ◌∷◌, length, Some, None, Option, sym, refl, subst, le_of_suc-le-suc, not-suc-le-zero, arith}
use Rattle.books.specs.Meaning.{Rule, Atom, Meaning, rule_at, stamp_of, reading_of}
use Rattle.books.specs.Judged.{both_pass, relates}
use Rattle.models.specs.Verdicts.{passes, in_book, is_reading, is_derived, heads_some}
use Rattle.models.proofs.TrueTests.{and_in, and_left, and_right, false_out, never}
use Rattle.models.proofs.ListMembers.{below_in, below_out}
use Rattle.models.proofs.SetCounts.{count_below, count_less}
use Rattle.stamps.specs.Orders.{IsLawful, Tests}
use Rattle.std.specs.Bool.{IsTrue}
use Rattle.std.proofs.lemmas.Bool.{eq-eqb, eqb-true, ltb-true, lt-ltb}

-- a book of these atoms and rules
abbrev pub book : {S : Type 0} → List (Atom S) → List (Option Rule) → Meaning S
book xs rs = record { atoms = xs; rules = rs }

reading_there : {S : Type 0} (test : Bool → Bool) (rs : List (Option Rule)) (xs : List (Atom S)) (i : ℕ) → IsTrue (passes test (reading_of (book xs rs) i)) → i < length xs
reading_there test rs [] i t = never t
reading_there test rs (x ∷ xs) zero t = omega arith
reading_there test rs (x ∷ xs) (suc i) t = let h : i < length xs = reading_there test rs xs i t in omega arith

stamp_there : {S : Type 0} (test : S → S → Bool) (o : Option S) (rs : List (Option Rule)) (xs : List (Atom S)) (i : ℕ) → IsTrue (both_pass test (stamp_of (book xs rs) i) o) → i < length xs
stamp_there test o rs [] i t = never t
stamp_there test o rs (x ∷ xs) zero t = omega arith
stamp_there test o rs (x ∷ xs) (suc i) t = let h : i < length xs = stamp_there test o rs xs i t in omega arith

rule_there : {S : Type 0} (xs : List (Atom S)) (rs : List (Option Rule)) (k : ℕ) (r : Rule) → rule_at (book xs rs) k ≡ Some r → k < length rs
rule_there xs [] k r e = let z : ◌≡◌ {A = ℕ} 0 1 = cc in absurd (omega arith)
rule_there xs (x ∷ rs) zero r e = omega arith
rule_there xs (x ∷ rs) (suc k) r e = let h : k < length rs = rule_there xs rs k r e in omega arith

both_reflexive : {S : Type 0} (test : S → S → Bool) → ((s : S) → IsTrue (test s s)) → (rs : List (Option Rule)) (xs : List (Atom S)) (i : ℕ) → i < length xs →
    IsTrue (both_pass test (stamp_of (book xs rs) i) (stamp_of (book xs rs) i))
both_reflexive test law rs [] i l = absurd (not-suc-le-zero l)
both_reflexive test law rs (x ∷ xs) zero l = law x.stamp
both_reflexive test law rs (x ∷ xs) (suc i) l = both_reflexive test law rs xs i (le_of_suc-le-suc l)

passes_out : {X : Type 0} (test : X → Bool) (o : Option X) → IsTrue (passes test o) → (x : X) × (o ≡ Some x) × IsTrue (test x)
passes_out test None t = never t
passes_out test (Some x) t = (x, refl, t)

passes_in : {X : Type 0} (test : X → Bool) (o : Option X) (x : X) → o ≡ Some x → IsTrue (test x) → IsTrue (passes test o)
passes_in test o x e t = subst (λ o. IsTrue (passes test o)) (sym e) t

both_never : {S : Type 0} (test : S → S → Bool) → ((s : S) → test s s ≡ false) → (o : Option S) → IsTrue (both_pass test o o) → ⊥
both_never test r None t = never t
both_never test r (Some s) t = false_out (test s s) (r s) t

-- a law of three stamps is one of three atoms
both_chains : {S : Type 0} (f g h : S → S → Bool) → ((a b c : S) → IsTrue (f a b) → IsTrue (g b c) → IsTrue (h a c)) → (x y z : Option S) → IsTrue (both_pass f x y) → IsTrue (both_pass g y z) → IsTrue (both_pass h x z)
both_chains f g h law None y z p q = p
both_chains f g h law (Some a) None z p q = never p
both_chains f g h law (Some a) (Some b) None p q = q
both_chains f g h law (Some a) (Some b) (Some c) p q = law a b c p q

-- a rule of the book with that head, and a fact about it
pub record Headed {S : Type 0} (m : Meaning S) (a : ℕ) (P : Rule → Type 0) : Type 0 where
  pub number : ℕ
  pub rule : Rule
  pub is : rule_at m number ≡ Some rule
  pub heads : rule.head ≡ a
  pub so : P rule

module _ {S : Type 0} (m : Meaning S) where
  pub place : (a : ℕ) → IsTrue (in_book m a) → a < length m.atoms
  place a t = ltb-true a (length m.atoms) t

  at_place : (a : ℕ) → a < length m.atoms → IsTrue (in_book m a)
  at_place a l = lt-ltb a (length m.atoms) l

  pub reading_in_book : (a : ℕ) → IsTrue (is_reading m a) → IsTrue (in_book m a)
  reading_in_book a t = at_place a (reading_there (λ b. b) m.rules m.atoms a t)

  pub derived_in_book : (a : ℕ) → IsTrue (is_derived m a) → IsTrue (in_book m a)
  derived_in_book a t = at_place a (reading_there not m.rules m.atoms a t)

  pub related_in_book : (test : S → S → Bool) (a b : ℕ) → IsTrue (relates test m a b) → IsTrue (in_book m a)
  related_in_book test a b t = at_place a (stamp_there test (stamp_of m b) m.rules m.atoms a t)

  -- the atom heads some rule that passes the test: this one
  pub headed_out : (test : Rule → Bool) (a : ℕ) → IsTrue (heads_some m test a) → Headed m a (λ r. IsTrue (test r))
  headed_out test a t =
      let both : Rule → Bool = λ r. eqb r.head a && test r in
      let f : (k : ℕ) × (k < length m.rules) × IsTrue (passes both (rule_at m k)) = below_out (length m.rules) (λ k. passes both (rule_at m k)) t in
      let w : (r : Rule) × (rule_at m f.0 ≡ Some r) × IsTrue (both r) = passes_out both (rule_at m f.0) f.2 in
      record {
        number = f.0;
        rule = w.0;
        is = w.1;
        heads = eqb-true w.0.head a (and_left (eqb w.0.head a) (test w.0) w.2);
        so = and_right (eqb w.0.head a) (test w.0) w.2;
      }

  pub headed_in : (test : Rule → Bool) (a : ℕ) → Headed m a (λ r. IsTrue (test r)) → IsTrue (heads_some m test a)
  headed_in test a h =
      let both : Rule → Bool = λ r. eqb r.head a && test r in
      below_in (length m.rules) (λ k. passes both (rule_at m k)) h.number
      (rule_there m.atoms m.rules h.number h.rule h.is)
      (passes_in both (rule_at m h.number) h.rule h.is
      (and_in (eqb h.rule.head a) (test h.rule) (eq-eqb h.rule.head a h.heads) h.so))

-- the order of stamps, as an order of the book's atoms
module _ {S : Type 0} {tests : Tests S} (laws : IsLawful tests) (m : Meaning S) where
  pub reflexive : (a : ℕ) → IsTrue (in_book m a) → IsTrue (relates tests.not_after m a a)
  reflexive a t = both_reflexive tests.not_after laws.reflexive m.rules m.atoms a (place m a t)

  pub irreflexive : (a : ℕ) → IsTrue (relates tests.before m a a) → ⊥
  irreflexive a = both_never tests.before laws.irreflexive (stamp_of m a)

  pub transitive : (a b c : ℕ) → IsTrue (relates tests.not_after m a b) → IsTrue (relates tests.not_after m b c) → IsTrue (relates tests.not_after m a c)
  transitive a b c = both_chains tests.not_after tests.not_after tests.not_after laws.transitive (stamp_of m a) (stamp_of m b) (stamp_of m c)

  pub strict_left : (a b c : ℕ) → IsTrue (relates tests.before m a b) → IsTrue (relates tests.not_after m b c) → IsTrue (relates tests.before m a c)
  strict_left a b c = both_chains tests.before tests.not_after tests.before laws.strict_left (stamp_of m a) (stamp_of m b) (stamp_of m c)

  pub strict_right : (a b c : ℕ) → IsTrue (relates tests.not_after m a b) → IsTrue (relates tests.before m b c) → IsTrue (relates tests.before m a c)
  strict_right a b c = both_chains tests.not_after tests.before tests.before laws.strict_right (stamp_of m a) (stamp_of m b) (stamp_of m c)

  strict_both : (a b c : ℕ) → IsTrue (relates tests.before m a b) → IsTrue (relates tests.before m b c) → IsTrue (relates tests.before m a c)
  strict_both a b c =
      both_chains tests.before tests.before tests.before (λ x y z p q. laws.strict_left x y z p (laws.weakens y z q)) (stamp_of m a) (stamp_of m b) (stamp_of m c)

  -- how many atoms of the book are before the atom
  abbrev pub depth : ℕ → ℕ
  depth a = count_below (length m.atoms) (λ b. relates tests.before m b a)

  pub deeper : (a b : ℕ) → IsTrue (relates tests.before m a b) → depth a < depth b
  deeper a b t =
      count_less (length m.atoms) (λ c. relates tests.before m c a) (λ c. relates tests.before m c b)
      (λ c h. strict_both c a b h t) a (place m a (related_in_book m tests.before a b t)) t (irreflexive a)
