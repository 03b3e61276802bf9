-- What it means that a set is closed under what remains of the rules, in terms of the rules themselves.
use Rattle.std.proofs.Common.{◌≡◌, ℕ, Bool, true, false, cond, [], Some, None, Option, sym, refl, ap, ◌∙◌, subst, arith}
use Rattle.books.specs.Meaning.{Rule, Meaning, rule_at}
use Rattle.std.specs.Option.{option_and_then}
use Rattle.models.specs.Sets.{Set}
use Rattle.models.specs.Stability.{reduced, Closed}
use Rattle.std.proofs.lemmas.Bool.{false_from_ne_true}
use Rattle.models.proofs.TrueTests.{never}
use Rattle.std.specs.Bool.{IsTrue}
use Rattle.std.specs.List.{list_all, list_any}

bind_out : {X Y : Type 0} (f : X → Option Y) (o : Option X) (y : Y) → option_and_then f o ≡ Some y → (x : X) × (o ≡ Some x) × (f x ≡ Some y)
bind_out f None y e = let z : ◌≡◌ {A = ℕ} 0 1 = cc in absurd (omega arith)
bind_out f (Some x) y e = (x, refl, e)

kept_out : {X : Type 0} (b : Bool) (x y : X) → cond b None (Some x) ≡ Some y → (IsTrue b → ⊥) × (x ≡ y)
kept_out true x y e = let z : ◌≡◌ {A = ℕ} 0 1 = cc in absurd (omega arith)
kept_out false x y e = (λ p. never p, cc)

kept_in : {X : Type 0} (b : Bool) (x : X) → b ≡ false → cond b None (Some x) ≡ Some x
kept_in b x e = ap (λ c. cond c None (Some x)) e

-- the rule, without its negatives
abbrev bare : Rule → Rule
bare r = record { head = r.head; positives = r.positives; negatives = [] }

module _ {S : Type 0} (m : Meaning S) (M X : Set) where
  -- the rule leads from X to X, if none of its negatives is in M
  abbrev pub Leads : Type 0
  Leads = (k : ℕ) (r : Rule) → rule_at m k ≡ Some r → IsTrue (list_all X r.positives) → (IsTrue (list_any M r.negatives) → ⊥) → IsTrue (X r.head)

  pub closed_out : Closed m M X → Leads
  closed_out closed k r e ps ns =
      closed k (bare r) (ap (option_and_then (reduced M)) e ∙ kept_in (list_any M r.negatives) (bare r) (false_from_ne_true (list_any M r.negatives) ns)) ps

  pub closed_in : Leads → Closed m M X
  closed_in leads k r e ps =
      let was : (x : Rule) × (rule_at m k ≡ Some x) × (reduced M x ≡ Some r) = bind_out (reduced M) (rule_at m k) r e in
      let kept : (IsTrue (list_any M was.0.negatives) → ⊥) × (bare was.0 ≡ r) = kept_out (list_any M was.0.negatives) (bare was.0) r was.2 in
      subst (λ (x : Rule). IsTrue (X x.head)) kept.1
      (leads k was.0 was.1 (subst (λ (x : Rule). IsTrue (list_all X x.positives)) (sym kept.1) ps) kept.0)
