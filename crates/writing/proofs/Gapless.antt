-- A book without gaps is small enough to be written.
use Rattle.std.proofs.Common.{◌≡◌, ℕ, ◌≤◌, Bool, true, false, cond, ◌||◌, ltb, length, Some, None, Option, sym, refl, ap, subst, inl, inr, arith}
use Rattle.std.proofs.lemmas.Option.{slice_get_past}
use Rattle.std.proofs.lemmas.Bool.{cases_lt, or_parts, ltb-false}
use Rattle.std.specs.Option.{option_and_then, option_flatten}
use Rattle.books.proofs.First.{first_none}
use Rattle.books.specs.Check.{first_below}
use Rattle.books.specs.Meaning.{Rule, Meaning, rule_at}
use Rattle.books.specs.declared.book.Sign.{Sign}
use Rattle.books.specs.declared.book.Sign.TheVariants.{Positive, Negative}
use Rattle.books.specs.declared.fault.CheckFault.{CheckFault}
use Rattle.text.specs.Spelt.{body_in, Few}
use Rattle.writing.specs.Writes.{rule_gap, book_gap}

-- no fault comes of a choice only where the choice is the other one
passes : {X : Type 0} (b : Bool) (x : X) (o : Option X) → cond b (Some x) o ≡ None → (b ≡ false) × (o ≡ None)
passes true x o e = let z : ◌≡◌ {A = ℕ} 0 1 = cc in absurd (omega arith)
passes false x o e = (refl, e)

abbrev FewIn : Option Rule → Type 0
FewIn o = (sign : Sign) → length (body_in sign o) ≤ 6

few_in : (o : Option Rule) (x : CheckFault) (rest : Rule → Option CheckFault) → option_and_then (λ r. cond (ltb 6 (length r.positives) || ltb 6 (length r.negatives)) (Some x) (rest r)) o ≡ None → FewIn o
few_in None x rest e sign = omega arith
few_in (Some r) x rest e Positive = ltb-false 6 (length r.positives) (or_parts (ltb 6 (length r.positives)) (ltb 6 (length r.negatives)) (passes _ x (rest r) e).0).0
few_in (Some r) x rest e Negative = ltb-false 6 (length r.negatives) (or_parts (ltb 6 (length r.positives)) (ltb 6 (length r.negatives)) (passes _ x (rest r) e).0).1

module _ {S : Type 0} (m : Meaning S) (e : book_gap m ≡ None) where
  parts : ((ltb 1024 (length m.atoms) || ltb 1024 (length m.rules)) ≡ false) × (first_below (length m.rules) (rule_gap m) ≡ None)
  parts = passes (ltb 1024 (length m.atoms) || ltb 1024 (length m.rules)) _ _ e

  pub small_atoms : length m.atoms ≤ 1024
  small_atoms = ltb-false 1024 (length m.atoms) (or_parts (ltb 1024 (length m.atoms)) (ltb 1024 (length m.rules)) parts.0).0

  pub small_rules : length m.rules ≤ 1024
  small_rules = ltb-false 1024 (length m.rules) (or_parts (ltb 1024 (length m.atoms)) (ltb 1024 (length m.rules)) parts.0).1

  pub few_everywhere : Few m
  few_everywhere k =
      elim (cases_lt k (length m.rules)) [
        | inl below ↦ few_in (rule_at m k) _ _ (first_none (rule_gap m) (length m.rules) parts.1 k below)
        | inr past ↦
            let none : rule_at m k ≡ None = ap option_flatten (slice_get_past m.rules k past) in
            let few : FewIn None = λ sign. omega arith in
            subst FewIn (sym none) few
      ]
