-- Tests that are true or not, in every way that the arguments need them.
use Rattle.std.proofs.Common.{◌≡◌, Bool, true, false, not, ◌&&◌, ◌||◌, ◌⊎◌, refl, inl, inr, arith}
use Rattle.std.specs.Bool.{IsTrue}
use Rattle.std.proofs.lemmas.Bool.{false≢true}

-- a test that is false does not pass
pub never : {A : Type 0} → IsTrue false → A
never e = absurd (false≢true e)

pub and_in : (x y : Bool) → IsTrue x → IsTrue y → IsTrue (x && y)
and_in x y p q = grind arith

pub and_left : (x y : Bool) → IsTrue (x && y) → IsTrue x
and_left x y p = grind arith

pub and_right : (x y : Bool) → IsTrue (x && y) → IsTrue y
and_right x y p = grind arith

pub or_left : (x y : Bool) → IsTrue x → IsTrue (x || y)
or_left x y p = grind arith

pub or_right : (x y : Bool) → IsTrue y → IsTrue (x || y)
or_right x y p = grind arith

pub or_out : (x y : Bool) → IsTrue (x || y) → IsTrue x ⊎ IsTrue y
or_out true y p = inl refl
or_out false y p = inr p

pub not_in : (x : Bool) → (IsTrue x → ⊥) → IsTrue (not x)
not_in true f = absurd (f refl)
not_in false f = refl

pub not_out : (x : Bool) → IsTrue (not x) → IsTrue x → ⊥
not_out true p q = false≢true p
not_out false p q = false≢true q

pub false_out : (x : Bool) → x ≡ false → IsTrue x → ⊥
false_out x e p = false≢true (grind arith)

pub either : (x : Bool) → IsTrue x ⊎ (IsTrue x → ⊥)
either true = inl refl
either false = inr false≢true

pub same : (x y : Bool) → (IsTrue x → IsTrue y) → (IsTrue y → IsTrue x) → x ≡ y
same true true f g = refl
same true false f g = absurd (false≢true (f refl))
same false true f g = absurd (false≢true (g refl))
same false false f g = refl
