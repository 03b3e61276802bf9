-- One step done over and over.
use Rattle.std.specs.Prelude.{ℕ, zero, suc, Ok, Result}
use Rattle.books.specs.declared.fault.Fault.{Fault}
use Rattle.text.specs.Bytes.{and_then}

-- what f makes of x in n turns
unfoldable pub turns : {X : Type 0} → (X → X) → X → ℕ → X
turns f x zero = x
turns f x (suc n) = f (turns f x n)

-- the same with a step that may be refused, up to the first fault
abbrev pub tries : {X : Type 0} → (X → Result X Fault) → X → ℕ → Result X Fault
tries f x n = turns (λ r. and_then r f) (Ok x) n
