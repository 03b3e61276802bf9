use Rattle.std.proofs.Common.{◌≡◌, ℕ, Option, None}
use Rattle.books.specs.Check.{Answers, first_below}
use Rattle.books.proofs.walk.first_refusal.Given as goal

-- nothing is refused among the tests passed
abbrev pub invariant-loop-i : goal.invariant-loop-i
invariant-loop-i g l = (f : ℕ → Option _) → Answers (goal.F-post g l.test) l.count f → first_below l.i f ≡ None
