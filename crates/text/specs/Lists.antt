-- Lists of numbers in brackets, with single spaces between them.
use Rattle.std.specs.Prelude.{ℕ, ◌+◌, Bool, true, false, cond, List, Some, None, Ok, Option, Result, ◌==◌}
use Rattle.std.specs.List.{slice_get}
use Rattle.books.specs.declared.fault.Fault.{Fault}
use Rattle.text.specs.Bytes.{and_then, wrong_at, pass_at}

-- past the opening bracket: no number follows where the closing one stands there
abbrev pub empty_if : ℕ → Option ℕ → Bool × ℕ
empty_if at None = (true, at)
empty_if at (Some b) = cond (b == 41) (false, at + 1) (true, at)

-- opens a list: whether a number follows, and where
unfoldable pub open_at : List ℕ → ℕ → Result (Bool × ℕ) Fault
open_at text at = and_then (pass_at 40 text at) (λ next. Ok (empty_if next (slice_get text next)))

-- a space leads on to another number, and a bracket closes the list
abbrev pub onward_if : ℕ → Option ℕ → Result (Bool × ℕ) Fault
onward_if at None = wrong_at at
onward_if at (Some b) = cond (b == 32) (Ok (true, at + 1)) (cond (b == 41) (Ok (false, at + 1)) (wrong_at at))

-- after a number of a list: whether another follows, and where
unfoldable pub onward_at : List ℕ → ℕ → Result (Bool × ℕ) Fault
onward_at text at = onward_if at (slice_get text at)
