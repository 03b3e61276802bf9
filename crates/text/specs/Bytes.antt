-- One byte of a text at a time: what may stand at a place, and the place after it.
use Rattle.std.specs.Prelude.{ℕ, ◌+◌, cond, List, Some, None, Ok, Err, Option, Result, ◌==◌}
use Rattle.std.specs.List.{slice_get}
use Rattle.books.specs.declared.fault.ReadFault.TheVariants.{Byte}
use Rattle.books.specs.declared.fault.Fault.{Fault}
use Rattle.books.specs.declared.fault.Fault.TheVariants.{Reading}

-- what f makes of a value, where there is no fault
abbrev pub and_then : {X Y : Type 0} → Result X Fault → (X → Result Y Fault) → Result Y Fault
and_then (Ok x) f = f x
and_then (Err e) f = Err e

-- the byte at the place, or the text's end, is not allowed there
abbrev pub wrong_at : {X : Type 0} → ℕ → Result X Fault
wrong_at at = Err (Reading (Byte at))

-- the place after, where the byte is the one that must stand there
abbrev pub pass_if : ℕ → ℕ → Option ℕ → Result ℕ Fault
pass_if byte at None = wrong_at at
pass_if byte at (Some b) = cond (b == byte) (Ok (at + 1)) (wrong_at at)

-- passes over one byte that must stand at the place
abbrev pub pass_at : ℕ → List ℕ → ℕ → Result ℕ Fault
pass_at byte text at = pass_if byte at (slice_get text at)
