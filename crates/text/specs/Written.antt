-- Bytes on a sheet.
use Rattle.std.specs.Prelude.{◌≡◌, ℕ, ◌+◌, List, [], ◌∷◌, length, slice_set}
use Rattle.text.specs.declared.sheet.Sheet.{Sheet}

-- the sheet with bytes laid from a place on; what falls beyond its end is lost
unfoldable pub laid : List ℕ → ℕ → List ℕ → List ℕ
laid sheet at [] = sheet
laid sheet at (b ∷ bytes) = laid (slice_set sheet at b) (at + 1) bytes

-- the bytes stand on the sheet from a place on, and the next place is after them
pub record Wrote (was : List ℕ) (at : ℕ) (bytes : List ℕ) (sheet : List ℕ) (next : ℕ) : Type 0 where
  pub held : sheet ≡ laid was at bytes
  pub place : next ≡ at + length bytes

-- the bytes stand on the sheet from its place on, and its place is after them
pub record Writes (was : Sheet) (bytes : List ℕ) (is : Sheet) : Type 0 where
  pub wrote : Wrote was.bytes.now was.at bytes is.bytes.now is.at
  pub same : is.bytes.ghost_name ≡ was.bytes.ghost_name
