-- The place at which the program refuses a byte, whatever the word of the order.
use Rattle.std.specs.Prelude.{◌≡◌, ℕ, ◌+◌, ◌<◌, ◌≤◌, ◌⊎◌, List, ◌++◌, length, take, Err}
use Rattle.books.specs.declared.fault.ReadFault.TheVariants.{Byte}
use Rattle.books.specs.declared.fault.Fault.TheVariants.{Reading}
use Rattle.writing.specs.Replies.{program_at}
use Rattle.grammar.specs.Notations.{ticks, routes, pairs}
use Rattle.grammar.specs.Theorems.{Shaped}

-- the text has the shape of some book's, of one of the three kinds
abbrev pub ShapedAny : List ℕ → Type 0
ShapedAny text = Shaped ticks text ⊎ (Shaped routes text ⊎ Shaped pairs text)

-- what stands before the place begins a text of one of the three shapes, and with the byte at the place it begins none
pub record RefusedByAll (text : List ℕ) (k : ℕ) : Type 0 where
  pub within : k ≤ length text
  pub before : (more : List ℕ) × ShapedAny (take k text ++ more)
  pub none : k < length text → (more : List ℕ) → ShapedAny (take (k + 1) text ++ more) → ⊥

-- it is so of every input that the program refuses for a byte
abbrev pub ProgramRefusesThere : Type 0
ProgramRefusesThere =
    (text : List ℕ) (tick_rows route_rows pair_rows rules room k : ℕ)
    → program_at text tick_rows route_rows pair_rows rules room ≡ Err (Reading (Byte k)) → RefusedByAll text k
