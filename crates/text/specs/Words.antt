-- Words that stand in a text as they are.
use Rattle.std.specs.Prelude.{ℕ, ◌+◌, Bool, false, cond, List, [], ◌∷◌, Some, None, Ok, Option, Result, ◌==◌}
use Rattle.std.specs.List.{slice_get}
use Rattle.books.specs.declared.fault.Fault.{Fault}
use Rattle.text.specs.Bytes.{and_then, pass_at}

-- passes over the bytes of a word
unfoldable pub pass_word : List ℕ → List ℕ → ℕ → Result ℕ Fault
pass_word [] text at = Ok at
pass_word (b ∷ word) text at = and_then (pass_at b text at) (pass_word word text)

-- whether the byte is there
abbrev pub is_byte : ℕ → Option ℕ → Bool
is_byte byte None = false
is_byte byte (Some b) = b == byte

-- the place up to which the text agrees with a word
unfoldable pub agrees_to : List ℕ → List ℕ → ℕ → ℕ
agrees_to [] text at = at
agrees_to (b ∷ word) text at = cond (is_byte b (slice_get text at)) (agrees_to word text (at + 1)) at
