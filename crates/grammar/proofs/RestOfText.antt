-- What stands at a place of a text, and from it on.
use Rattle.std.proofs.Common.{◌≡◌, ℕ, zero, suc, ◌+◌, List, [], ◌∷◌, ◌++◌, length, drop, Some, sym, refl, ap, ◌∙◌, add-one, arith}
use Rattle.std.proofs.lemmas.List.{append_assoc, length-append, drop-drop, drop_at}
use Rattle.std.specs.List.{slice_get}
use Rattle.grammar.specs.Agreement.{Between}

-- the byte at a place is the first of what stands from it on
pub slice_get_front : (text : List ℕ) (at : ℕ) → slice_get text at ≡ slice_get (drop at text) 0
slice_get_front [] zero = refl
slice_get_front [] (suc at) = refl
slice_get_front (b ∷ text) zero = refl
slice_get_front (b ∷ text) (suc at) = slice_get_front text at

drop_suc : (text : List ℕ) (at b : ℕ) → slice_get text at ≡ Some b → drop at text ≡ b ∷ drop (suc at) text
drop_suc [] at b e = absurd (grind arith)
drop_suc (x ∷ text) zero b e = grind arith
drop_suc (x ∷ text) (suc at) b e = drop_suc text at b e

-- a byte at a place, and what follows it
drop_step : (text : List ℕ) (at b : ℕ) → slice_get text at ≡ Some b → drop at text ≡ b ∷ drop (at + 1) text
drop_step text at b e = rw add-one (drop_suc text at b e)

-- past a piece stands what follows it
pub drop_past : (text : List ℕ) (at : ℕ) (piece rest : List ℕ) → drop at text ≡ piece ++ rest → drop (at + length piece) text ≡ rest
drop_past text at piece rest e = sym (drop-drop (length piece) at text) ∙ ap (drop (length piece)) e ∙ drop_at piece rest (length piece) refl

-- two pieces one after another
pub between_join : (text : List ℕ) (at mid next : ℕ) (p q : List ℕ) → Between text at mid p → Between text mid next q → Between text at next (p ++ q)
between_join text at mid next p q a b =
    record {
      stands = grind (arith, a.stands, b.stands, append_assoc);
      place = omega (arith, a.place, b.place, length-append p q);
    }

-- nothing stands between a place and itself
pub between_none : (text : List ℕ) (at : ℕ) → Between text at at []
between_none text at = record { stands = refl; place = omega arith }

-- one byte
pub between_one : (text : List ℕ) (at b : ℕ) → slice_get text at ≡ Some b → Between text at (at + 1) (b ∷ [])
between_one text at b e = record { stands = drop_step text at b e; place = refl }
