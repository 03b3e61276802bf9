-- What a kind of stamp keeps, so that the laws of the text hold of it.
use Rattle.std.specs.Prelude.{◌≡◌, List, ℕ}
use Rattle.grammar.specs.Agreement.{Agrees, NoDigit}
use Rattle.grammar.specs.Notations.{Notation}
use Rattle.grammar.specs.Pieces.{kept, plain}

-- what is asked of a kind of stamp
pub record Lawful {S : Type 0} (n : Notation S) : Type 0 where
  -- reading a stamp is reading a piece of the grammar, where no digit follows it
  pub agrees : Agrees n.stamp_at n.spells NoDigit
  -- a stamp that fits is written as a piece with no leading zeros, and no other piece of it has none
  pub canonical : (s : S) → n.Fits s → n.spells plain s (n.spelt s)
  pub unique : (s : S) (text : List ℕ) → n.spells plain s text → text ≡ n.spelt s
  -- a stamp that a text has, keeping every rule, fits
  pub held : (s : S) (text : List ℕ) → n.spells kept s text → n.Fits s
  -- a piece with no leading zeros keeps every rule
  pub plainly : (s : S) (text : List ℕ) → n.spells plain s text → n.spells kept s text
