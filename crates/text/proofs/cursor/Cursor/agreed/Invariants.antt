use Rattle.std.proofs.Common.{◌≡◌, drop}
use Rattle.text.specs.Words.{agrees_to}
use Rattle.text.proofs.cursor.Cursor.agreed.Given as goal

-- what is left of the word decides
abbrev pub invariant-loop-byte : goal.invariant-loop-byte
invariant-loop-byte l = agrees_to (drop l.byte-index l.word) l.self.text.now l.next ≡ agrees_to l.word l.self.text.now l.self.at
