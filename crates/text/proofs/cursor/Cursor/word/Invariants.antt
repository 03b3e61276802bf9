use Rattle.std.proofs.Common.{◌≡◌, drop}
use Rattle.text.specs.Words.{pass_word}
use Rattle.text.proofs.cursor.Cursor.word.Given as goal

-- what is left of the word decides
abbrev pub invariant-loop-byte : goal.invariant-loop-byte
invariant-loop-byte l =
    record {
      same : l.self.text.now ≡ l.fn.self.text.now;
      left : pass_word (drop l.byte-index l.word) l.fn.self.text.now l.self.at ≡ pass_word l.word l.fn.self.text.now l.fn.self.at;
    }
