use Rattle.std.proofs.Common.{◌≡◌, ◌+◌, ◌-◌}
use Rattle.text.proofs.Digits.{Read}
use Rattle.text.proofs.cursor.Cursor.digits.Given as goal

-- as many digits are read as bytes are passed
abbrev pub invariant-loop-digit : goal.invariant-loop-digit
invariant-loop-digit l =
    record {
      same : l.self.text.now ≡ l.fn.self.text.now;
      read : Read l.fn.self.text.now l.start l.value l.self.at (l.self.at - l.start);
    }

-- ten digits are read at most
abbrev pub decreases-loop-digit : goal.decreases-loop-digit
decreases-loop-digit l = l.start + 10 - l.self.at
