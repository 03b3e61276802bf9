use Rattle.std.proofs.Common.{◌≡◌, ◌+◌, drop}
use Rattle.text.specs.Written.{laid}
use Rattle.text.proofs.sheet.Sheet.put.Given as goal

-- what is left of the bytes gives the sheet
abbrev pub invariant-loop-byte : goal.invariant-loop-byte
invariant-loop-byte l = record {
  held : laid l.self.bytes.now l.self.at (drop l.byte-index l.bytes) ≡ laid l.initial.self.bytes.now l.initial.self.at l.bytes;
  place : l.self.at ≡ l.initial.self.at + l.byte-index;
  same : l.self.bytes.ghost_name ≡ l.initial.self.bytes.ghost_name;
}
