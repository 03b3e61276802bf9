use Rattle.std.proofs.Common.{◌≡◌, length}
use Rattle.bookcheck.proofs.input.Given as goal

-- the part that is read into keeps its length
abbrev pub invariant-loop : goal.invariant-loop
invariant-loop l = length l.part ≡ 4096
