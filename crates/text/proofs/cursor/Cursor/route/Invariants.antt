use Rattle.std.proofs.Common.{◌≡◌, ◌-◌}
use Rattle.text.proofs.Risen.{Risen}
use Rattle.text.proofs.cursor.Cursor.route.Given as goal

abbrev pub invariant-loop-more : goal.invariant-loop-more
invariant-loop-more l =
    record {
      same : l.self.text.now ≡ l.fn.self.text.now;
      risen : Risen l.fn.self.text.now (l.initial.more, l.initial.self.at) (record { aisles = l.aisles; least = l.least; more = l.more; next = l.self.at });
    }

-- the aisles so far are below 64
abbrev pub decreases-loop-more : goal.decreases-loop-more
decreases-loop-more l = 64 - l.least
