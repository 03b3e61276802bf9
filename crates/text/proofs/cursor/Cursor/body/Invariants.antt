use Rattle.std.proofs.Common.{◌≡◌, ◌-◌, length}
use Rattle.makes.specs.Bodies.{body_items}
use Rattle.text.proofs.Bodied.{Reads}
use Rattle.text.proofs.cursor.Cursor.body.Given as goal

abbrev pub invariant-loop-more : goal.invariant-loop-more
invariant-loop-more l =
    record {
      same : l.self.text.now ≡ l.fn.self.text.now;
      reads : Reads l.fn.self.text.now l.site l.before (l.initial.more, l.initial.self.at) (record { atoms = body_items l.body; more = l.more; next = l.self.at });
    }

-- a body has few items
abbrev pub decreases-loop-more : goal.decreases-loop-more
decreases-loop-more l = 7 - length (body_items l.body)
