use Rattle.std.proofs.Common.{Some, sym, ap, ◌∙◌}
use Rattle.text.specs.declared.order.Word.TheVariants as word
use Rattle.writing.proofs.Replying.{replied_as, program_is}
use Rattle.writing.proofs.reply.canonical_of.Goals as goal
use Rattle.writing.proofs.reply.canonical_of.Goals.{in-Tick, in-Route, in-Then}

pub returns : goal.returns
returns c =
    elim c.match-word.branch [
      | in-Tick w ↦ rw (w.result-is, w.sheet-is) (replied_as _ _ _ _ _ (program_is c.args.text.now _ _ _ _ _ (Some word.Tick) c.if-text-gt-MAX_INPUT.false (ap Some (sym w.in-Tick.is) ∙ c.in-Some.ensures)) w.canonical.ensures)
      | in-Route w ↦ rw (w.result-is, w.sheet-is) (replied_as _ _ _ _ _ (program_is c.args.text.now _ _ _ _ _ (Some word.Route) c.if-text-gt-MAX_INPUT.false (ap Some (sym w.in-Route.is) ∙ c.in-Some.ensures)) w.canonical-in-Route.ensures)
      | in-Then w ↦ rw (w.result-is, w.sheet-is) (replied_as _ _ _ _ _ (program_is c.args.text.now _ _ _ _ _ (Some word.Then) c.if-text-gt-MAX_INPUT.false (ap Some (sym w.in-Then.is) ∙ c.in-Some.ensures)) w.canonical-in-Then.ensures)
    ]
