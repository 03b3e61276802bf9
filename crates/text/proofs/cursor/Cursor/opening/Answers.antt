use Rattle.std.proofs.Common.{ap, ◌∙◌}
use Rattle.std.proofs.lemmas.List.{take_rest}
use Rattle.text.specs.Kinds.{kind_of}
use Rattle.text.proofs.Opened.{opening_passed}
use Rattle.text.proofs.cursor.Cursor.opening.Goals as goal

pub returns-clause-passed : goal.returns-clause-passed
returns-clause-passed c =
    let text = c.args.self.now.text.now in
    let at = c.args.self.now.at in
    let told = c.in_ok-kind.ensures ∙ ap kind_of (c.in_ok-get.ensures.lookup.0.2 ∙ take_rest text at) in
    opening_passed text at c.in_ok-kind.kind c.opening.result.now c.opening.ensures.value told
