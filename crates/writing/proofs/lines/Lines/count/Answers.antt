use Rattle.std.proofs.Common.{ap, ◌∙◌, arith}
use Rattle.std.specs.Option.{unwrap_or}
use Rattle.books.specs.Meaning.{rule_at}
use Rattle.writing.proofs.Lined.{count_in_body}
use Rattle.writing.proofs.lines.Lines.count.Goals as goal

pub returns-clause-few : goal.returns-clause-few
returns-clause-few g c =
    let count = c.unwrap_or.ensures ∙ ap (λ o. unwrap_or o 0) c.body_count.ensures ∙ count_in_body c.args.sign (rule_at (g.B.Book.meaning c.args.self.now.book.now) c.args.rule) in
    let few = c.args.self.now.few c.args.rule c.args.sign in
    omega arith
