use Rattle.std.proofs.Common.{◌^◌, ◌<◌, arith}
use Rattle.std.proofs.lemmas.Fmt.{decimal_digit, decimal_step}
use Rattle.text.proofs.Laid.{◌then◌, writes_as, decimal_short}
use Rattle.text.proofs.sheet.Sheet.+number.Goals as goal

pub returns-then-number-lt10-clause-wrote : goal.returns-then-number-lt10-clause-wrote
returns-then-number-lt10-clause-wrote t c = writes_as _ (decimal_digit c.args.number c.if-number-lt10.true) c.put.ensures

pub returns : goal.returns
returns t c =
    let n = c.args.number in
    let fits : n < 2 ^ 64 = omega arith in
    let w = writes_as _ (decimal_step n c.if-number-lt10.false fits) (c.number.ensures.wrote then c.put-2.ensures) in
    record { wrote = w; short = omega (arith, decimal_short n fits, w.wrote.place) }
