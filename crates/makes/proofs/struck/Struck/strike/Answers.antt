use Rattle.std.proofs.Common.{arith}
use Rattle.std.proofs.lemmas.Nat.{div_below}
use Rattle.makes.proofs.Striking.{stands_more, struck_again}
use Rattle.makes.proofs.struck.Struck.strike.Goals as goal

pub returns-clause-stands : goal.returns-clause-stands
returns-clause-stands g c =
    let room = div_below c.args.rule 64 16 (omega arith) (omega arith) in
    λ _. stands_more _ _ _ _ (c.add.ensures.only (omega (arith, room))) _

pub returns-clause-again : goal.returns-clause-again
returns-clause-again g c =
    let room = div_below c.args.rule 64 16 (omega arith) (omega arith) in
    struck_again _ _ _ _ (c.add.ensures.only (omega (arith, room)))
