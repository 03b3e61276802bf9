-- How many items a body holds.
use Rattle.std.proofs.Common.{◌≤◌, length, arith}
use Rattle.std.proofs.lemmas.List.{length-take-le}
use Rattle.makes.specs.Bodies.{body_items}
use Rattle.makes.specs.declared.body.Body.{Body}

pub few_items : {X : Type 0} (b : Body X) → length (body_items b) ≤ 6
few_items b = omega (arith, length-take-le b.len b.items b.within, b.few)
