use Rattle.std.proofs.Common.{◌%◌, arith}
use Rattle.std.proofs.lemmas.Nat.{one_shl, mod_below}
use Rattle.words.proofs.Adding.{has_number-with_number}
use Rattle.words.proofs.numbers.add.Goals as goal

pub returns-then-word-words-clause-only : goal.returns-then-word-words-clause-only
returns-then-word-words-clause-only c = λ l k. rw (one_shl (c.args.n % 64) 64 (mod_below c.args.n 64 (omega arith))) (has_number-with_number c.args.words.now c.args.n l k)
