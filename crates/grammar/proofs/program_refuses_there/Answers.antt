use Rattle.grammar.proofs.ProgramRefuses.{program_refuses_there_lem}
use Rattle.grammar.proofs.program_refuses_there.Goals as goal

pub returns : goal.returns
returns c = program_refuses_there_lem
