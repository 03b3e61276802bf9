use Rattle.grammar.proofs.Laws.{written_is_read_back_lem}
use Rattle.laws.proofs.written_is_read_back.Goals as goal

pub returns : goal.returns
returns g c = written_is_read_back_lem _ g.met.S.Notated.lawful
