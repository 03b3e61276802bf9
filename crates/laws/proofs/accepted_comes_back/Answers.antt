use Rattle.grammar.proofs.Laws.{accepted_comes_back_lem}
use Rattle.laws.proofs.accepted_comes_back.Goals as goal

pub returns : goal.returns
returns g c = accepted_comes_back_lem _ g.met.S.Notated.lawful
