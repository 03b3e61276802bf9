use Rattle.grammar.proofs.Laws.{refused_at_the_first_byte_lem}
use Rattle.laws.proofs.refused_at_the_first_byte.Goals as goal

pub returns : goal.returns
returns g c = refused_at_the_first_byte_lem _ g.met.S.Notated.lawful
