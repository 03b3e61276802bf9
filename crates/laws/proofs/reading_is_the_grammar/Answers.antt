use Rattle.grammar.proofs.Laws.{reading_is_the_grammar_lem, degrees_nest}
use Rattle.laws.proofs.reading_is_the_grammar.Goals as goal

pub returns : goal.returns
returns g c = record { reading = reading_is_the_grammar_lem _ g.met.S.Notated.lawful; degrees = degrees_nest _ g.met.S.Notated.lawful }
