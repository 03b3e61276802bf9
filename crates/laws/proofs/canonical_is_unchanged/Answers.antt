use Rattle.grammar.proofs.Laws.{canonical_is_unchanged_lem, answer_is_its_own}
use Rattle.laws.proofs.canonical_is_unchanged.Goals as goal

pub returns : goal.returns
returns g c = record { unchanged = canonical_is_unchanged_lem _ g.met.S.Notated.lawful; answer = answer_is_its_own _ g.met.S.Notated.lawful }
