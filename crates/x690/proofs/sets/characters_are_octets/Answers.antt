use Rattle.x690.specs.Laws.Sets.{in_set_utf8, in_set_octets}
use Rattle.x690.proofs.sets.characters_are_octets.Goals as goal

pub returns-clause-utf8 : goal.returns-clause-utf8
returns-clause-utf8 g c = in_set_utf8 g.S.CharacterSet.in_set g.met.S.CharacterSet.ascii

pub returns-clause-octets : goal.returns-clause-octets
returns-clause-octets g c = in_set_octets g.S.CharacterSet.in_set g.met.S.CharacterSet.ascii
