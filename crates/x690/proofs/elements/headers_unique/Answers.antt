use Rattle.std.proofs.Common.{sym, ◌∙◌}
use Rattle.x690.specs.Laws.Headers.{header_unique, header_is_octets}
use Rattle.x690.proofs.elements.headers_unique.Goals as goal

pub returns-clause-unique : goal.returns-clause-unique
returns-clause-unique c = λ rule other_rule input front other rest tail id jd f g h s k t.
    header_unique rule other_rule front other rest tail id jd f g h k (sym s ∙ t)

pub returns-clause-octets : goal.returns-clause-octets
returns-clause-octets c = header_is_octets
