use Rattle.std.proofs.Common.{sym, ◌∙◌}
use Rattle.x690.specs.Laws.Elements.{definite_element_unique, definite_element_is_octets, definite_possible}
use Rattle.x690.proofs.elements.definite_elements_unique.Goals as goal

pub returns-clause-unique : goal.returns-clause-unique
returns-clause-unique c = λ rule other_rule input front other rest tail p r a s b t.
    definite_element_unique rule other_rule front other rest tail p r a b (sym s ∙ t)

pub returns-clause-octets : goal.returns-clause-octets
returns-clause-octets c = definite_element_is_octets

pub returns-clause-possible : goal.returns-clause-possible
returns-clause-possible c = definite_possible
