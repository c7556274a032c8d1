use Rattle.std.proofs.Common.{sym, ◌∙◌}
use Rattle.x690.specs.Laws.Nested.{nested_element_unique_deep, nested_element_is_octets, nested_possible}
use Rattle.x690.proofs.nested.nested_elements_unique.Goals as goal

pub returns-clause-unique : goal.returns-clause-unique
returns-clause-unique c = λ depth other_depth input front other rest tail p r g h a s b t.
    nested_element_unique_deep depth other_depth front other rest tail p r g h a b (sym s ∙ t)

pub returns-clause-octets : goal.returns-clause-octets
returns-clause-octets c = nested_element_is_octets

pub returns-clause-possible : goal.returns-clause-possible
returns-clause-possible c = nested_possible
