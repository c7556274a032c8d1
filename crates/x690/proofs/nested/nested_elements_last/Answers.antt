use Rattle.x690.specs.Laws.Nested.{nested_element_lasts}
use Rattle.x690.proofs.nested.nested_elements_last.Goals as goal

pub returns : goal.returns
returns c = λ depth input more front other rest tail p r g h a s b t.
    nested_element_lasts depth input rest more other front tail r p g h a s b t
