use Rattle.x690.specs.Laws.Nested.{nested_element_deeper}
use Rattle.x690.proofs.nested.depths_include_lesser_ones.Goals as goal

pub returns : goal.returns
returns c = nested_element_deeper
