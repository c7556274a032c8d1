use Rattle.x690.specs.Laws.Nested.{definite_is_nested, nested_is_definite}
use Rattle.x690.proofs.nested.definite_elements_are_nested.Goals as goal

pub returns-clause-nested : goal.returns-clause-nested
returns-clause-nested c = definite_is_nested

pub returns-clause-definite : goal.returns-clause-definite
returns-clause-definite c = nested_is_definite
