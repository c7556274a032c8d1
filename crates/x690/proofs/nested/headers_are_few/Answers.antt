use Rattle.x690.specs.Laws.Nested.{nested_element_two, nested_element_half}
use Rattle.x690.proofs.nested.headers_are_few.Goals as goal

pub returns-clause-two : goal.returns-clause-two
returns-clause-two c = nested_element_two

pub returns-clause-half : goal.returns-clause-half
returns-clause-half c = nested_element_half
