use Rattle.x690.specs.Laws.Nested.Faults.{element_or_fault}
use Rattle.x690.proofs.nested.nested_elements_have_no_fault.Goals as goal

pub returns : goal.returns
returns c = λ depth input front rest p h a e fault why. element_or_fault depth input front rest p h fault why a e
