use Rattle.x690.specs.Faults.{missing}
use Rattle.x690.specs.Laws.Nested.Faults.{one_element_fault, element_fault_counts}
use Rattle.x690.proofs.nested.one_nested_fault.Goals as goal

pub returns-clause-one : goal.returns-clause-one
returns-clause-one c = one_element_fault

pub returns-clause-some : goal.returns-clause-some
returns-clause-some c = λ depth input n why. element_fault_counts depth input (missing n) why
