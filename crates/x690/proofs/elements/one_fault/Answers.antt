use Rattle.x690.specs.Laws.Faults.{one_header_fault, one_der_fault}
use Rattle.x690.proofs.elements.one_fault.Goals as goal

pub returns-clause-header : goal.returns-clause-header
returns-clause-header c = one_header_fault

pub returns-clause-der_element : goal.returns-clause-der_element
returns-clause-der_element c = one_der_fault
