use Rattle.x690.specs.Laws.Faults.Complete.{header_or_has_fault, der_element_or_has_fault}
use Rattle.x690.proofs.elements.faults_are_complete.Goals as goal

pub returns : goal.returns
returns c = record { header = header_or_has_fault; der_element = der_element_or_has_fault }
