use Rattle.x690.specs.Laws.Nested.Complete.{element_or_has_fault, element_or_fault_headers, content_or_has_fault}
use Rattle.x690.proofs.nested.nested_faults_are_complete.Goals as goal

pub returns : goal.returns
returns c =
    record { element = element_or_has_fault; headers = element_or_fault_headers; content = content_or_has_fault }
