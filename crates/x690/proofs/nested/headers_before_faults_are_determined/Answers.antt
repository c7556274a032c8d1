use Rattle.x690.specs.Laws.Nested.FaultHeaders.{one_count, fault_headers_half, fault_has_headers, headers_have_fault}
use Rattle.x690.proofs.nested.headers_before_faults_are_determined.Goals as goal

pub returns : goal.returns
returns c =
    record { one = one_count; half = fault_headers_half; counted = fault_has_headers; fault = headers_have_fault }
