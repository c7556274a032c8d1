use Rattle.std.proofs.Common.{arith, subst, suc, ◌≡◌, ◌+◌}
use Rattle.x690.specs.Nested.{IsNestedElement}
use Rattle.x690.specs.Laws.Nested.Contents.{element_made, content_fault_behind}
use Rattle.x690.proofs.nested.headers_and_contents_are_elements.Goals as goal

pub returns-clause-element : goal.returns-clause-element
returns-clause-element c = λ depth input header after content rest id form headers some octets h s a.
    let m = element_made depth input header after content rest id form headers some octets h s a in
    let n : suc headers ≡ headers + 1 = omega arith in
    (m.0, subst (λ k. IsNestedElement depth m.0 (record { id = id; form = form; content = content }) k) n m.1, m.2)

pub returns-clause-fault : goal.returns-clause-fault
returns-clause-fault c = content_fault_behind
