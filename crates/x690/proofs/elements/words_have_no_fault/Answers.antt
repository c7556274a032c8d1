use Rattle.x690.specs.Laws.Faults.{header_or_fault, der_element_or_fault}
use Rattle.x690.proofs.elements.words_have_no_fault.Goals as goal

pub returns-clause-header : goal.returns-clause-header
returns-clause-header c =
    λ rule input front rest id form h e fault why. header_or_fault rule input front rest id form fault why h e

pub returns-clause-der_element : goal.returns-clause-der_element
returns-clause-der_element c = λ input front rest p a e fault why. der_element_or_fault input front rest p fault why a e
