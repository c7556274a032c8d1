use Rattle.x690.specs.Laws.Faults.{no_header, no_der_element}
use Rattle.x690.proofs.elements.faults_are_final.Goals as goal

pub returns-clause-header : goal.returns-clause-header
returns-clause-header c = λ rule input more fault why speaks front rest id form h e.
    no_header rule input more front rest id form fault why speaks h e

pub returns-clause-der_element : goal.returns-clause-der_element
returns-clause-der_element c =
    λ input more fault why speaks front rest p a e. no_der_element input more front rest p fault why speaks a e
