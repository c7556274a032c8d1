use Rattle.x690.specs.Laws.Nested.Faults.{no_element}
use Rattle.x690.proofs.nested.nested_faults_are_final.Goals as goal

pub returns : goal.returns
returns c = λ depth input more fault why speaks front rest p h a e.
    no_element depth input more front rest p h fault why speaks a e
