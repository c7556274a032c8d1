use Rattle.asn1_rs.specs.Sequence.Iterator.{octets_left, ElementsGive, IsSame}
use Rattle.asn1_rs.specs.Laws.Sequence.IndefiniteContents.{indefinite_walk}
use Rattle.asn1_rs.specs.Laws.Sequence.Iterator.{octets_walked, run_walked}
use Rattle.asn1_rs.proofs.asn1_types.sequence.iterator.indefinite_contents_are_walked.Goals as goal

pub returns-clause-calls : goal.returns-clause-calls
returns-clause-calls c = λ input x s t answers g f e y. indefinite_walk input x (octets_left s) answers
    (octets_left t) g f e (octets_walked ElementsGive IsSame s t answers y)

pub returns-clause-run : goal.returns-clause-run
returns-clause-run c = λ input x p g f e.
    run_walked ElementsGive IsSame _ _ _ p (λ left y. indefinite_walk input x (octets_left p.from) p.items left g f e y)
