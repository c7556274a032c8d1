use Rattle.x690.specs.Laws.Faults.{der_element_or_fault}
use Rattle.asn1_schema.proofs.elements.der_element.Goals as goal

pub returns-clause-none : goal.returns-clause-none
returns-clause-none c = λ word rest p is a.
    der_element_or_fault c.args.octets.now word rest p c.in-Err.ensures.0 c.in-Err.ensures.1 a is
