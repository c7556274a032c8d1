use Rattle.x509_name.specs.Attribute.{attribute_octets}
use Rattle.x509_name.proofs.Writing.{neither, only_content, one_written}
use Rattle.x509_name.proofs.relative_name.write_some.Goals as goal

pub returns-in-Some-clause-wrote : goal.returns-in-Some-clause-wrote
returns-in-Some-clause-wrote g c =
    rw (only_content attribute_octets c.args.attributes.now c.in-Some.attribute.now c.in-Some.ensures)
    (c.write_der.ensures.wrote tt)

pub returns-in-Some-clause-refused : goal.returns-in-Some-clause-refused
returns-in-Some-clause-refused g c =
    rw (only_content attribute_octets c.args.attributes.now c.in-Some.attribute.now c.in-Some.ensures)
    (one_written _ c.write_der.result (c.write_der.ensures.refused tt))

pub returns-in-None-clause-wrote : goal.returns-in-None-clause-wrote
returns-in-None-clause-wrote g c = c.write_set.ensures.wrote (λ k d l. tt)

pub returns-in-None-clause-refused : goal.returns-in-None-clause-refused
returns-in-None-clause-refused g c = c.write_set.ensures.refused (λ k d l. tt) (λ x. neither)
