use Rattle.x509_name.specs.Attribute.{attribute_octets}
use Rattle.x509_name.proofs.Writing.{neither, one_put, only_content}
use Rattle.x509_name.proofs.relative_name.prepend_some.Goals as goal

pub returns-in-Some-clause-prepended : goal.returns-in-Some-clause-prepended
returns-in-Some-clause-prepended c =
    rw (only_content attribute_octets c.args.attributes.now c.in-Some.attribute.now c.in-Some.ensures)
    (c.prepend_der.ensures.prepended tt)

pub returns-in-Some-clause-refused : goal.returns-in-Some-clause-refused
returns-in-Some-clause-refused c =
    rw (only_content attribute_octets c.args.attributes.now c.in-Some.attribute.now c.in-Some.ensures)
    (one_put _ c.prepend_der.result (c.prepend_der.ensures.refused tt))

pub returns-in-None-clause-prepended : goal.returns-in-None-clause-prepended
returns-in-None-clause-prepended c = c.prepend_set.ensures.prepended (λ k d l. tt)

pub returns-in-None-clause-refused : goal.returns-in-None-clause-refused
returns-in-None-clause-refused c = c.prepend_set.ensures.refused (λ k d l. tt) (λ x. neither)
