use Rattle.x690.specs.Laws.Ascending.Arranged.{arranged_length}
use Rattle.x509_name.specs.Attribute.{attribute_octets}
use Rattle.x509_name.specs.RelativeName.{HasNoAttribute, attributes}
use Rattle.x509_name.proofs.Writing.{count_refused}
use Rattle.x509_name.proofs.relative_name.RelativeDistinguishedNameToDer.der_content_len.Goals as goal

pub returns-clause-count : goal.returns-clause-count
returns-clause-count c = λ t. rw (arranged_length attribute_octets (attributes c.args.self.now))
    (c.der_content_len.ensures.count (λ k d l. tt))

pub returns-clause-refused : goal.returns-clause-refused
returns-clause-refused c = λ t. rw (arranged_length attribute_octets (attributes c.args.self.now))
    (count_refused _ _ (HasNoAttribute c.args.self.now) (attributes c.args.self.now) c.der_content_len.result
    (c.der_content_len.ensures.refused (λ k d l. tt)))
