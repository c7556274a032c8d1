use Rattle.std.proofs.Common.{sym}
use Rattle.asn1_rs.specs.ToDer.{whole_octets, whole_refuses}
use Rattle.x509_name.proofs.Writing.{all_held, held_content, set_written}
use Rattle.x509_name.proofs.set.write_set.Goals as goal

pub returns-clause-wrote : goal.returns-clause-wrote
returns-clause-wrote g c = λ t.
    let is = c.in_ok-set_of.ensures.set in
    rw (sym (held_content (λ r. r.now) (whole_octets g.T.ToDer.writing) _ _ is))
    (c.write_der_content.ensures.wrote (all_held (λ r. r.now) g.T.ToDer.writing.tells _ _ is t))

pub returns-clause-refused : goal.returns-clause-refused
returns-clause-refused g c = λ t none.
    let is = c.in_ok-set_of.ensures.set in
    rw (sym (held_content (λ r. r.now) (whole_octets g.T.ToDer.writing) _ _ is))
    (set_written _ _ (λ r. whole_refuses g.T.ToDer.writing r.now) (λ r. none r.now) c.write_der_content.result
    (c.write_der_content.ensures.refused (all_held (λ r. r.now) g.T.ToDer.writing.tells _ _ is t)))
