use Rattle.std.proofs.Common.{refl, sym}
use Rattle.std.proofs.lemmas.Result.{err_from_is_err_and}
use Rattle.asn1_headers.specs.Laws.Prepending.{Prepended_refused}
use Rattle.asn1_rs.specs.ToDer.{whole_octets, whole_refuses}
use Rattle.x509_name.proofs.Writing.{all_held, held_content, set_put}
use Rattle.x509_name.proofs.set.prepend_set.Goals as goal

pub returns-in_err-set_of-clause-prepended : goal.returns-in_err-set_of-clause-prepended
returns-in_err-set_of-clause-prepended g c = λ t.
    let p = err_from_is_err_and c.from_residual.result c.from_residual.ensures.1 in
    rw (p.1, p.2) (Prepended_refused _ _ _ _ refl (rw c.in_err-set_of.ensures.refused refl))

pub returns-clause-prepended : goal.returns-clause-prepended
returns-clause-prepended g c = λ t.
    let is = c.in_ok-set_of.ensures.set in
    rw (sym (held_content (λ r. r.now) (whole_octets g.T.ToDer.writing) _ _ is))
    (c.prepend_der_content.ensures.prepended (all_held (λ r. r.now) g.T.ToDer.writing.tells _ _ is t))

pub returns-clause-refused : goal.returns-clause-refused
returns-clause-refused g c = λ t none.
    let is = c.in_ok-set_of.ensures.set in
    rw (sym (held_content (λ r. r.now) (whole_octets g.T.ToDer.writing) _ _ is))
    (set_put _ _ (λ r. whole_refuses g.T.ToDer.writing r.now) (λ r. none r.now) c.prepend_der_content.result
    (c.prepend_der_content.ensures.refused (all_held (λ r. r.now) g.T.ToDer.writing.tells _ _ is t)))
