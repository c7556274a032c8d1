use Rattle.std.proofs.Common.{refl}
use Rattle.std.proofs.lemmas.Result.{err_from_is_err_and}
use Rattle.std.proofs.lemmas.Bool.{false≢true}
use Rattle.x690.specs.Laws.Ascending.Arranged.{arranged_length}
use Rattle.asn1_headers.specs.Laws.Prepending.{Prepended_refused}
use Rattle.asn1_rs.specs.ToDer.{whole_octets}
use Rattle.asn1_rs.proofs.Prepending.{collected_refused, may_put}
use Rattle.asn1_rs.proofs.kinds.collections.WritesAscending.prepend_each.Goals as goal

pub returns-in_err-encodings-clause-prepended : goal.returns-in_err-encodings-clause-prepended
returns-in_err-encodings-clause-prepended g c = λ t.
    let p = err_from_is_err_and c.from_residual.result c.from_residual.ensures.1 in
    rw (p.1, p.2) (Prepended_refused _ _ _ _ refl c.in_err-encodings.ensures.memory)

pub returns-in_err-encodings-clause-refused : goal.returns-in_err-encodings-clause-refused
returns-in_err-encodings-clause-refused g c = λ t.
    let p = err_from_is_err_and c.from_residual.result c.from_residual.ensures.1 in
    rw (p.1, p.2) (rw (arranged_length (whole_octets g.Self.Item.ToDer.writing) (g.Self.Listed.items c.args.self.now))
    (collected_refused _ _ _ _ _ (c.in_err-encodings.ensures.refused t)))

pub returns-clause-prepended : goal.returns-clause-prepended
returns-clause-prepended g c = λ t. c.prepend_ascending.ensures.prepended _ (c.in_ok-encodings.ensures.each t)

pub returns-clause-refused : goal.returns-clause-refused
returns-clause-refused g c = λ t.
    may_put c.prepend_ascending.result _ _ (c.prepend_ascending.ensures.refused _ (c.in_ok-encodings.ensures.each t))

pub returns-clause-accepted : goal.returns-clause-accepted
returns-clause-accepted g c = λ e t o. absurd (false≢true (c.in_ok-encodings.ensures.accepted e t o))

pub returns-clause-uncounted : goal.returns-clause-uncounted
returns-clause-uncounted g c = λ e t o. absurd (false≢true (c.in_ok-encodings.ensures.uncounted e t o))
