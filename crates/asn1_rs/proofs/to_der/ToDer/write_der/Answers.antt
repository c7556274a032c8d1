use Rattle.std.proofs.Common.{arith, subst, IfErr, ◌≡◌, false, refl}
use Rattle.std.proofs.lemmas.Bool.{false≢true}
use Rattle.std.proofs.lemmas.Result.{err_from_is_err_and}
use Rattle.asn1_headers.specs.Error.{tells_of_io}
use Rattle.asn1_headers.specs.Laws.Writing.{Wrote_front, Wrote_then_err, Wrote_sum, MayRefuse_sum}
use Rattle.asn1_rs.specs.ToDer.{whole_octets, whole_refuses}
use Rattle.asn1_rs.proofs.Writing.{header_refuses, content_refuses, header_refuses_at_once, header_not_refused}
use Rattle.asn1_rs.proofs.Writing.{written_keeps, keeps_or_may, whole_fits, only_may, Wrote_nothing, unmarked_is_no_io}
use Rattle.asn1_rs.proofs.to_der.ToDer.write_der.Goals as goal

pub returns-in_err-stands-clause-wrote : goal.returns-in_err-stands-clause-wrote
returns-in_err-stands-clause-wrote g c = λ t.
    let p = err_from_is_err_and c.from_residual.result c.from_residual.ensures.1 in
    let memory = subst (λ r. IfErr r (λ e. tells_of_io e ≡ false)) c.in_err-stands.ensures.refused.0
    (c.prepend_der.ensures.prepended t).memory in
    rw (p.1, p.2) (Wrote_nothing (whole_octets g.Self.ToDer.writing c.args.self.now) _ memory)

pub returns-in_err-header-clause-wrote : goal.returns-in_err-header-clause-wrote
returns-in_err-header-clause-wrote g c = λ t.
    let p = err_from_is_err_and c.from_residual-in_err-header.result c.from_residual-in_err-header.ensures.1 in
    rw (p.1, p.2) (Wrote_nothing (whole_octets g.Self.ToDer.writing c.args.self.now) _
    (unmarked_is_no_io _ false refl (c.in_err-header.ensures.wrote t).mark))

pub returns-in_err-content-clause-wrote : goal.returns-in_err-content-clause-wrote
returns-in_err-content-clause-wrote g c = λ t.
    let p = err_from_is_err_and c.from_residual-in_err-content.result c.from_residual-in_err-content.ensures.1 in
    rw (p.1, p.2) (Wrote_nothing (whole_octets g.Self.ToDer.writing c.args.self.now) _
    (unmarked_is_no_io _ false refl (c.in_err-content.ensures.wrote t).mark))

pub returns-in_err-before-clause-wrote : goal.returns-in_err-before-clause-wrote
returns-in_err-before-clause-wrote g c = λ t.
    let p = err_from_is_err_and c.from_residual-in_err-before.result c.from_residual-in_err-before.ensures.1 in
    rw (p.1, p.2) (Wrote_front (g.Self.ToDer.writing.content c.args.self.now) (c.in_err-before.ensures.wrote t))

pub returns-in_err-after-clause-wrote : goal.returns-in_err-after-clause-wrote
returns-in_err-after-clause-wrote g c = λ t.
    let p = err_from_is_err_and c.from_residual-in_err-after.result c.from_residual-in_err-after.ensures.1 in
    rw (p.1, p.2) (Wrote_then_err (c.in_ok-before.ensures.wrote t) (c.in_err-after.ensures.wrote t))

pub returns-clause-wrote : goal.returns-clause-wrote
returns-clause-wrote g c =
    λ t. Wrote_sum _ (c.in_ok-before.ensures.wrote t) (c.in_ok-after.ensures.wrote t) c.add_written-2.ensures

pub returns-in_err-header-clause-refused : goal.returns-in_err-header-clause-refused
returns-in_err-header-clause-refused g c = λ t.
    let p = err_from_is_err_and c.from_residual-in_err-header.result c.from_residual-in_err-header.ensures.1 in
    rw (p.1, p.2)
    (header_refuses g.Self.ToDer.writing c.args.self.now c.in_err-header.field-0.0 (c.in_err-header.ensures.refused t))

pub returns-in_err-before-clause-refused : goal.returns-in_err-before-clause-refused
returns-in_err-before-clause-refused g c = λ t.
    let p = err_from_is_err_and c.from_residual-in_err-before.result c.from_residual-in_err-before.ensures.1 in
    rw (p.1, p.2)
    (header_refuses g.Self.ToDer.writing c.args.self.now c.in_err-before.field-0.0 (c.in_err-before.ensures.refused t))

pub returns-in_err-content-clause-refused : goal.returns-in_err-content-clause-refused
returns-in_err-content-clause-refused g c = λ t.
    let p = err_from_is_err_and c.from_residual-in_err-content.result c.from_residual-in_err-content.ensures.1 in
    rw (p.1, p.2)
    (content_refuses g.Self.ToDer.writing c.args.self.now c.in_err-content.field-0.0
    (c.in_err-content.ensures.refused t))

pub returns-in_err-after-clause-refused : goal.returns-in_err-after-clause-refused
returns-in_err-after-clause-refused g c = λ t.
    let p = err_from_is_err_and c.from_residual-in_err-after.result c.from_residual-in_err-after.ensures.1 in
    rw (p.1, p.2)
    (content_refuses g.Self.ToDer.writing c.args.self.now c.in_err-after.field-0.0 (c.in_err-after.ensures.refused t))

pub returns-clause-refused : goal.returns-clause-refused
returns-clause-refused g c = λ t.
    only_may c.add_written-2.result _ _ (whole_refuses g.Self.ToDer.writing c.args.self.now)
    (MayRefuse_sum _ _ _ _ (c.in_ok-before.ensures.wrote t) (c.in_ok-after.ensures.wrote t) c.add_written-2.ensures)

pub returns-clause-accepted : goal.returns-clause-accepted
returns-clause-accepted g c = λ e t o. absurd (false≢true (c.in_ok-after.ensures.accepted e t o))

pub returns-clause-uncounted : goal.returns-clause-uncounted
returns-clause-uncounted g c = λ e t o. absurd (false≢true (c.in_ok-after.ensures.uncounted e t o))

pub returns-in_err-header-clause-at_once : goal.returns-in_err-header-clause-at_once
returns-in_err-header-clause-at_once g c = λ e t o.
    let p = err_from_is_err_and c.from_residual-in_err-header.result c.from_residual-in_err-header.ensures.1 in
    rw (p.1, p.2)
    (header_refuses_at_once g.Self.ToDer.writing c.args.self.now _ _ (c.in_err-header.ensures.at_once e t o))

pub returns-in_err-content-clause-at_once : goal.returns-in_err-content-clause-at_once
returns-in_err-content-clause-at_once g c = λ e t o.
    absurd (header_not_refused g.Self.ToDer.writing c.args.self.now (c.in_ok-header.ensures.at_once e t o))

pub returns-in_err-add_written-clause-at_once : goal.returns-in_err-add_written-clause-at_once
returns-in_err-add_written-clause-at_once g c = λ e t o.
    absurd (header_not_refused g.Self.ToDer.writing c.args.self.now (c.in_ok-header.ensures.at_once e t o))

pub returns-in_err-before-clause-at_once : goal.returns-in_err-before-clause-at_once
returns-in_err-before-clause-at_once g c = λ e t o.
    absurd (header_not_refused g.Self.ToDer.writing c.args.self.now (c.in_ok-header.ensures.at_once e t o))

pub returns-in_err-after-clause-at_once : goal.returns-in_err-after-clause-at_once
returns-in_err-after-clause-at_once g c = λ e t o.
    absurd (header_not_refused g.Self.ToDer.writing c.args.self.now (c.in_ok-header.ensures.at_once e t o))

pub returns-clause-at_once : goal.returns-clause-at_once
returns-clause-at_once g c = λ e t o.
    absurd (header_not_refused g.Self.ToDer.writing c.args.self.now (c.in_ok-header.ensures.at_once e t o))

pub returns-in_err-before-clause-kept : goal.returns-in_err-before-clause-kept
returns-in_err-before-clause-kept g c = λ t.
    written_keeps g.Self.ToDer.writing c.args.self.now _ _ c.in_ok-header.header c.in_ok-content.content _
    (λ e o. c.in_ok-header.ensures.at_once e t o) (λ e o. c.in_ok-content.ensures.accepted e t o)
    (whole_fits _ _ (c.in_ok-header.ensures.wrote t) (c.in_ok-content.ensures.wrote t) c.in_ok-add_written.ensures
    (omega arith))
    (returns-in_err-before-clause-refused g c t)

pub returns-in_err-after-clause-kept : goal.returns-in_err-after-clause-kept
returns-in_err-after-clause-kept g c = λ t.
    written_keeps g.Self.ToDer.writing c.args.self.now _ _ c.in_ok-header.header c.in_ok-content.content _
    (λ e o. c.in_ok-header.ensures.at_once e t o) (λ e o. c.in_ok-content.ensures.accepted e t o)
    (whole_fits _ _ (c.in_ok-header.ensures.wrote t) (c.in_ok-content.ensures.wrote t) c.in_ok-add_written.ensures
    (omega arith))
    (returns-in_err-after-clause-refused g c t)

pub returns-clause-kept : goal.returns-clause-kept
returns-clause-kept g c = λ t.
    let fits = whole_fits _ _ (c.in_ok-header.ensures.wrote t) (c.in_ok-content.ensures.wrote t)
    c.in_ok-add_written.ensures (omega arith) in
    keeps_or_may c.add_written-2.result _ _ (λ _. ⊥) _ _ fits (λ e o. o)
    (only_may c.add_written-2.result _ _ _
    (MayRefuse_sum _ _ _ _ (c.in_ok-before.ensures.wrote t) (c.in_ok-after.ensures.wrote t) c.add_written-2.ensures))
