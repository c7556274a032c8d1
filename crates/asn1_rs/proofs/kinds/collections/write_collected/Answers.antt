use Rattle.std.proofs.Common.{◌∷◌, ◌<◌, arith, inl, length, refl, subst, sym, true}
use Rattle.std.proofs.lemmas.Result.{err_from_is_err_and}
use Rattle.std.proofs.lemmas.Bool.{false≢true}
use Rattle.x690.specs.Laws.Ascending.Arranged.{arranged_length}
use Rattle.asn1_rs.specs.Lists.{SomeRefuses}
use Rattle.std.specs.List.{All}
use Rattle.asn1_headers.specs.Error.{vector_refusal}
use Rattle.asn1_rs.specs.ToDer.{IntoVector, whole_octets, whole_refuses}
use Rattle.asn1_rs.proofs.Writing.{Wrote_nothing, only_may}
use Rattle.asn1_rs.proofs.kinds.collections.write_collected.Goals as goal

pub returns-in_err-encodings-clause-wrote : goal.returns-in_err-encodings-clause-wrote
returns-in_err-encodings-clause-wrote g c = λ t.
    let p = err_from_is_err_and c.from_residual.result c.from_residual.ensures.1 in
    rw (p.1, p.2) (Wrote_nothing _ _ c.in_err-encodings.ensures.memory)

pub returns-in_err-encodings-clause-refused : goal.returns-in_err-encodings-clause-refused
returns-in_err-encodings-clause-refused g c = λ t.
    let p = err_from_is_err_and c.from_residual.result c.from_residual.ensures.1 in
    rw (p.1, p.2) (rw (arranged_length (whole_octets g.T.ToDer.writing) (g.L.Listed.items c.args.set.now))
    (c.in_err-encodings.ensures.refused t))

pub returns-clause-wrote : goal.returns-clause-wrote
returns-clause-wrote g c = λ t. c.write_ascending.ensures.wrote _ (c.in_ok-encodings.ensures.each t)

pub returns-clause-refused : goal.returns-clause-refused
returns-clause-refused g c = λ t.
    only_may c.write_ascending.result true _
    (SomeRefuses (λ x. IntoVector (whole_refuses g.T.ToDer.writing x)) (g.L.Listed.items c.args.set.now))
    (c.write_ascending.ensures.refused _ (c.in_ok-encodings.ensures.each t))

pub returns-clause-accepted : goal.returns-clause-accepted
returns-clause-accepted g c = λ e t o. absurd (false≢true (c.in_ok-encodings.ensures.accepted e t o))

pub returns-clause-uncounted : goal.returns-clause-uncounted
returns-clause-uncounted g c = λ e t o. absurd (false≢true (c.in_ok-encodings.ensures.uncounted e t o))

pub returns-in_err-encodings-clause-at_once : goal.returns-in_err-encodings-clause-at_once
returns-in_err-encodings-clause-at_once g c = λ x xs e is t o.
    let p = err_from_is_err_and c.from_residual.result c.from_residual.ensures.1 in
    rw (p.1, p.2) (c.in_err-encodings.ensures.at_once x xs e is t o)

pub returns-clause-at_once : goal.returns-clause-at_once
returns-clause-at_once g c = λ x xs e is t o.
    let some : 0 < length (x ∷ xs) = omega arith in
    absurd (false≢true
    (c.in_ok-encodings.ensures.accepted (vector_refusal e) (subst (All g.T.ToDer.writing.tells) (sym is) t)
    (subst (λ ys. SomeRefuses (λ x. IntoVector (whole_refuses g.T.ToDer.writing x)) ys (vector_refusal e)) (sym is) (
      0,
      x,
      some,
      refl,
      (e, inl o, refl),
    ))))
