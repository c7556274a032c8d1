use Rattle.std.proofs.Common.{inl, inr, refl}
use Rattle.std.proofs.lemmas.Result.{err_from_is_err_and}
use Rattle.x509_name.proofs.Headers.{some_left}
use Rattle.x509_name.proofs.attribute.parts_of.Goals as goal

pub returns-in_err-content-2 : goal.returns-in_err-content-2
returns-in_err-content-2 c =
    let p = err_from_is_err_and c.from_residual-in_err-content-2.result c.from_residual-in_err-content-2.ensures.1 in
    rw (p.1, p.2) (inr (
      c.in_ok-content.content.now,
      c.in_ok-content.oid,
      c.in_ok-content.ensures,
      inl c.in_err-content-2.ensures,
    ))

pub returns-then-not-is_empty : goal.returns-then-not-is_empty
returns-then-not-is_empty c = inr (
  c.in_ok-content.content.now,
  c.in_ok-content.oid,
  c.in_ok-content.ensures,
  inr (
    c.in_ok-content-2.content.now,
    c.in_ok-content-2.value,
    c.in_ok-content-2.ensures,
    some_left c.in_ok-content-2.content.now c.is_empty.result
        c.if-not-is_empty.true c.is_empty.ensures,
    refl,
  ),
)
