use Rattle.std.proofs.Common.{◌∙◌, inl, inr, refl, sym}
use Rattle.std.proofs.lemmas.Bool.{false≢true}
use Rattle.std.proofs.lemmas.Result.{err_from_is_err_and}
use Rattle.x509_name.proofs.relative_name.RelativeDistinguishedNameFromDerError.from_der.Goals as goal

pub returns-in_err-rest : goal.returns-in_err-rest
returns-in_err-rest c =
    let p = err_from_is_err_and c.from_residual.result c.from_residual.ensures.1 in
    rw (p.1, p.2) (inl c.in_err-rest.ensures)

pub returns-then-is_none : goal.returns-then-is_none
returns-then-is_none c = inr (
  c.in_ok-rest.rest.now,
  c.in_ok-rest.set,
  c.in_ok-rest.ensures,
  sym c.into_vec-v.ensures ∙ sym c.deref.ensures.value ∙ c.is_none.ensures.0 c.if-is_none.true,
  refl,
)

pub returns : goal.returns
returns c = (
  c.in_ok-rest.set,
  c.in_ok-rest.ensures,
  sym c.into_vec-v.ensures,
  λ e. absurd (false≢true (sym c.if-is_none.false ∙ c.is_none.ensures.1 (c.deref.ensures.value ∙ e))),
)
