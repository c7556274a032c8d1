use Rattle.std.proofs.Common.{◌≡◌, ap, arith, get_or, length, List, subst, sym}
use Rattle.std.proofs.lemmas.List.{take_all}
use Rattle.std.proofs.lemmas.Result.{err_from_is_err_and}
use Rattle.std.specs.List.{All}
use Rattle.x509_name.specs.Name.{relative_names}
use Rattle.x509_name.specs.RelativeName.{IsNonEmpty, attributes}
use Rattle.x509_name.specs.declared.relative_name.RelativeDistinguishedName.{RelativeDistinguishedName}
use Rattle.x509_name.proofs.name.Name.assert_each_some.Goals as goal

pub returns-in_err-assert_some : goal.returns-in_err-assert_some
returns-in_err-assert_some c =
    let p = err_from_is_err_and c.from_residual.result c.from_residual.ensures.1 in
    rw (p.1, p.2) (
      c.loop-relative_name.relative_name-index,
      c.relative_name-item.result,
      omega (arith, c.loop-relative_name-test.true, ap length c.deref-relative_name-items.ensures.value),
      subst (λ (xs : List RelativeDistinguishedName). get_or xs c.loop-relative_name.relative_name-index
          c.relative_name-item.result ≡ c.relative_name-item.result) c.deref-relative_name-items.ensures.value
          (sym c.relative_name-item.is),
      c.in_err-assert_some.ensures,
    )

pub returns : goal.returns
returns c = subst (All (λ r. IsNonEmpty (attributes r)))
    (take_all c.loop-relative_name.relative_name-index (relative_names c.args.self.now)
    (omega (arith, c.loop-relative_name-test.false, ap length c.deref-relative_name-items.ensures.value)))
    c.loop-relative_name.invariant
