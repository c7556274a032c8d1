-- What `?` hands on.
use Rattle.std.proofs.Common.{◌≡◌, ap, Result, Err, IsErrAnd, IsErrOf}
use Rattle.std.proofs.lemmas.Result.{err_from_is_err_and}

-- it is the same error
pub same_error : {T U E : Type 0} (r : Result T E) (e x : E) → IsErrAnd r (λ y. y ≡ e) → IsErrOf r x →
    IsErrOf {T = U} (Err e) x
same_error r e x told is =
    let p = err_from_is_err_and r told in
    let same : e ≡ x = cc in
    ap (λ y. Err y) same
