-- Errors of results of two types.
use Rattle.std.proofs.Common.{◌≡◌, subst, refl}
use Rattle.std.specs.Prelude.{Err, IsErrOf}

pub error_is : {T E : Type 0} (x y : E) → IsErrOf {T = T} {E = E} (Err x) y → x ≡ y
error_is x y e = cc

pub same_error : {T E : Type 0} (U : Type 0) (x y : E) → IsErrOf {T = T} {E = E} (Err x) y → IsErrOf {T = U} {E = E} (Err x) y
same_error {T} {E} U x y e = subst (λ (z : E). IsErrOf {T = U} {E = E} (Err x) z) (error_is {T = T} x y e) refl
