-- Texts of elements, and why there is none.
use Rattle.std.proofs.Common.{ℕ, List, inr}
use Rattle.std.specs.Prelude.{◌⊎◌, Result, Ok, Err, IfErr}
use Rattle.std.specs.Borrow.{Bor}
use Rattle.asn1_headers.specs.declared.error.Error.{Error}
use Rattle.asn1_rs.specs.declared.asn1_types.any.Any.{Any}
use Rattle.asn1_rs.specs.Any.{parts_of, BerElementGives}
use Rattle.asn1_rs.specs.Any.Text.{LendsAnyText}
use Rattle.asn1_rs_uses.specs.Borrowed.{RefusesElement, HasNoText}

-- where the element that begins the octets has no text
pub text_refused : (octets : List ℕ) (any : Any) (rest : List ℕ) → BerElementGives octets (Ok (rest, any)) →
    (r : Result (Bor (List ℕ)) Error) → LendsAnyText (parts_of any) r →
    IfErr r (λ e. RefusesElement octets e ⊎ HasNoText octets e)
text_refused octets any rest begins (Ok text) lends = tt
text_refused octets any rest begins (Err e) lends = inr (any, rest, begins, lends)
