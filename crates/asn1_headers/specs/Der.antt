-- Reading contents octets by DER.
use Rattle.std.specs.Prelude.{◌≡◌, ℕ, List, Result, Err}
use Rattle.std.specs.Borrow.{Bor}
use Rattle.x690.specs.Lengths.{LengthForm, definite, indefinite}
use Rattle.asn1_headers.specs.declared.error.Error.{Error}
use Rattle.asn1_headers.specs.declared.error.Error.TheVariants.{DerConstraintFailed}
use Rattle.asn1_headers.specs.declared.error.DerConstraint.TheVariants.{IndefiniteLength}
use Rattle.asn1_headers.specs.declared.error.Err.{Err as Refusal}
use Rattle.asn1_headers.specs.declared.error.Err.TheVariants.{Error as refused}
use Rattle.asn1_headers.specs.Content.{Splits}

-- the contents octets by DER, of a header of this form
abbrev pub DerContentGives : LengthForm → List ℕ → Result (Bor (List ℕ) × Bor (List ℕ)) (Refusal Error) → Type 0
DerContentGives (definite n) input answer = Splits n input answer
DerContentGives indefinite input answer = answer ≡ Err (refused (DerConstraintFailed IndefiniteLength))
