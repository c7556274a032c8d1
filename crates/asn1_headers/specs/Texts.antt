-- What people read of refusals.
use Rattle.std.specs.Prelude.{ℕ, List, ◌++◌, Option, Some, None, codes, decimal, if◌then◌else◌, nat_eq}
use Rattle.std.specs.Fmt.{◌++?◌}
use Rattle.asn1_headers.specs.declared.class.Class.{Class}
use Rattle.asn1_headers.specs.declared.class.Class.TheVariants.{Universal, Application, ContextSpecific, Private}
use Rattle.asn1_headers.specs.declared.error.Err.{Err as Refusal}
use Rattle.asn1_headers.specs.declared.error.Err.TheVariants.{Incomplete as truncated, Error as refused, Failure as failed}
use Rattle.asn1_headers.specs.declared.error.Needed.{Needed}
use Rattle.asn1_headers.specs.declared.error.Needed.TheVariants.{Unknown, Size}

-- the name of a class in the texts of refusals
abbrev pub class_name : Class → List ℕ
class_name Universal = codes "Universal"
class_name Application = codes "Application"
class_name ContextSpecific = codes "ContextSpecific"
class_name Private = codes "Private"

-- how the text of a refusal says how many octets are missing
abbrev pub needed_text : Needed → List ℕ
needed_text Unknown = codes "octets are missing"
needed_text (Size n) = if nat_eq n 1 then codes "1 octet is missing" else decimal n ++ codes " octets are missing"

-- what is missing, or the text of the error that is held
abbrev pub err_text : {E : Type 0} → (E → Option (List ℕ)) → Refusal E → Option (List ℕ)
err_text text (truncated n) = Some (needed_text n)
err_text text (refused e) = text e
err_text text (failed e) = text e

-- which part is expected and which one was found, by their names; or that the part is not expected
abbrev pub unexpected_text : {T : Type 0} → (T → Option (List ℕ)) → List ℕ → Option T → T → Option (List ℕ)
unexpected_text name what (Some expected) actual =
    Some (codes "expected ") ++? Some what ++? Some (codes " ") ++? name expected ++?
    Some (codes ", found ") ++? name actual
unexpected_text name what None actual = Some (codes "unexpected ") ++? Some what ++? Some (codes " ") ++? name actual
