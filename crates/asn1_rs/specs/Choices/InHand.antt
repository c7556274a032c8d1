-- Choices of elements in hand.
use Rattle.std.specs.Prelude.{ℕ, List, Result}
use Rattle.x690.specs.Elements.{IsDerElement}
use Rattle.x690.specs.Identifiers.{Identifier}
use Rattle.asn1_headers.specs.declared.error.Err.{Err as Refusal}
use Rattle.asn1_headers.specs.declared.error.Error.{Error}
use Rattle.asn1_rs.specs.declared.asn1_types.any.Any.{Any}
use Rattle.asn1_rs.specs.Any.{parts_of}
use Rattle.asn1_rs.specs.Any.Decoded.{IsReadAgain}

-- It is what the reader of the arms may answer, that goes by the identifier of the element.
abbrev pub IsReadByArms : {T : Type 0} → (Identifier → List ℕ → Result (List ℕ × T) (Refusal Error) → Type 0) → Any →
    Result T Error → Type 0
IsReadByArms reads any answer = IsReadAgain IsDerElement (reads (parts_of any).id) any answer
