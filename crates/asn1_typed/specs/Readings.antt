-- What is found of octets by a type.
use Rattle.std.specs.Prelude.{ℕ, ◌≤◌, List, length, Option, Some, None}
use Rattle.asn1_schema.specs.declared.coding.Coding.{Coding}
use Rattle.asn1_schema.specs.declared.refusal.Refusal.{Refusal}
use Rattle.asn1_schema.specs.declared.schema.Node.{Node}
use Rattle.asn1_schema.specs.declared.tape.Item.{Item}
use Rattle.asn1_schema.specs.Decoding.{Decodes, DecodesWhole}
use Rattle.asn1_schema.specs.Reading.{IsWordOf}
use Rattle.asn1_schema.specs.Values.{Value}
use Rattle.x690.specs.Joined.{NoPrefix}
use Rattle.asn1_typed.specs.declared.reading.Next.{Next}
use Rattle.asn1_typed.specs.declared.reading.Next.TheVariants as next

-- the octets are no value of the type whose elements nest 64 deep at most
abbrev pub IsNoValue : Coding → List Node → ℕ → List ℕ → Type 0
IsNoValue coding table of octets = (value : Value) → IsWordOf coding table 64 of octets value → ⊥

-- the octets are one value, which is on the tape; or they are none, and the refusal stands within them
abbrev pub Reads : Coding → List Node → ℕ → List ℕ → List Item → Option Refusal → Type 0
Reads coding table of octets tape None = DecodesWhole (IsWordOf coding table 64 of) octets tape
Reads coding table of octets tape (Some refusal) = IsNoValue coding table of octets × (refusal.octet ≤ length octets)

-- a value stands at the front of the octets, and is on the tape; or none does, and the refusal stands within them
abbrev pub ReadsNext : Coding → List Node → ℕ → List ℕ → List Item → Next → Type 0
ReadsNext coding table of octets tape (next.Value rest) =
    Decodes (IsWordOf coding table 64 of) octets rest.now tape
ReadsNext coding table of octets tape (next.Refused refusal) =
    NoPrefix (IsWordOf coding table 64 of) octets × (refusal.octet ≤ length octets)
