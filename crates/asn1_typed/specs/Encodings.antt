-- What is told of JSON by a type: the strict encoding of its value, or why it denotes none.
use Rattle.std.specs.Prelude.{ℕ, ◌≡◌, List, Some, IsUtf8}
use Rattle.json.specs.Json.{Json, document}
use Rattle.asn1_schema.specs.declared.build.Schema.{Schema}
use Rattle.asn1_schema.specs.Grammar.{Word}
use Rattle.asn1_schema.specs.Rules.{strict}
use Rattle.asn1_schema.specs.Values.{Value}
use Rattle.asn1_json.specs.Shown.{of_schema}
use Rattle.asn1_json.specs.Denotes.{Denotes}
use Rattle.asn1_typed.specs.declared.encoding.Encoded.{Encoded}
use Rattle.asn1_typed.specs.declared.encoding.Encoded.TheVariants as answers
use Rattle.asn1_typed.specs.declared.input.Input.{Input}

-- The text is a document of JSON in UTF-8 that denotes a value of the type, and the octets are its strict encoding, of which the
-- elements nest 64 deep at most.
pub record EncodesJson (schema : Schema) (of : ℕ) (text octets : List ℕ) : Type 0 where
  pub json : Json
  pub value : Value
  pub utf8 : IsUtf8 text
  pub is : document text ≡ Some json
  pub denotes : Denotes (of_schema schema) 64 129 of json value
  pub word : Word strict schema.nodes.items 64 of octets value

-- octets are the strict encoding of a value, if they are answered
abbrev pub IsEncodedAs : Schema → ℕ → Value → Encoded → Type 0
IsEncodedAs schema of value (answers.Value octets) = Word strict schema.nodes.items 64 of octets.items value
IsEncodedAs schema of value (answers.Refused line) = Unit {0}

-- and that of a value which the text denotes
abbrev pub IsEncoded : Schema → ℕ → Input → Encoded → Type 0
IsEncoded schema of input (answers.Value octets) = EncodesJson schema of input.octets.now octets.items
IsEncoded schema of input (answers.Refused line) = Unit {0}
