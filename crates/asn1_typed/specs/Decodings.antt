-- What is told of octets by a type: the JSON of their value, or why they have none.
use Rattle.std.specs.Prelude.{ℕ, ◌≡◌, Bool, List, [], ◌++◌, codes, flat_map, length, Option, Some, None, Vec}
use Rattle.std.specs.Global.{Global}
use Rattle.asn1_schema.specs.declared.build.Schema.{Schema}
use Rattle.asn1_schema.specs.declared.refusal.Refusal.{Refusal}
use Rattle.asn1_schema.specs.Reading.{IsWordOf}
use Rattle.asn1_schema.specs.Values.{Value}
use Rattle.x690.specs.Joined.{IsConcatenation, NoPrefix}
use Rattle.asn1_headers.specs.Answers.{HasPrefix}
use Rattle.asn1_engine.specs.Trees.{sum_within}
use Rattle.asn1_json.specs.Shown.{layout, of_schema}
use Rattle.asn1_json.specs.Tokens.{tokens_of}
use Rattle.asn1_typed.specs.declared.decoding.Decoded.{Decoded}
use Rattle.asn1_typed.specs.declared.decoding.Decoded.TheVariants as answers
use Rattle.asn1_typed.specs.declared.decoding.Decoding.{Decoding}
use Rattle.asn1_typed.specs.declared.decoding.NextLine.{NextLine}
use Rattle.asn1_typed.specs.declared.decoding.NextLine.TheVariants as front
use Rattle.asn1_typed.specs.declared.input.Input.{Input}
use Rattle.asn1_typed.specs.Readings.{IsNoValue}
use Rattle.asn1_typed.specs.Refusals.{IsToldRefusal}

-- the value as JSON, and a line feed
abbrev pub value_text : Schema → Bool → ℕ → Value → List ℕ
value_text schema pretty of value = layout pretty (tokens_of (of_schema schema) (Some of) value) ++ codes "\n"

-- the line of some refusal, and of the element at its octet
abbrev pub IsRefusedDecoding : Schema → Input → List ℕ → Type 0
IsRefusedDecoding schema input text = (refusal : Refusal) ×
    IsToldRefusal schema.nodes.items schema.names.items input refusal text

-- the octets are one value whole, and this is its text; or they are none, and this is told of a refusal
abbrev pub IsDecoded : Decoding → Schema → ℕ → Input → Decoded → Type 0
IsDecoded by schema of input (answers.Value text) = (value : Value) ×
    IsWordOf by.coding schema.nodes.items 64 of input.octets.now value ×
    (text.items ≡ value_text schema by.pretty of value)
IsDecoded by schema of input (answers.Refused line) =
    IsNoValue by.coding schema.nodes.items of input.octets.now × IsRefusedDecoding schema input line.items

-- a value stands at the front, and this is its text; or none does, and this is told of a refusal
abbrev pub DecodesNext : Decoding → Schema → ℕ → Input → NextLine → Type 0
DecodesNext by schema of input (front.Value text rest) = (value : Value) ×
    HasPrefix (IsWordOf by.coding schema.nodes.items 64 of) input.octets.now value rest.now ×
    (text.items ≡ value_text schema by.pretty of value)
DecodesNext by schema of input (front.Refused line) =
    NoPrefix (IsWordOf by.coding schema.nodes.items 64 of) input.octets.now × IsRefusedDecoding schema input line.items

-- the texts of values, in their order
abbrev pub value_texts : Schema → Bool → ℕ → List Value → List ℕ
value_texts schema pretty of values = flat_map (λ value. value_text schema pretty of value) values

-- nothing is left; or no value begins what is left, and this is told of a refusal
abbrev pub EndsRow : Decoding → Schema → ℕ → Input → Option (Vec ℕ Global) → Type 0
EndsRow by schema of left None = left.octets.now ≡ []
EndsRow by schema of left (Some line) =
    NoPrefix (IsWordOf by.coding schema.nodes.items 64 of) left.octets.now × IsRefusedDecoding schema left line.items

-- Values follow one another from the front of the input up to what is left, and these are their texts.
pub record ValuesBefore (by : Decoding) (schema : Schema) (of : ℕ) (input left : Input) (shown : List ℕ) : Type 0 where
  pub values : List Value
  pub words : List ℕ
  pub is : input.octets.now ≡ words ++ left.octets.now
  pub joined : IsConcatenation (IsWordOf by.coding schema.nodes.items 64 of) words values
  pub name : left.name ≡ input.name
  pub offset : left.offset ≡ sum_within input.offset (length words)
  pub texts : shown ≡ value_texts schema by.pretty of values

-- the values of a row, and its end
abbrev pub DecodesRow : Decoding → Schema → ℕ → Input → Option (Vec ℕ Global) → List ℕ → Type 0
DecodesRow by schema of input refused shown = (left : Input) × ValuesBefore by schema of input left shown ×
    EndsRow by schema of left refused
