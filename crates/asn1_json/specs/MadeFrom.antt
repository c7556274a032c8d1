-- What is made of JSON.
use Rattle.std.specs.Prelude.{ℕ, ◌≡◌, ◌≤◌, List, Some, IsUtf8}
use Rattle.json.specs.Json.{Json, document}
use Rattle.asn1_schema.specs.declared.build.Schema.{Schema}
use Rattle.asn1_schema.specs.Tape.{Kept, tape_of, value_of}
use Rattle.asn1_json.specs.Shown.{of_schema}
use Rattle.asn1_json.specs.Denotes.{Denotes}
use Rattle.asn1_schema.specs.Owned.{owned_marks}
use Rattle.asn1_json.specs.declared.reading.FromJsonError.{FromJsonError}
use Rattle.asn1_json.specs.declared.reading.FromJsonError.TheVariants as errors
use Rattle.asn1_schema.specs.declared.owned.OwnedTape.{OwnedTape}

-- The text is a document of JSON in UTF-8, and the tape is that of a value of the type which it denotes.
pub record IsMadeFrom (schema : Schema) (depth of : ℕ) (text : List ℕ) (made : OwnedTape) : Type 0 where
  pub json : Json
  pub kept : Kept
  pub utf8 : IsUtf8 text
  pub is : document text ≡ Some json
  pub denotes : Denotes (of_schema schema) depth 129 of json (value_of kept)
  pub tape : owned_marks made ≡ tape_of kept

-- the octet of a refusal is one of so many, or behind the last
abbrev pub IsWithin : ℕ → FromJsonError → Type 0
IsWithin most errors.OutOfMemory = Unit {0}
IsWithin most (errors.Refused refusal) = refusal.octet ≤ most
