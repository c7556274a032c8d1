-- What is told of octets that may be the strict encoding of a value.
use Rattle.std.specs.Prelude.{ℕ, ◌≡◌, ◌≤◌, ◌⊎◌, List, length, ◌++◌, codes}
use Rattle.asn1_engine.specs.declared.error.Finding.{Finding}
use Rattle.asn1_engine.specs.declared.error.Finding.TheVariants.{Holds, Refused}
use Rattle.asn1_schema.specs.Differing.{HasNoEncoding, HasOther, IsNotStrict}
use Rattle.asn1_schema.specs.Grammar.{Word}
use Rattle.asn1_schema.specs.Rules.{der, strict}
use Rattle.asn1_schema.specs.Tape.{Kept, marks, tape_of, value_of}
use Rattle.asn1_schema.specs.Values.{Value}
use Rattle.asn1_schema.specs.declared.build.Schema.{Schema}
use Rattle.asn1_schema.specs.declared.schema.Node.{Node}
use Rattle.asn1_schema.specs.declared.refusal.Refusal.{Refusal}
use Rattle.asn1_schema.specs.declared.tape.Item.{Item}
use Rattle.asn1_words.specs.Words.{number_text}
use Rattle.asn1_engine.specs.Trees.{sum_within}
use Rattle.asn1_typed.specs.Kinds.{named_text}
use Rattle.asn1_typed.specs.Refusals.{IsNamedRefusalLine, octet_text}
use Rattle.asn1_typed.specs.declared.input.Input.{Input}

-- the octets are the strict encoding of a value, or of none
abbrev pub FindsStrict : List Node → ℕ → List ℕ → Finding → Type 0
FindsStrict table of octets Holds = (value : Value) × Word strict table 64 of octets value
FindsStrict table of octets Refused = IsNotStrict table 64 of octets

abbrev pub strict_value_text : Schema → ℕ → Input → List ℕ
strict_value_text schema of input = input.name.now ++ codes ": strict DER of " ++
    named_text 16 schema.nodes.items schema.names.items of ++ codes "\n"

-- the value of the tape has a strict encoding
abbrev pub HasEncoding : List Node → ℕ → List Item → Type 0
HasEncoding table of tape = (octets : List ℕ) × (kept : Kept) × Word strict table 64 of octets (value_of kept) ×
    (marks tape ≡ tape_of kept)

-- The octet and the name of the type; and an octet of the input at which a default stands. Whatever the names of the parts
-- are that lead to the octets.
pub record IsDifferenceLine (schema : Schema) (of : ℕ) (input : Input) (octet : ℕ) (line : List ℕ) : Type 0 where
  pub path : List ℕ
  pub default : ℕ
  pub default_path : List ℕ
  pub within : default ≤ length input.octets.now
  pub is : line ≡ octet_text input octet ++ path ++ codes " (" ++ named_text 16 schema.nodes.items schema.names.items of ++
      codes "): the strict encoding of the value differs here; a default stands at octet " ++
      (number_text (sum_within input.offset default) ++ default_path) ++ codes "\n"

-- an octet of the input, whatever the names of the parts are that lead to it, and the name of the type
pub record IsNoEncodingLine (schema : Schema) (of : ℕ) (input : Input) (line : List ℕ) : Type 0 where
  pub octet : ℕ
  pub path : List ℕ
  pub within : octet ≤ length input.octets.now
  pub is : line ≡ octet_text input octet ++ path ++ codes " (" ++ named_text 16 schema.nodes.items schema.names.items of ++
      codes "): the value has no strict encoding: a SET OF does not ascend\n"

-- the octets are of a value by DER of which this holds
abbrev pub IsByDer : List Node → ℕ → List ℕ → (Value → Type 0) → Type 0
IsByDer table of octets P = (value : Value) × Word der table 64 of octets value × P value

-- the line of a value by DER whose strict encoding differs at an octet
abbrev pub TellsDifference : Schema → ℕ → Input → List ℕ → Type 0
TellsDifference schema of input line = (octet : ℕ) × IsDifferenceLine schema of input octet line ×
    IsByDer schema.nodes.items of input.octets.now (HasOther schema.nodes.items 64 of input.octets.now octet)

-- the line of a value by DER that has no strict encoding
abbrev pub TellsNone : Schema → ℕ → Input → List ℕ → Type 0
TellsNone schema of input line = IsNoEncodingLine schema of input line ×
    IsByDer schema.nodes.items of input.octets.now (HasNoEncoding schema.nodes.items 64 of)

-- the octets are of no value by DER, and this is the line of a refusal
abbrev pub TellsRefusal : Schema → ℕ → Input → List ℕ → Type 0
TellsRefusal schema of input line =
    ((refusal : Refusal) × IsNamedRefusalLine schema.nodes.items schema.names.items input refusal line) ×
    ((value : Value) → Word der schema.nodes.items 64 of input.octets.now value → ⊥)

-- the line of a verdict
abbrev pub IsVerdictLine : Schema → ℕ → Input → Finding → List ℕ → Type 0
IsVerdictLine schema of input Holds line = line ≡ strict_value_text schema of input
IsVerdictLine schema of input Refused line = TellsRefusal schema of input line ⊎
    TellsDifference schema of input line ⊎ TellsNone schema of input line
