-- What is written of octets that are no value of a type.
use Rattle.std.specs.Prelude.{ℕ, ◌≡◌, List, ◌++◌, codes, drop}
use Rattle.asn1_schema.specs.declared.refusal.Reason.{Reason}
use Rattle.asn1_schema.specs.declared.refusal.Reason.TheVariants as reasons
use Rattle.asn1_schema.specs.declared.refusal.Refusal.{Refusal}
use Rattle.asn1_schema.specs.declared.schema.Node.{Node}
use Rattle.asn1_schema.specs.declared.names.TypeNames.{TypeNames}
use Rattle.asn1_words.specs.Words.{number_text}
use Rattle.asn1_engine.specs.Trees.{IsFirstLine, sum_within}
use Rattle.asn1_typed.specs.declared.input.Input.{Input}
use Rattle.asn1_typed.specs.Kinds.{named_text}

abbrev pub reason_text : Reason → List ℕ
reason_text reasons.Nothing = codes "nothing is refused"
reason_text reasons.Depth = codes "elements nest deeper than 64"
reason_text reasons.MissingType = codes "the table has no such type"
reason_text reasons.Element = codes "no element begins here, or it is truncated"
reason_text reasons.Tag = codes "the tag is not one of the type"
reason_text reasons.Form = codes "the element is primitive, and the type is constructed"
reason_text reasons.Contents = codes "the contents octets have no value of the type"
reason_text reasons.Bounds = codes "the number or the size is out of bounds"
reason_text reasons.MissingField = codes "a component is missing"
reason_text reasons.Order = codes "the elements of a set do not ascend by their tags"
reason_text reasons.Repeated = codes "a component stands there more than once"
reason_text reasons.Default = codes "the default is no value of its type"
reason_text reasons.TrailingOctets = codes "octets follow where none may"

-- an octet of the input, with the name of its file
abbrev pub octet_text : Input → ℕ → List ℕ
octet_text input octet = input.name.now ++ codes ": octet " ++ number_text (sum_within input.offset octet)

-- the line of a refusal: the name of the type, or else its kind; and whatever the names of the parts are
abbrev pub IsNamedRefusalLine : List Node → List TypeNames → Input → Refusal → List ℕ → Type 0
IsNamedRefusalLine table names input refusal text = (path : List ℕ) × (text ≡ octet_text input refusal.octet ++ path ++
    codes " (" ++ named_text 16 table names refusal.of ++ codes "): " ++ reason_text refusal.reason ++ codes "\n")

-- The line of a refusal, and behind it the line of the tree for the element that begins at its octet; nothing where none
-- does.
pub record IsToldRefusal (table : List Node) (names : List TypeNames) (input : Input) (refusal : Refusal) (text : List ℕ) : Type 0 where
  pub line : List ℕ
  pub is_line : IsNamedRefusalLine table names input refusal line
  pub element : List ℕ
  pub is_element : IsFirstLine 64 (sum_within input.offset refusal.octet) (drop refusal.octet input.octets.now) element
  pub is : text ≡ line ++ element
