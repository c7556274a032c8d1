-- Kinds of types in the words of X.680.
use Rattle.std.specs.Prelude.{ℕ, zero, suc, ℤ, Bool, true, false, List, [], ◌∷◌, ◌++◌, codes, flat_map, Option, Some, None, slice_get}
use Rattle.asn1_headers.specs.Tag.{text_or}
use Rattle.asn1_schema.specs.declared.schema.Node.{Node}
use Rattle.asn1_schema.specs.declared.schema.Kind.{Kind}
use Rattle.asn1_schema.specs.declared.schema.Kind.TheVariants as kinds
use Rattle.asn1_schema.specs.declared.schema.TextKind.{TextKind}
use Rattle.asn1_schema.specs.declared.schema.TextKind.TheVariants as texts
use Rattle.asn1_schema.specs.declared.schema.TimeKind.{TimeKind}
use Rattle.asn1_schema.specs.declared.schema.TimeKind.TheVariants as times
use Rattle.asn1_schema.specs.declared.names.PartName.{PartName}
use Rattle.asn1_schema.specs.declared.names.TypeNames.{TypeNames}
use Rattle.asn1_words.specs.Words.{integer_text}

abbrev pub text_word : TextKind → List ℕ
text_word texts.Utf8 = codes "UTF8String"
text_word texts.Numeric = codes "NumericString"
text_word texts.Printable = codes "PrintableString"
text_word texts.Teletex = codes "TeletexString"
text_word texts.Videotex = codes "VideotexString"
text_word texts.Ia5 = codes "IA5String"
text_word texts.Graphic = codes "GraphicString"
text_word texts.Visible = codes "VisibleString"
text_word texts.General = codes "GeneralString"
text_word texts.Universal = codes "UniversalString"
text_word texts.Bmp = codes "BMPString"
text_word texts.Descriptor = codes "ObjectDescriptor"

abbrev pub time_word : TimeKind → List ℕ
time_word times.Utc = codes "UTCTime"
time_word times.Generalized = codes "GeneralizedTime"

-- what stands before the type that a kind leads to, or the word of a kind that leads to none
abbrev pub kind_word : Kind → List ℕ
kind_word kinds.Boolean = codes "BOOLEAN"
kind_word kinds.Null = codes "NULL"
kind_word kinds.Integer = codes "INTEGER"
kind_word (kinds.Enumerated numbers extensible) = codes "ENUMERATED"
kind_word (kinds.Bits named) = codes "BIT STRING"
kind_word kinds.Octets = codes "OCTET STRING"
kind_word (kinds.Identifier true) = codes "RELATIVE-OID"
kind_word (kinds.Identifier false) = codes "OBJECT IDENTIFIER"
kind_word (kinds.Text kind) = text_word kind
kind_word (kinds.Time kind) = time_word kind
kind_word kinds.Any = codes "ANY"
kind_word (kinds.Sequence fields unknown) = codes "SEQUENCE"
kind_word (kinds.Set fields unknown) = codes "SET"
kind_word (kinds.SequenceOf of) = codes "SEQUENCE OF "
kind_word (kinds.SetOf of) = codes "SET OF "
kind_word (kinds.Choice arms) = codes "CHOICE"
kind_word (kinds.Explicit of) = codes "EXPLICIT "
kind_word (kinds.Within of lower upper) = []

-- a bound, or a word where there is none
abbrev pub bound_text : List ℕ → Option ℤ → List ℕ
bound_text word None = word
bound_text word (Some number) = integer_text number

-- the bounds of a kind (X.680 51.4, 51.5)
abbrev pub bounds_text : Kind → List ℕ
bounds_text (kinds.Within of lower upper) =
    codes " within " ++ bound_text (codes "MIN") lower ++ codes ".." ++ bound_text (codes "MAX") upper
bounds_text _ = []

-- whether the parts of a kind have names that are shown
abbrev pub has_parts : Kind → Bool
has_parts (kinds.Enumerated numbers extensible) = true
has_parts (kinds.Sequence fields unknown) = true
has_parts (kinds.Set fields unknown) = true
has_parts (kinds.Choice arms) = true
has_parts _ = false

-- names of parts between braces
abbrev pub part_names_text : List PartName → List ℕ
part_names_text [] = codes " { }"
part_names_text (part ∷ parts) =
    codes " { " ++ part.name.now ++ flat_map (λ other. codes ", " ++ other.name.now) parts ++ codes " }"

abbrev pub parts_text : Bool → List PartName → List ℕ
parts_text true parts = part_names_text parts
parts_text false parts = []

-- the name of a type, empty where it has none
abbrev pub own_type_name : Option TypeNames → List ℕ
own_type_name None = []
own_type_name (Some own) = own.name.now

-- the names of its parts
abbrev pub labels_in : Option TypeNames → List PartName
labels_in None = []
labels_in (Some own) = own.labels.items

-- The type that a kind leads to, if it is one: a member by its name, a type that has the tag or the bounds by its kind.
abbrev pub inner_text : (named plain : ℕ → List ℕ) → Kind → List ℕ
inner_text named plain (kinds.SequenceOf of) = named of
inner_text named plain (kinds.SetOf of) = named of
inner_text named plain (kinds.Explicit of) = plain of
inner_text named plain (kinds.Within of lower upper) = plain of
inner_text named plain _ = []

-- the bounds of a kind, and the names of its parts
abbrev pub bounds_and_parts_text : List PartName → Kind → List ℕ
bounds_and_parts_text labels kind = bounds_text kind ++ parts_text (has_parts kind) labels

-- a kind, where the types that it leads to have these names and kinds
abbrev pub kind_text : (named plain : ℕ → List ℕ) → List PartName → Option Node → List ℕ
kind_text named plain labels None = codes "no type"
kind_text named plain labels (Some node) =
    kind_word node.kind ++ inner_text named plain node.kind ++ bounds_and_parts_text labels node.kind

-- The kind of the type at a place, by so many types that it leads to. A member has its name, or else its kind.
unfoldable pub type_text : ℕ → List Node → List TypeNames → ℕ → List ℕ
type_text zero table names of = codes ".."
type_text (suc depth) table names of =
    kind_text (λ inner. text_or (own_type_name (slice_get names inner)) (type_text depth table names inner))
    (type_text depth table names) (labels_in (slice_get names of)) (slice_get table of)

-- its name, or else its kind
abbrev pub named_text : ℕ → List Node → List TypeNames → ℕ → List ℕ
named_text depth table names of = text_or (own_type_name (slice_get names of)) (type_text depth table names of)
