-- What a table, and the names beside it, say of how values are shown.
use Rattle.std.specs.Prelude.{ℕ, zero, suc, pos, Bool, true, false, List, [], ◌∷◌, length, codes, Option, Some, None, slice_get}
use Rattle.std.specs.Prelude.{option_map, option_and_then, if◌then◌else◌}
use Rattle.asn1_schema.specs.declared.schema.Field.{Field}
use Rattle.asn1_schema.specs.declared.schema.Node.{Node}
use Rattle.asn1_schema.specs.declared.schema.Kind.{Kind}
use Rattle.asn1_schema.specs.declared.schema.Kind.TheVariants as kinds
use Rattle.asn1_schema.specs.declared.names.PartName.{PartName}
use Rattle.asn1_schema.specs.declared.names.TypeNames.{TypeNames}
use Rattle.asn1_words.specs.Words.{number_text}
use Rattle.asn1_json.specs.Leaves.{name_of}

-- the type that an explicit tag or bounds are on
abbrev pub inner_type : Kind → Option ℕ
inner_type (kinds.Explicit t) = Some t
inner_type (kinds.Within t lower upper) = Some t
inner_type _ = None

-- the kind of the type at a place, if there is one
abbrev pub kind_at : List Node → Option ℕ → Option Kind
kind_at table None = None
kind_at table (Some t) = option_map (λ node. node.kind) (slice_get table t)

-- the place, or the one that follows it
abbrev pub or_next : ℕ → Option ℕ → (ℕ → ℕ) → ℕ
or_next t None f = t
or_next t (Some next) f = f next

-- the type that so many tags and bounds at most are on
abbrev pub innermost : List Node → ℕ → ℕ → ℕ
innermost table zero t = t
innermost table (suc count) t =
    or_next t (option_and_then inner_type (kind_at table (Some t))) (innermost table count)

-- the type that all tags and bounds are on
abbrev pub resolved : List Node → Option ℕ → Option ℕ
resolved table None = None
resolved table (Some t) = Some (innermost table (length table) t)

-- the names of the parts of a type
abbrev pub labels_of : Option TypeNames → List PartName
labels_of None = []
labels_of (Some names) = names.labels.items

abbrev pub labels_at : List TypeNames → Option ℕ → List PartName
labels_at names None = []
labels_at names (Some t) = labels_of (slice_get names t)

-- the type of the members of a list
abbrev pub member_type : Kind → Option ℕ
member_type (kinds.SequenceOf t) = Some t
member_type (kinds.SetOf t) = Some t
member_type _ = None

-- the fields of a row or a set
abbrev pub fields_of : Option Kind → List Field
fields_of (Some (kinds.Sequence fields unknown)) = fields.items
fields_of (Some (kinds.Set fields unknown)) = fields.items
fields_of _ = []

-- the type of the unknown elements behind them
abbrev pub unknown_type : Kind → Option ℕ
unknown_type (kinds.Sequence fields unknown) = unknown
unknown_type (kinds.Set fields unknown) = unknown
unknown_type _ = None

-- the types of the arms of a choice
abbrev pub arms_of : Option Kind → List ℕ
arms_of (Some (kinds.Choice arms)) = arms.items
arms_of _ = []

abbrev pub is_any : Option Kind → Bool
is_any (Some kinds.Any) = true
is_any _ = false

-- a name, or else another
abbrev pub or_name : List ℕ → List ℕ → List ℕ
or_name [] other = other
or_name (c ∷ cs) other = c ∷ cs

-- the name of a field: its place in decimals, where it has none
abbrev pub field_name : List PartName → ℕ → List ℕ
field_name labels place = or_name (name_of labels (pos place)) (number_text place)

-- The name of an arm. An arm of any element without a name is unknown.
abbrev pub arm_name : List PartName → ℕ → Option Kind → List ℕ
arm_name labels arm kind =
    or_name (name_of labels (pos arm)) (if is_any kind then codes "..." else number_text arm)
