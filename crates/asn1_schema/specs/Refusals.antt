-- Why octets are refused, by the types of a table.
use Rattle.std.specs.Prelude.{ℕ, Bool, true, false, List, ◌≡◌, Option, Some, None, slice_get}
use Rattle.asn1_schema.specs.declared.schema.Presence.{Presence}
use Rattle.asn1_schema.specs.declared.schema.Presence.TheVariants as presences
use Rattle.asn1_schema.specs.declared.schema.Field.{Field}
use Rattle.asn1_schema.specs.declared.schema.Node.{Node}
use Rattle.asn1_schema.specs.declared.schema.Kind.{Kind}
use Rattle.asn1_schema.specs.declared.schema.Kind.TheVariants as kinds
use Rattle.asn1_schema.specs.declared.refusal.Reason.{Reason}
use Rattle.asn1_schema.specs.declared.refusal.Reason.TheVariants as reasons
use Rattle.asn1_schema.specs.declared.refusal.Refusal.{Refusal}
use Rattle.asn1_schema.specs.Sound.{node_at}

-- how many octets end contents octets, by whether the length is indefinite (X.690 8.1.5)
abbrev pub ending_of : Bool → ℕ
ending_of true = 2
ending_of false = 0

-- contents octets of the type are elements of other types (X.690 8.9 to 8.12, 8.14)
abbrev pub has_elements : Kind → Bool
has_elements (kinds.Sequence fields unknown) = true
has_elements (kinds.Set fields unknown) = true
has_elements (kinds.SequenceOf t) = true
has_elements (kinds.SetOf t) = true
has_elements (kinds.Explicit t) = true
has_elements _ = false

-- contents octets of the type say the value
abbrev pub has_contents : Kind → Bool
has_contents (kinds.Choice arms) = false
has_contents (kinds.Within t lower upper) = false
has_contents (kinds.Sequence fields unknown) = false
has_contents (kinds.Set fields unknown) = false
has_contents (kinds.SequenceOf t) = false
has_contents (kinds.SetOf t) = false
has_contents (kinds.Explicit t) = false
has_contents _ = true

abbrev pub is_bounds : Kind → Bool
is_bounds (kinds.Within t lower upper) = true
is_bounds _ = false

abbrev pub is_set : Kind → Bool
is_set (kinds.Set fields unknown) = true
is_set _ = false

-- a value of the type may be refused for this reason
abbrev pub may_be_why : Reason → Kind → Bool
may_be_why reasons.Nothing kind = false
may_be_why reasons.Depth kind = false
may_be_why reasons.MissingType kind = false
may_be_why reasons.Form kind = has_elements kind
may_be_why reasons.Contents kind = has_contents kind
may_be_why reasons.Bounds kind = is_bounds kind
may_be_why reasons.Order kind = is_set kind
may_be_why _ kind = true

-- so of the type at a place, if it is there
abbrev pub IsOfType : Reason → Option Node → Type 0
IsOfType reason (Some node) = may_be_why reason node.kind ≡ true
IsOfType reason None = Unit {0}

abbrev pub IsDefault : Presence → Type 0
IsDefault (presences.Default d) = Unit {0}
IsDefault _ = ⊥

-- the reason is one that a field of this type has, by its presence; such a reason has a field
abbrev pub IsOfField : Reason → ℕ → Option Field → Type 0
IsOfField reasons.MissingField of (Some f) = (f.of ≡ of) × (f.presence ≡ presences.Required)
IsOfField reasons.MissingField of None = ⊥
IsOfField reasons.Default of (Some f) = (f.of ≡ of) × IsDefault f.presence
IsOfField reasons.Default of None = ⊥
IsOfField reasons.Repeated of (Some f) = f.of ≡ of
IsOfField reasons.Repeated of None = ⊥
IsOfField _ of field = Unit {0}

-- the fields of a sequence or a set
abbrev pub row_fields : Kind → Option (List Field)
row_fields (kinds.Sequence fields unknown) = Some fields.items
row_fields (kinds.Set fields unknown) = Some fields.items
row_fields _ = None

-- The type at a place of the table is a sequence or a set with this field at this place.
pub record HasFieldAt (table : List Node) (row place : ℕ) (field : Field) : Type 0 where
  pub node : Node
  pub fields : List Field
  pub found : node_at table row ≡ Some node
  pub kind : row_fields node.kind ≡ Some fields
  pub is : slice_get fields place ≡ Some field

-- The fields are of the type at a place of the table.
abbrev pub HasFieldsAt : List Node → ℕ → List Field → Type 0
HasFieldsAt table row fields = (place : ℕ) (field : Field) → slice_get fields place ≡ Some field →
    HasFieldAt table row place field

-- The type there has these fields, and its contents octets are elements.
pub record HasElementsAt (table : List Node) (row : ℕ) (fields : List Field) : Type 0 where
  pub form : IsOfType reasons.Form (node_at table row)
  pub has : HasFieldsAt table row fields

-- The type there is a set with these fields.
pub record IsSetAt (table : List Node) (row : ℕ) (fields : List Field) : Type 0 where
  pub form : IsOfType reasons.Form (node_at table row)
  pub order : IsOfType reasons.Order (node_at table row)
  pub has : HasFieldsAt table row fields

-- the field that is told is one of the row; where none is told it is this one, if any
abbrev pub IsToldField : List Node → Option Field → ℕ → Option ℕ → Option Field → Type 0
IsToldField table own row None field = field ≡ own
IsToldField table own row (Some place) field = (f : Field) × (field ≡ Some f) × HasFieldAt table row place f

-- The reason is one of the type and of the field that are told.
pub record IsTold (table : List Node) (own : Option Field) (refusal : Refusal) : Type 0 where
  pub field : Option Field
  pub of_type : IsOfType refusal.reason (node_at table refusal.of)
  pub of_field : IsOfField refusal.reason refusal.of field
  pub place : IsToldField table own refusal.row refusal.field field
