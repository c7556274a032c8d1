-- Tables whose types lead to places of the table alone.
use Rattle.std.specs.Prelude.{ℕ, List, drop, length, nat_lt, Bool, true, ◌&&◌, Option, Some, None}
use Rattle.std.specs.List.{list_all}
use Rattle.asn1_schema.specs.declared.schema.Field.{Field}
use Rattle.asn1_schema.specs.declared.schema.Kind.{Kind}
use Rattle.asn1_schema.specs.declared.schema.Kind.TheVariants as kinds
use Rattle.asn1_schema.specs.declared.schema.Node.{Node}
use Rattle.asn1_schema.specs.Sound.{in_order}

-- each of these is one of so many places
abbrev pub are_places : ℕ → List ℕ → Bool
are_places count places = list_all (λ of. nat_lt of count) places

-- each field is of a type at one of so many places
abbrev pub fields_lead : ℕ → List Field → Bool
fields_lead count fields = list_all (λ f. nat_lt f.of count) fields

-- the type of unknown elements, if there may be some, is at one of so many places
abbrev pub unknown_leads : ℕ → Option ℕ → Bool
unknown_leads count None = true
unknown_leads count (Some of) = nat_lt of count

-- what a type leads to is at one of so many places
abbrev pub kind_leads : ℕ → Kind → Bool
kind_leads count (kinds.Sequence fields unknown) = fields_lead count fields.items && unknown_leads count unknown
kind_leads count (kinds.Set fields unknown) = fields_lead count fields.items && unknown_leads count unknown
kind_leads count (kinds.SequenceOf of) = nat_lt of count
kind_leads count (kinds.SetOf of) = nat_lt of count
kind_leads count (kinds.Choice arms) = are_places count arms.items
kind_leads count (kinds.Explicit of) = nat_lt of count
kind_leads count (kinds.Within of lower upper) = nat_lt of count
kind_leads count _ = true

-- what each type of a table leads to is a place of the table
abbrev pub lead_within : List Node → Bool
lead_within nodes = list_all (λ n. kind_leads (length nodes) n.kind) nodes

-- Each choice and each type with bounds behind so many others stands behind what it leads to. So by these alone none leads to
-- itself.
abbrev pub added_in_order : ℕ → List Node → Bool
added_in_order count nodes = in_order count (drop count nodes)
