-- Tables whose optional fields and arms are told apart by their tags (X.680 25.6, 27.3, 29.3): a test that computes.
use Rattle.std.specs.Prelude.{ℕ, suc, Bool, true, false, not, List, [], ◌∷◌, ◌||◌, ◌&&◌, nat_eq, nat_lt, Option, Some, None, slice_get, ◌≡◌}
use Rattle.std.specs.List.{list_all, list_any}
use Rattle.asn1_schema.specs.declared.schema.TypeTag.{TypeTag}
use Rattle.asn1_schema.specs.declared.schema.Tags.{Tags}
use Rattle.asn1_schema.specs.declared.schema.Tags.TheVariants as tags
use Rattle.asn1_schema.specs.declared.schema.Presence.{Presence}
use Rattle.asn1_schema.specs.declared.schema.Presence.TheVariants as presences
use Rattle.asn1_schema.specs.declared.schema.Field.{Field}
use Rattle.asn1_schema.specs.declared.schema.Node.{Node}
use Rattle.asn1_schema.specs.declared.schema.Kind.{Kind}
use Rattle.asn1_schema.specs.declared.schema.Kind.TheVariants as kinds
use Rattle.asn1_schema.specs.Values.{Value}
use Rattle.x690.specs.Identifiers.{Identifier}
use Rattle.asn1_schema.specs.Grammar.{Word, has_tag}
use Rattle.asn1_schema.specs.Rules.{strict}

-- the type at a place of the table
abbrev pub node_at : List Node → ℕ → Option Node
node_at table t = slice_get table t

-- the tag is one of them
abbrev pub is_among : TypeTag → List TypeTag → Bool
is_among tag others = list_any (λ other. nat_eq other.class tag.class && nat_eq other.number tag.number) others

-- each is
abbrev pub are_among : List TypeTag → List TypeTag → Bool
are_among tags others = list_all (λ tag. is_among tag others) tags

-- none is
abbrev pub none_among : List TypeTag → List TypeTag → Bool
none_among tags others = list_all (λ tag. not (is_among tag others)) tags

-- no tag is of both
abbrev pub tags_disjoint : Tags → Tags → Bool
tags_disjoint (tags.Among xs) (tags.Among ys) = none_among xs.items ys.items
tags_disjoint (tags.Among xs) (tags.AllBut ys) = are_among xs.items ys.items
tags_disjoint (tags.AllBut xs) (tags.Among ys) = are_among ys.items xs.items
tags_disjoint (tags.AllBut xs) (tags.AllBut ys) = false

-- each tag of the one is of the other
abbrev pub are_within : Tags → Tags → Bool
are_within (tags.Among xs) (tags.Among ys) = are_among xs.items ys.items
are_within (tags.Among xs) (tags.AllBut ys) = none_among xs.items ys.items
are_within (tags.AllBut xs) (tags.Among ys) = false
are_within (tags.AllBut xs) (tags.AllBut ys) = are_among ys.items xs.items

-- the tags are apart from those of this type, if there is one
abbrev pub apart_from : Tags → Option Node → Bool
apart_from ts None = true
apart_from ts (Some node) = tags_disjoint ts node.tags

-- the tags hold those of this type, if there is one
abbrev pub holds : Tags → Option Node → Bool
holds ts None = true
holds ts (Some node) = are_within node.tags ts

abbrev pub may_be_left_out : Presence → Bool
may_be_left_out presences.Required = false
may_be_left_out presences.Optional = true
may_be_left_out (presences.Default d) = true

-- no unknown element behind an extension mark has one of these tags
abbrev pub apart_from_unknown : List Node → Tags → Option ℕ → Bool
apart_from_unknown table ts None = true
apart_from_unknown table ts (Some t) = apart_from ts (node_at table t)

-- A field is told from what follows: each is, or each that may be left out.
abbrev pub is_told : Bool → Presence → Bool
is_told every presence = every || may_be_left_out presence

-- No element with one of these tags begins the fields, where each that may be left out is. Or none is of any field.
abbrev pub apart_from_next : Bool → List Node → Option ℕ → Tags → List Field → Bool
apart_from_next every table unknown ts [] = apart_from_unknown table ts unknown
apart_from_next every table unknown ts (f ∷ fs) =
    apart_from ts (node_at table f.of) &&
    (not (is_told every f.presence) || apart_from_next every table unknown ts fs)

-- the field is told from what may follow, if its type is there
abbrev pub field_unambiguous : Bool → List Node → Option ℕ → Option Node → List Field → Bool
field_unambiguous every table unknown None fs = true
field_unambiguous every table unknown (Some node) fs = apart_from_next every table unknown node.tags fs

-- each field that may be left out is told from what may follow it; or each field is told from all others
abbrev pub fields_unambiguous : Bool → List Node → Option ℕ → List Field → Bool
fields_unambiguous every table unknown [] = true
fields_unambiguous every table unknown (f ∷ fs) =
    (not (is_told every f.presence) || field_unambiguous every table unknown (node_at table f.of) fs) &&
    fields_unambiguous every table unknown fs

-- none of the types has one of these tags
abbrev pub apart_from_arms : List Node → Tags → List ℕ → Bool
apart_from_arms table ts arms = list_all (λ a. apart_from ts (node_at table a)) arms

-- the arm is told from the others, if its type is there
abbrev pub arm_unambiguous : List Node → Option Node → List ℕ → Bool
arm_unambiguous table None rest = true
arm_unambiguous table (Some node) rest = apart_from_arms table node.tags rest

-- each arm is told from the others
abbrev pub arms_unambiguous : List Node → List ℕ → Bool
arms_unambiguous table [] = true
arms_unambiguous table (a ∷ rest) = arm_unambiguous table (node_at table a) rest && arms_unambiguous table rest

-- the tags hold those of each arm
abbrev pub arms_included : List Node → Tags → List ℕ → Bool
arms_included table ts arms = list_all (λ a. holds ts (node_at table a)) arms

abbrev pub is_one : List TypeTag → Bool
is_one [] = false
is_one (tag ∷ []) = true
is_one (tag ∷ other ∷ others) = false

-- there is one tag
abbrev pub is_single : Tags → Bool
is_single (tags.Among ts) = is_one ts.items
is_single (tags.AllBut ts) = false

-- classes are below 4 (X.690 8.1.2.2)
abbrev pub are_listed_classes : List TypeTag → Bool
are_listed_classes ts = list_all (λ t. nat_lt t.class 4) ts

abbrev pub are_classes : Tags → Bool
are_classes (tags.Among ts) = are_listed_classes ts.items
are_classes (tags.AllBut ts) = are_listed_classes ts.items

-- the parts of a type are told apart; all but a choice, bounds and any element have one tag
abbrev pub kind_unambiguous : List Node → Tags → Kind → Bool
kind_unambiguous table ts (kinds.Sequence fields unknown) = is_single ts &&
    fields_unambiguous false table unknown fields.items
kind_unambiguous table ts (kinds.Set fields unknown) = is_single ts &&
    fields_unambiguous true table unknown fields.items
kind_unambiguous table ts (kinds.Choice arms) = arms_unambiguous table arms.items && arms_included table ts arms.items
kind_unambiguous table ts (kinds.Within t lower upper) = holds ts (node_at table t)
kind_unambiguous table ts kinds.Any = true
kind_unambiguous table ts _ = is_single ts

abbrev pub node_unambiguous : List Node → Node → Bool
node_unambiguous table node = are_classes node.tags && kind_unambiguous table node.tags node.kind

-- of each of these types
abbrev pub all_unambiguous : List Node → List Node → Bool
all_unambiguous table nodes = list_all (λ node. node_unambiguous table node) nodes

-- each place is before this one
abbrev pub all_before : ℕ → List ℕ → Bool
all_before t places = list_all (λ a. nat_lt a t) places

-- a choice and bounds stand behind what they lead to, so that none leads to itself
abbrev pub leads_back : ℕ → Kind → Bool
leads_back t (kinds.Choice arms) = all_before t arms.items
leads_back t (kinds.Within a lower upper) = nat_lt a t
leads_back t _ = true

-- so does each type, from this place on
abbrev pub in_order : ℕ → List Node → Bool
in_order t [] = true
in_order t (node ∷ nodes) = leads_back t node.kind && in_order (suc t) nodes

unfoldable pub is_sound : List Node → Bool
is_sound table = all_unambiguous table table && in_order 0 table

-- Defaults are values of their types, in their strict encodings.

abbrev pub IsDefaultOf : List Node → ℕ → ℕ → Presence → Type 0
IsDefaultOf table depth t (presences.Default d) = (v : Value) × Word strict table depth t d.items v
IsDefaultOf table depth t _ = Unit {0}

abbrev pub HaveDefaults : List Node → ℕ → List Field → Type 0
HaveDefaults table depth [] = Unit {0}
HaveDefaults table depth (f ∷ fs) = IsDefaultOf table depth f.of f.presence × HaveDefaults table depth fs

-- A type of the table has the tag.
pub record HasTagAt (table : List Node) (t : ℕ) (id : Identifier) : Type 0 where
  pub node : Node
  pub found : node_at table t ≡ Some node
  pub tagged : has_tag node.tags id ≡ true
