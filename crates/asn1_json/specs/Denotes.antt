-- Which values JSON denotes, by the types of a table and the names beside it (ITU-T X.697).
use Rattle.std.specs.Prelude.{ℕ, zero, suc, List, [], ◌∷◌, ◌≡◌, ◌⊎◌, ◌<◌, codes, Option, Some, None}
use Rattle.std.specs.Prelude.{if◌then◌else◌}
use Rattle.std.specs.List.Sorted.{IsPermutation}
use Rattle.std.specs.Str.{bytes_eq}
use Rattle.json.specs.Json.{Json, array, object, Items, no_items, item, Members, no_members, member}
use Rattle.json.specs.Find.{get_member}
use Rattle.asn1_schema.specs.declared.schema.Field.{Field}
use Rattle.asn1_schema.specs.declared.schema.Kind.{Kind}
use Rattle.asn1_schema.specs.declared.schema.Kind.TheVariants as kinds
use Rattle.asn1_schema.specs.Values.{Value, Values, leaf, row, chosen, none, absent, more, LeafValue}
use Rattle.asn1_schema.specs.Grammar.{Body, LeftOut}
use Rattle.asn1_schema.specs.Rules.{der}
use Rattle.asn1_json.specs.Tokens.{Types, name_of_arm, name_of_field, type_of_arm, count_of_fields}
use Rattle.asn1_json.specs.Types.{kind_at, resolved, labels_at}
use Rattle.asn1_json.specs.DenotedLeaves.{DenotesLeaf}

-- each item denotes its value
abbrev pub DenoteItems : (Json → Value → Type 0) → Items → Values → Type 0
DenoteItems Sub no_items none = Unit {0}
DenoteItems Sub (item j js) (more v vs) = Sub j v × DenoteItems Sub js vs
DenoteItems Sub _ _ = ⊥

abbrev pub listed_items : Items → List Json
listed_items no_items = []
listed_items (item j js) = j ∷ listed_items js

-- items denote values in any order
abbrev pub DenoteSet : (Json → Value → Type 0) → Items → Values → Type 0
DenoteSet Sub js vs = (others : Items) × IsPermutation (listed_items js) (listed_items others) × DenoteItems Sub others vs

-- the items of a member denote unknown elements; where it is not there, there are none
abbrev pub DenoteUnknown : (ℕ → Json → Value → Type 0) → Option ℕ → Option Json → Values → Type 0
DenoteUnknown Sub None found vs = vs ≡ none
DenoteUnknown Sub (Some t) None vs = vs ≡ none
DenoteUnknown Sub (Some t) (Some j) vs = (js : Items) × (j ≡ array js) × DenoteItems (Sub t) js vs

-- a member denotes the value of a component; where it is not there, the component is left out
abbrev pub DenotesComponent : (Json → Value → Type 0) → ((Values → Type 0) → Type 0) → Option Json → Values →
    (Values → Type 0) → Type 0
DenotesComponent Sub Left None vs Rest = Left Rest
DenotesComponent Sub Left (Some j) (more v vs) Rest = Sub j v × Rest vs
DenotesComponent Sub Left (Some j) _ Rest = ⊥

-- Members denote the values of the fields from a place on, and of unknown elements behind them. A component that is left
-- out has the value of its default, to a depth of elements.
abbrev pub DenoteFields : Types → ℕ → (ℕ → Json → Value → Type 0) → ℕ → Option ℕ → Members → List Field → ℕ → Values → Type 0
DenoteFields types depth Sub at unknown ms [] place vs =
    DenoteUnknown Sub unknown (get_member (codes "...") ms) vs
DenoteFields types depth Sub at unknown ms (f ∷ fs) place vs =
    DenotesComponent (Sub f.of) (LeftOut der (Body der types.table depth f.of) f.presence vs)
    (get_member (name_of_field types (Some at) place) ms) vs
    (DenoteFields types depth Sub at unknown ms fs (suc place))

-- the name of a field, or of the unknown elements
abbrev pub IsNameOfField : Types → ℕ → List ℕ → Type 0
IsNameOfField types at key =
    (place : ℕ) × (place < count_of_fields types (Some at)) × (key ≡ name_of_field types (Some at) place)

abbrev pub IsNameOfPart : Types → ℕ → Option ℕ → List ℕ → Type 0
IsNameOfPart types at unknown key =
    IsNameOfField types at key ⊎ ((t : ℕ) × (unknown ≡ Some t) × (key ≡ codes "..."))

-- each member has such a name, and none behind it has the same
abbrev pub AreNamed : Types → ℕ → Option ℕ → Members → Type 0
AreNamed types at unknown no_members = Unit {0}
AreNamed types at unknown (member key j ms) =
    IsNameOfPart types at unknown key × (get_member key ms ≡ None) × AreNamed types at unknown ms

-- an object denotes a row
abbrev pub DenotesRow : Types → ℕ → (ℕ → Json → Value → Type 0) → ℕ → List Field → Option ℕ → Json → Value → Type 0
DenotesRow types depth Sub at fields unknown j v = (ms : Members) × (vs : Values) × (j ≡ object ms) × (v ≡ row vs) ×
    AreNamed types at unknown ms × DenoteFields types depth Sub at unknown ms fields 0 vs

-- the first arm from a place on that has a name
abbrev pub arm_from : Types → ℕ → List ℕ → List ℕ → ℕ → Option ℕ
arm_from types choice key [] place = None
arm_from types choice key (t ∷ ts) place =
    if bytes_eq (name_of_arm types (Some choice) place) key then Some place
    else arm_from types choice key ts (suc place)

-- an object with one member, which has the name of an arm, denotes a value of that
abbrev pub DenotesChosen : Types → (ℕ → Json → Value → Type 0) → ℕ → List ℕ → Json → Value → Type 0
DenotesChosen types Sub choice arms j v =
    (key : List ℕ) × (inner : Json) × (arm t : ℕ) × (w : Value) × (j ≡ object (member key inner no_members)) ×
    (v ≡ chosen arm w) × (arm_from types choice key arms 0 ≡ Some arm) ×
    (type_of_arm types (Some choice) arm ≡ Some t) × Sub t inner w

-- JSON denotes a value of a kind. Sub is of what it holds.
abbrev pub DenotesKind : Types → ℕ → (ℕ → Json → Value → Type 0) → ℕ → Option Kind → Json → Value → Type 0
DenotesKind types depth Sub at None j v = ⊥
DenotesKind types depth Sub at (Some (kinds.Sequence fields unknown)) j v =
    DenotesRow types depth Sub at fields.items unknown j v
DenotesKind types depth Sub at (Some (kinds.Set fields unknown)) j v =
    DenotesRow types depth Sub at fields.items unknown j v
DenotesKind types depth Sub at (Some (kinds.SequenceOf t)) j v =
    (js : Items) × (vs : Values) × (j ≡ array js) × (v ≡ row vs) × DenoteItems (Sub t) js vs
DenotesKind types depth Sub at (Some (kinds.SetOf t)) j v =
    (js : Items) × (vs : Values) × (j ≡ array js) × (v ≡ row vs) × DenoteSet (Sub t) js vs
DenotesKind types depth Sub at (Some (kinds.Choice arms)) j v = DenotesChosen types Sub at arms.items j v
DenotesKind types depth Sub at (Some kind) j v =
    (l : LeafValue) × (v ≡ leaf l) × DenotesLeaf (labels_at types.names (Some at)) kind j l

-- so, of the type that all tags and bounds are on
abbrev pub DenotesResolved : Types → ℕ → (ℕ → Json → Value → Type 0) → Option ℕ → Json → Value → Type 0
DenotesResolved types depth Sub None j v = ⊥
DenotesResolved types depth Sub (Some at) j v = DenotesKind types depth Sub at (kind_at types.table (Some at)) j v

-- JSON whose arrays and objects nest less deep than so denotes a value of the type at a place. Elements of defaults nest
-- to a depth.
unfoldable pub Denotes : Types → ℕ → ℕ → ℕ → Json → Value → Type 0
Denotes types depth zero of j v = ⊥
Denotes types depth (suc nesting) of j v =
    DenotesResolved types depth (Denotes types depth nesting) (resolved types.table (Some of)) j v
