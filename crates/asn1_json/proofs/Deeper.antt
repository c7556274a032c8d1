-- What is denoted to a depth of arrays and objects is denoted to each greater depth.
use Rattle.std.proofs.Common.{◌≡◌, ℕ, zero, suc, List, [], ◌∷◌, codes, Option, Some, None}
use Rattle.json.specs.Json.{Json, Items, no_items, item, Members}
use Rattle.json.specs.Find.{get_member}
use Rattle.asn1_schema.specs.declared.schema.Field.{Field}
use Rattle.asn1_schema.specs.declared.schema.Presence.{Presence}
use Rattle.asn1_schema.specs.declared.schema.Presence.TheVariants as presences
use Rattle.asn1_schema.specs.declared.schema.Kind.{Kind}
use Rattle.asn1_schema.specs.declared.schema.Kind.TheVariants as kinds
use Rattle.asn1_schema.specs.Grammar.{Body, LeftOut}
use Rattle.asn1_schema.specs.Rules.{der}
use Rattle.asn1_schema.specs.Values.{Value, Values, none, absent, more}
use Rattle.asn1_json.specs.Tokens.{Types, name_of_field}
use Rattle.asn1_json.specs.Types.{kind_at, resolved}
use Rattle.asn1_json.specs.Denotes.{Denotes, DenoteFields, DenoteItems, DenoteUnknown, DenotesComponent, DenotesKind, DenotesResolved}

abbrev Each : (ℕ → Json → Value → Type 0) → (ℕ → Json → Value → Type 0) → Type 0
Each Sub Sup = (t : ℕ) (j : Json) (v : Value) → Sub t j v → Sup t j v

items_more : (Sub Sup : ℕ → Json → Value → Type 0) (t : ℕ) → Each Sub Sup → (js : Items) (vs : Values) →
    DenoteItems (Sub t) js vs → DenoteItems (Sup t) js vs
items_more Sub Sup t e no_items none d = d
items_more Sub Sup t e no_items (absent vs) d = d
items_more Sub Sup t e no_items (more v vs) d = d
items_more Sub Sup t e (item j js) none d = d
items_more Sub Sup t e (item j js) (absent vs) d = d
items_more Sub Sup t e (item j js) (more v vs) d = (e t j v d.0, items_more Sub Sup t e js vs d.1)

unknown_more : (Sub Sup : ℕ → Json → Value → Type 0) → Each Sub Sup → (unknown : Option ℕ) (found : Option Json) (vs : Values) →
    DenoteUnknown Sub unknown found vs → DenoteUnknown Sup unknown found vs
unknown_more Sub Sup e None found vs d = d
unknown_more Sub Sup e (Some t) None vs d = d
unknown_more Sub Sup e (Some t) (Some j) vs (js, is, all) = (js, is, items_more Sub Sup t e js vs all)

left_more : (G : Values → Type 0) (H : Values → Type 0) (types : Types) (depth t : ℕ) (presence : Presence) (vs : Values) →
    ((ws : Values) → G ws → H ws) → LeftOut der (Body der types.table depth t) presence vs G →
    LeftOut der (Body der types.table depth t) presence vs H
left_more G H types depth t presences.Required none e d = d
left_more G H types depth t presences.Required (absent vs) e d = d
left_more G H types depth t presences.Required (more v vs) e d = d
left_more G H types depth t presences.Optional none e d = d
left_more G H types depth t presences.Optional (absent vs) e d = e vs d
left_more G H types depth t presences.Optional (more v vs) e d = d
left_more G H types depth t (presences.Default o) none e d = d
left_more G H types depth t (presences.Default o) (absent vs) e d = d
left_more G H types depth t (presences.Default o) (more v vs) e d = (d.0, e vs d.1)

component_more : (Sub Sup : ℕ → Json → Value → Type 0) → Each Sub Sup → (G H : Values → Type 0) (types : Types) (depth t : ℕ)
    (presence : Presence) (found : Option Json) (vs : Values) → ((ws : Values) → G ws → H ws) →
    DenotesComponent (Sub t) (LeftOut der (Body der types.table depth t) presence vs) found vs G →
    DenotesComponent (Sup t) (LeftOut der (Body der types.table depth t) presence vs) found vs H
component_more Sub Sup e G H types depth t presence None vs next d = left_more G H types depth t presence vs next d
component_more Sub Sup e G H types depth t presence (Some j) none next d = d
component_more Sub Sup e G H types depth t presence (Some j) (absent vs) next d = d
component_more Sub Sup e G H types depth t presence (Some j) (more v vs) next d = (e t j v d.0, next vs d.1)

fields_more : (Sub Sup : ℕ → Json → Value → Type 0) → Each Sub Sup → (types : Types) (depth at : ℕ) (unknown : Option ℕ)
    (ms : Members) (fs : List Field) (place : ℕ) (vs : Values) →
    DenoteFields types depth Sub at unknown ms fs place vs → DenoteFields types depth Sup at unknown ms fs place vs
fields_more Sub Sup e types depth at unknown ms [] place vs d =
    unknown_more Sub Sup e unknown (get_member (codes "...") ms) vs d
fields_more Sub Sup e types depth at unknown ms (f ∷ fs) place vs d =
    component_more Sub Sup e (DenoteFields types depth Sub at unknown ms fs (suc place))
    (DenoteFields types depth Sup at unknown ms fs (suc place)) types depth f.of f.presence
    (get_member (name_of_field types (Some at) place) ms) vs
    (λ ws w. fields_more Sub Sup e types depth at unknown ms fs (suc place) ws w) d

kind_more : (Sub Sup : ℕ → Json → Value → Type 0) → Each Sub Sup → (types : Types) (depth at : ℕ) (kind : Option Kind)
    (j : Json) (v : Value) → DenotesKind types depth Sub at kind j v → DenotesKind types depth Sup at kind j v
kind_more Sub Sup e types depth at None j v d = d
kind_more Sub Sup e types depth at (Some (kinds.Sequence fields unknown)) j v (ms, vs, is, one, named, all) =
    (ms, vs, is, one, named, fields_more Sub Sup e types depth at unknown ms fields.items 0 vs all)
kind_more Sub Sup e types depth at (Some (kinds.Set fields unknown)) j v (ms, vs, is, one, named, all) =
    (ms, vs, is, one, named, fields_more Sub Sup e types depth at unknown ms fields.items 0 vs all)
kind_more Sub Sup e types depth at (Some (kinds.SequenceOf t)) j v (js, vs, is, one, all) =
    (js, vs, is, one, items_more Sub Sup t e js vs all)
kind_more Sub Sup e types depth at (Some (kinds.SetOf t)) j v (js, vs, is, one, (others, order, all)) =
    (js, vs, is, one, (others, order, items_more Sub Sup t e others vs all))
kind_more Sub Sup e types depth at (Some (kinds.Choice arms)) j v (key, inner, arm, t, w, is, one, named, of, d) =
    (key, inner, arm, t, w, is, one, named, of, e t inner w d)
kind_more Sub Sup e types depth at (Some kinds.Boolean) j v d = d
kind_more Sub Sup e types depth at (Some kinds.Null) j v d = d
kind_more Sub Sup e types depth at (Some kinds.Integer) j v d = d
kind_more Sub Sup e types depth at (Some (kinds.Enumerated numbers extensible)) j v d = d
kind_more Sub Sup e types depth at (Some (kinds.Bits named)) j v d = d
kind_more Sub Sup e types depth at (Some kinds.Octets) j v d = d
kind_more Sub Sup e types depth at (Some (kinds.Identifier relative)) j v d = d
kind_more Sub Sup e types depth at (Some (kinds.Text kind)) j v d = d
kind_more Sub Sup e types depth at (Some (kinds.Time kind)) j v d = d
kind_more Sub Sup e types depth at (Some kinds.Any) j v d = d
kind_more Sub Sup e types depth at (Some (kinds.Explicit t)) j v d = d
kind_more Sub Sup e types depth at (Some (kinds.Within t lower upper)) j v d = d

resolved_more : (Sub Sup : ℕ → Json → Value → Type 0) → Each Sub Sup → (types : Types) (depth : ℕ) (at : Option ℕ)
    (j : Json) (v : Value) → DenotesResolved types depth Sub at j v → DenotesResolved types depth Sup at j v
resolved_more Sub Sup e types depth None j v d = d
resolved_more Sub Sup e types depth (Some at) j v d =
    kind_more Sub Sup e types depth at (kind_at types.table (Some at)) j v d

pub one_deeper : (types : Types) (depth nesting of : ℕ) (j : Json) (v : Value) →
    Denotes types depth nesting of j v → Denotes types depth (suc nesting) of j v
unfolding Denotes
one_deeper types depth zero of j v d = absurd d
one_deeper types depth (suc nesting) of j v d =
    resolved_more (Denotes types depth nesting) (Denotes types depth (suc nesting))
    (λ t i w. one_deeper types depth nesting t i w) types depth (resolved types.table (Some of)) j v d
