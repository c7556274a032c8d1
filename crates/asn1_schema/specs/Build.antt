-- What the calls that build a table put into it.
use Rattle.std.specs.Prelude.{ℕ, ℤ, List, [], ◌∷◌, ◌++◌, length, ◌≡◌, Bool, Option, Some, None, Result, Ok, Err, slice_get, slice_set, map, not, true, false, ◌||◌, ◌-◌, if◌then◌else◌}
use Rattle.std.specs.List.{list_any, list_all}
use Rattle.x690.specs.Identifiers.{Identifier}
use Rattle.asn1_schema.specs.Grammar.{has_tag, is_tag_of}
use Rattle.asn1_schema.specs.declared.schema.TypeTag.{TypeTag}
use Rattle.asn1_schema.specs.declared.schema.Tags.{Tags}
use Rattle.asn1_schema.specs.declared.schema.Tags.TheVariants as tags
use Rattle.asn1_schema.specs.declared.schema.Presence.{Presence}
use Rattle.asn1_schema.specs.declared.schema.Presence.TheVariants as presences
use Rattle.asn1_schema.specs.declared.schema.Field.{Field}
use Rattle.asn1_schema.specs.declared.schema.Node.{Node}
use Rattle.asn1_schema.specs.declared.schema.Kind.{Kind}
use Rattle.asn1_schema.specs.declared.schema.TextKind.{TextKind}
use Rattle.asn1_schema.specs.declared.schema.TextKind.TheVariants as texts
use Rattle.asn1_schema.specs.declared.names.PartName.{PartName}
use Rattle.asn1_schema.specs.declared.schema.Kind.TheVariants as kinds
use Rattle.asn1_schema.specs.declared.parts.Omission.{Omission}
use Rattle.asn1_schema.specs.declared.parts.Omission.TheVariants as omissions
use Rattle.asn1_schema.specs.declared.parts.Part.{Part}

-- one type stands behind those that were there, at this place
pub record IsAdded (old new : List Node) (place : ℕ) (P : Node → Type 0) : Type 0 where
  pub node : Node
  pub all : new ≡ old ++ node ∷ []
  pub last : place ≡ length old
  pub is : P node

-- a universal tag
abbrev pub universal : ℕ → TypeTag
universal n = record { class = 0; number = n }

-- the tags are this one
abbrev pub IsTagged : TypeTag → Tags → Type 0
IsTagged tag (tags.Among ts) = ts.items ≡ tag ∷ []
IsTagged tag (tags.AllBut ts) = ⊥

-- a type with this tag, and of this kind
abbrev pub IsOf : TypeTag → Kind → Node → Type 0
IsOf tag kind node = IsTagged tag node.tags × (node.kind ≡ kind)

-- a type with this tag, of a kind like this
abbrev pub IsLike : TypeTag → (Kind → Type 0) → Node → Type 0
IsLike tag P node = IsTagged tag node.tags × P node.kind

-- whether a field may be left out is as it was asked for
abbrev pub IsPresence : Omission → Presence → Type 0
IsPresence omissions.Never presences.Required = Unit {0}
IsPresence omissions.Allowed presences.Optional = Unit {0}
IsPresence (omissions.Default o) (presences.Default d) = d.items ≡ o.now
IsPresence _ _ = ⊥

-- the fields are those that were asked for
abbrev pub AreParts : List Part → List Field → Type 0
AreParts [] [] = Unit {0}
AreParts (p ∷ ps) (f ∷ fs) = (f.of ≡ p.of) × IsPresence p.omission f.presence × AreParts ps fs
AreParts _ _ = ⊥

-- a sequence of these fields, and of such unknown elements
abbrev pub IsSequenceRow : List Part → Option ℕ → Kind → Type 0
IsSequenceRow parts unknown (kinds.Sequence fields u) = AreParts parts fields.items × (u ≡ unknown)
IsSequenceRow parts unknown _ = ⊥

-- a set of these fields, and of such unknown elements
abbrev pub IsSetRow : List Part → Option ℕ → Kind → Type 0
IsSetRow parts unknown (kinds.Set fields u) = AreParts parts fields.items × (u ≡ unknown)
IsSetRow parts unknown _ = ⊥

-- a choice among the types at these places
abbrev pub IsChoiceOf : List ℕ → Kind → Type 0
IsChoiceOf places (kinds.Choice arms) = arms.items ≡ places
IsChoiceOf places _ = ⊥

-- one of these numbers, or any where it is extensible
abbrev pub IsEnumerated : List PartName → Bool → Kind → Type 0
IsEnumerated numbers extensible (kinds.Enumerated ns e) = (ns.items ≡ map (λ l. l.number) numbers) × (e ≡ extensible)
IsEnumerated numbers extensible _ = ⊥

-- the number of the universal tag of a character string (X.680 table 8)
abbrev pub text_number : TextKind → ℕ
text_number texts.Utf8 = 12
text_number texts.Numeric = 18
text_number texts.Printable = 19
text_number texts.Teletex = 20
text_number texts.Videotex = 21
text_number texts.Ia5 = 22
text_number texts.Graphic = 25
text_number texts.Visible = 26
text_number texts.General = 27
text_number texts.Universal = 28
text_number texts.Bmp = 30
text_number texts.Descriptor = 7

-- the same tags
abbrev pub AreSameTags : Tags → Tags → Type 0
AreSameTags (tags.Among xs) (tags.Among ys) = ys.items ≡ xs.items
AreSameTags (tags.AllBut xs) (tags.AllBut ys) = ys.items ≡ xs.items
AreSameTags _ _ = ⊥

-- any tag but the one with which contents of indefinite length end (X.690 8.1.5)
abbrev pub IsAnyTag : Tags → Type 0
IsAnyTag (tags.Among ts) = ⊥
IsAnyTag (tags.AllBut ts) = ts.items ≡ universal 0 ∷ []

-- bounds on the type at a place, with its tags
abbrev pub IsBounded : List Node → ℕ → Option ℤ → Option ℤ → Node → Type 0
IsBounded table of lower upper node =
    (inner : Node) × (slice_get table of ≡ Some inner) × AreSameTags inner.tags node.tags ×
    (node.kind ≡ kinds.Within of lower upper)

-- any element
abbrev pub IsAnyNode : Node → Type 0
IsAnyNode node = IsAnyTag node.tags × (node.kind ≡ kinds.Any)

abbrev pub IsSamePresence : Presence → Presence → Type 0
IsSamePresence presences.Required p = p ≡ presences.Required
IsSamePresence presences.Optional p = p ≡ presences.Optional
IsSamePresence (presences.Default o) (presences.Default d) = d.items ≡ o.items
IsSamePresence (presences.Default o) _ = ⊥

abbrev pub AreSameFields : List Field → List Field → Type 0
AreSameFields [] [] = Unit {0}
AreSameFields (f ∷ fs) (g ∷ gs) = (g.of ≡ f.of) × IsSamePresence f.presence g.presence × AreSameFields fs gs
AreSameFields _ _ = ⊥

-- The kind of a type under another tag is the same, but a choice and any element get the tag round them (X.680 31.2.7).
-- Bounds then bound a type under the tag, at this place.
abbrev pub IsRetagged : ℕ → ℕ → Kind → Kind → Type 0
IsRetagged of inner (kinds.Enumerated ns e) (kinds.Enumerated ms f) = (ms.items ≡ ns.items) × (f ≡ e)
IsRetagged of inner (kinds.Enumerated ns e) _ = ⊥
IsRetagged of inner (kinds.Sequence fs u) (kinds.Sequence gs w) = AreSameFields fs.items gs.items × (w ≡ u)
IsRetagged of inner (kinds.Sequence fs u) _ = ⊥
IsRetagged of inner (kinds.Set fs u) (kinds.Set gs w) = AreSameFields fs.items gs.items × (w ≡ u)
IsRetagged of inner (kinds.Set fs u) _ = ⊥
IsRetagged of inner (kinds.Choice arms) k = k ≡ kinds.Explicit of
IsRetagged of inner kinds.Any k = k ≡ kinds.Explicit of
IsRetagged of inner (kinds.Within t l u) k = k ≡ kinds.Within inner l u
IsRetagged of inner same k = k ≡ same

-- The type at a place was put behind the others under a tag, with what it bounds right before it.
pub record IsPutUnderTag (old new : List Node) (place : ℕ) (tag : TypeTag) (of : ℕ) : Type 0 where
  pub was : Node
  pub node : Node
  pub known : slice_get old of ≡ Some was
  pub front : List Node
  pub all : new ≡ front ++ node ∷ []
  pub last : place ≡ length front
  pub tagged : IsTagged tag node.tags
  pub kind : IsRetagged of (place - 1) was.kind node.kind

-- A declared type has the kind of the type at a place, and its own tag.
pub record IsDefined (old new : List Node) (place of : ℕ) : Type 0 where
  pub declared : Node
  pub was : Node
  pub kind : Kind
  pub hole : slice_get old place ≡ Some declared
  pub known : slice_get old of ≡ Some was
  pub same : IsRetagged of of was.kind kind
  pub all : new ≡ slice_set old place (record declared { kind = kind })

-- no bounds
abbrev pub IsUnbounded : Kind → Type 0
IsUnbounded (kinds.Within t l u) = ⊥
IsUnbounded _ = Unit {0}

-- A type like this is put behind the others, and its place is answered; or the table stays.
abbrev pub Puts : {E : Type 0} → List Node → List Node → (Node → Type 0) → Result ℕ E → Type 0
Puts old new P (Ok place) = IsAdded old new place P
Puts old new P (Err e) = new ≡ old

-- an identifier has one of the tags just where this is so
abbrev pub Decides : (Identifier → Bool) → Tags → Type 0
Decides P ts = (id : Identifier) → has_tag ts id ≡ P id

-- the identifier has a tag of the type at a place
abbrev pub node_has_tag : Identifier → Option Node → Bool
node_has_tag id None = false
node_has_tag id (Some node) = has_tag node.tags id

abbrev pub has_tag_at : List Node → Identifier → ℕ → Bool
has_tag_at table id t = node_has_tag id (slice_get table t)

abbrev pub has_tag_of : List Node → List ℕ → Identifier → Bool
has_tag_of table places id = list_any (has_tag_at table id) places

-- the tags are those of the types at these places
abbrev pub AreTagsOf : List Node → List ℕ → Tags → Type 0
AreTagsOf table places = Decides (has_tag_of table places)

abbrev pub is_omissible : Omission → Bool
is_omissible omissions.Never = false
is_omissible omissions.Allowed = true
is_omissible (omissions.Default o) = true

abbrev pub may_be_omitted : Part → Bool
may_be_omitted p = is_omissible p.omission

-- the places of the types of the fields at the end that may all be left out
abbrev pub last_places : List Part → List ℕ
last_places [] = []
last_places (p ∷ ps) =
    if list_all may_be_omitted (p ∷ ps) then map (λ q. q.of) (p ∷ ps) else last_places ps

-- A type stands behind the others, and one of unknown elements right before it. An unknown element has no tag of the types
-- at these places, and is not the end of contents octets (X.690 8.1.5).
pub record IsAddedOpen (old new : List Node) (place : ℕ) (told : List ℕ) (P : ℕ → Node → Type 0) : Type 0 where
  pub unknown : Node
  pub is_any : unknown.kind ≡ kinds.Any
  pub apart : Decides (λ id. not (has_tag_of old told id || is_tag_of id (universal 0))) unknown.tags
  pub added : IsAdded (old ++ unknown ∷ []) new place (P (length old))

-- These two are put behind the others; or the table stays, or has the first of them.
abbrev pub PutsOpen : {E : Type 0} → List Node → List Node → List ℕ → (ℕ → Node → Type 0) → Result ℕ E → Type 0
PutsOpen old new told P (Ok place) = IsAddedOpen old new place told P
PutsOpen old new told P (Err e) = (more : List Node) × (new ≡ old ++ more)

-- a choice among these types and the unknown one, with any tag
abbrev pub IsOpenChoice : List ℕ → ℕ → Node → Type 0
IsOpenChoice places unknown node = IsAnyTag node.tags × IsChoiceOf (places ++ unknown ∷ []) node.kind
