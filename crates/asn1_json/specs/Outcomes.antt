-- What comes of JSON that is read.
use Rattle.std.specs.Prelude.{ℕ, ◌≡◌, List, drop, Option, Some, None, Result, MatchResult, All}
use Rattle.x690.specs.Identifiers.{Identifier}
use Rattle.x690.specs.Elements.{IsStrictElement}
use Rattle.json.specs.Json.{Json, array, Items, Members}
use Rattle.json.specs.Value.{value_view}
use Rattle.asn1_schema.specs.declared.schema.Field.{Field}
use Rattle.asn1_schema.specs.declared.schema.Node.{Node}
use Rattle.asn1_schema.specs.declared.schema.Kind.{Kind}
use Rattle.asn1_schema.specs.declared.names.PartName.{PartName}
use Rattle.asn1_schema.specs.declared.tape.Item.{Item}
use Rattle.asn1_schema.specs.declared.owned.OwnedTape.{OwnedTape}
use Rattle.asn1_schema.specs.Owned.{Appends, owned_marks}
use Rattle.asn1_schema.specs.Grammar.{Body, LeftOut, Word}
use Rattle.asn1_schema.specs.Rules.{der, strict}
use Rattle.asn1_schema.specs.Tape.{Kept, KeptRow, mark, leaf_mark, tape_of, tapes_of, value_of, values_of}
use Rattle.asn1_schema.specs.Values.{LeafValue, Value, Values, leaf, row, any, none, absent, more}
use Rattle.asn1_json.specs.DenotedLeaves.{DenotesLeaf}
use Rattle.asn1_json.specs.Denotes.{DenoteFields, DenoteItems, DenoteSet, DenotesComponent}
use Rattle.asn1_json.specs.Tokens.{Types}
use Rattle.asn1_json.specs.declared.reading.arranged.Member.{Member}
use Rattle.asn1_json.specs.declared.reading.leaf.By.{By}
use Rattle.asn1_json.specs.declared.reading.trail.Fault.{Fault}
use Rattle.asn1_json.specs.declared.reading.trail.Fault.TheVariants as faults

-- a value of the type at a place has a strict encoding
abbrev pub HasWord : List Node → ℕ → ℕ → Value → Type 0
HasWord table depth of v = (word : List ℕ) × Word strict table depth of word v

-- a value without parts that JSON denotes
abbrev pub DenotesSimple : List PartName → Kind → Json → Value → Type 0
DenotesSimple labels kind j v = (l : LeafValue) × (v ≡ leaf l) × DenotesLeaf labels kind j l

-- the one element with a strict header that octets are, which an item is; or they are none
abbrev pub IsElementFound : List ℕ → Option Item → Type 0
IsElementFound octets None = (id : Identifier) (content : List ℕ) → IsStrictElement octets id content → ⊥
IsElementFound octets (Some item) =
    (id : Identifier) × (content : List ℕ) × IsStrictElement octets id content × (mark item ≡ leaf_mark (any id content))

-- No value has both.
abbrev pub HaveNone : {V : Type 0} → (V → Type 0) → (V → Type 0) → Type 0
HaveNone {V} D W = (v : V) → D v → W v → ⊥

-- A value that is denoted was put behind the marks of a tape, and nothing else was.
pub record Makes (D : Value → Type 0) (old new : OwnedTape) : Type 0 where
  pub kept : Kept
  pub denotes : D (value_of kept)
  pub put : Appends old new (tape_of kept)

-- so of values in a row
pub record MakesRow (D : Values → Type 0) (old new : OwnedTape) : Type 0 where
  pub kept : KeptRow
  pub denotes : D (values_of kept)
  pub put : Appends old new (tapes_of kept)

-- A value is denoted, and no other that is denoted has a strict encoding.
abbrev pub IsOnly : {V : Type 0} → (V → Type 0) → (V → Type 0) → V → Type 0
IsOnly {V} D W v = D v × ((other : V) → D other → W other → other ≡ v)

-- Such a value was put behind the marks of a tape. Where it is refused, nothing that is denoted has a strict encoding.
abbrev pub ReadsDenoted : {T : Type 0} → (D W : Value → Type 0) → OwnedTape → OwnedTape → Result T Fault → Type 0
ReadsDenoted D W old new result =
    MatchResult result (λ _. Makes (IsOnly D W) old new) (λ fault. fault ≡ faults.Refused → HaveNone D W)

-- so of values without parts
abbrev pub ReadsLeaf : {T : Type 0} → By → ℕ → List PartName → Kind → Json → OwnedTape → OwnedTape → Result T Fault → Type 0
ReadsLeaf by of labels kind j = ReadsDenoted (DenotesSimple labels kind j) (HasWord by.types.table.now by.depth of)

-- a component is left out: it may be, or this is the value of its default
abbrev pub LeftOutOnce : List Node → ℕ → Field → Values → Type 0
LeftOutOnce table depth f vs = LeftOut der (Body der table depth f.of) f.presence vs (λ rest. rest ≡ none)

-- the values of a component, if they are followed by none
abbrev pub DenotesOnce : Types → ℕ → (ℕ → Json → Value → Type 0) → Field → Option Json → Values → Type 0
DenotesOnce types depth Sub f found vs = DenotesComponent (Sub f.of)
    (LeftOut der (Body der types.table depth f.of) f.presence vs) found vs (λ rest. rest ≡ none)

-- values, and others behind them
abbrev pub and_then : Values → Values → Values
and_then none ws = ws
and_then (absent vs) ws = absent (and_then vs ws)
and_then (more v vs) ws = more v (and_then vs ws)

-- Values of the first fields, so many: with what is denoted from there on they are denoted.
abbrev pub DenoteFirst : Types → ℕ → (ℕ → Json → Value → Type 0) → ℕ → Option ℕ → Members → List Field → ℕ → Values → Type 0
DenoteFirst types depth Sub at unknown ms fs place vs = (ws : Values) →
    DenoteFields types depth Sub at unknown ms (drop place fs) place ws →
    DenoteFields types depth Sub at unknown ms fs 0 (and_then vs ws)

-- an array denotes values
abbrev pub DenotesItems : (Json → Value → Type 0) → Json → Values → Type 0
DenotesItems Sub j vs = (js : Items) × (j ≡ array js) × DenoteItems Sub js vs

-- and a list of them, and a set of them in any order
abbrev pub DenotesList : (Json → Value → Type 0) → Json → Value → Type 0
DenotesList Sub j v = (js : Items) × (vs : Values) × (j ≡ array js) × (v ≡ row vs) × DenoteItems Sub js vs

abbrev pub DenotesSet : (Json → Value → Type 0) → Json → Value → Type 0
DenotesSet Sub j v = (js : Items) × (vs : Values) × (j ≡ array js) × (v ≡ row vs) × DenoteSet Sub js vs

-- the document that a member of a set-of was read from, and its tape
abbrev pub document_of : Member → Json
document_of m = value_view m.item.now

abbrev pub IsMember : (Json → Value → Type 0) → Member → Type 0
IsMember Sub m = (kept : Kept) × (owned_marks m.made ≡ tape_of kept) × Sub (document_of m) (value_of kept)

abbrev pub AreJsonMembers : (Json → Value → Type 0) → List Member → Type 0
AreJsonMembers Sub ms = All (IsMember Sub) ms
