-- What readers of sets say of elements.
use Rattle.std.specs.Prelude.{ℕ, Bool, true, false, not, List, [], ◌∷◌, ◌++◌, ◌≡◌, ◌⊎◌, Option, Some, None, Result, Ok, Err}
use Rattle.std.specs.List.{list_any, filter}
use Rattle.std.specs.Borrow.{Bor}
use Rattle.x690.specs.Identifiers.{Identifier}
use Rattle.x690.specs.Elements.{Parts}
use Rattle.x690.specs.Joined.{IsConcatenation}
use Rattle.asn1_schema.specs.declared.fault.Fault.{Fault}
use Rattle.asn1_schema.specs.declared.schema.Presence.{Presence}
use Rattle.asn1_schema.specs.declared.schema.Field.{Field}
use Rattle.asn1_schema.specs.declared.schema.Node.{Node}
use Rattle.asn1_schema.specs.declared.coding.Coding.{Coding}
use Rattle.asn1_schema.specs.declared.coding.Coding.TheVariants as codings
use Rattle.asn1_schema.specs.declared.elements.Head.{Head}
use Rattle.asn1_schema.specs.declared.sets.Found.{Found}
use Rattle.asn1_schema.specs.declared.sets.Found.TheVariants as founds
use Rattle.asn1_schema.specs.declared.tape.Item.{Item}
use Rattle.asn1_schema.specs.Values.{Value, Values, row}
use Rattle.asn1_schema.specs.Grammar.{Rules, Takes, AreMembers, AreOthers, AreSet}
use Rattle.asn1_schema.specs.Rules.{IsTagBefore, AscendBehind, ArbitraryTags}
use Rattle.asn1_schema.specs.Sound.{HasTagAt}
use Rattle.asn1_schema.specs.Build.{has_tag_at}
use Rattle.asn1_schema.specs.Each.{Each}
use Rattle.asn1_schema.specs.Reading.{rules_of, id_of, head_parts, IsBody, UnlessMemory, PutsValue, PutsLeftOut, MayNot}

-- the octets are elements with these parts
abbrev pub AreElements : Coding → List ℕ → List Parts → Type 0
AreElements e octets es = IsConcatenation (rules_of e).ElementOf octets es

-- an element with this identifier may follow one, if there is one
abbrev pub MayFollow : Coding → Option Head → Identifier → Type 0
MayFollow codings.Der None id = Unit {0}
MayFollow codings.Der (Some last) id = IsTagBefore (id_of last) id
MayFollow (codings.Ber max) last id = Unit {0}

-- elements are in the order that the rules ask for, behind one, if there is one
abbrev pub BehindOf : Coding → Option Head → List Parts → Type 0
BehindOf codings.Der None = AscendBehind None
BehindOf codings.Der (Some last) = AscendBehind (Some (id_of last))
BehindOf (codings.Ber max) last = ArbitraryTags

-- the octets are such elements
pub record AreOrdered (e : Coding) (last : Option Head) (octets : List ℕ) : Type 0 where
  pub elements : List Parts
  pub joins : AreElements e octets elements
  pub order : BehindOf e last elements

-- the element has no tag of the type
abbrev pub Lacks : List Node → ℕ → Parts → Type 0
Lacks table t p = HasTagAt table t p.id → ⊥

-- an element with a tag of the type, where those in front have none
pub record FindsFirst (e : Coding) (table : List Node) (t : ℕ) (es : List Parts) (p : Parts) (rest : List ℕ) : Type 0 where
  pub front : List Parts
  pub back : List Parts
  pub is : es ≡ front ++ p ∷ back
  pub lacking : Each (Lacks table t) front
  pub tagged : HasTagAt table t p.id
  pub behind : AreElements e rest back

-- two elements have a tag of the type
pub record HaveTagTwice (table : List Node) (t : ℕ) (es : List Parts) : Type 0 where
  pub one : Parts
  pub others : List Parts
  pub takes : Takes es one others
  pub tagged : HasTagAt table t one.id
  pub other : Parts
  pub left : List Parts
  pub takes_other : Takes others other left
  pub tagged_other : HasTagAt table t other.id

-- one element alone has
pub record IsAlone (table : List Node) (t : ℕ) (es : List Parts) (p : Parts) : Type 0 where
  pub others : List Parts
  pub takes : Takes es p others
  pub tagged : HasTagAt table t p.id
  pub alone : Each (Lacks table t) others

abbrev pub FindsTagged : List Node → ℕ → List Parts → Found → Type 0
FindsTagged table t es founds.Nothing = Each (Lacks table t) es
FindsTagged table t es (founds.One head content) = IsAlone table t es (head_parts head content.now)
FindsTagged table t es (founds.Several place) = HaveTagTwice table t es

-- whether one of the fields has a type with this tag
abbrev pub is_of_field : List Node → List Field → Identifier → Bool
is_of_field table fs id = list_any (λ f. has_tag_at table id f.of) fs

-- the elements of none of these fields
abbrev pub others_than : List Node → List Field → List Parts → List Parts
others_than table fs es = filter (λ p. not (is_of_field table fs p.id)) es

-- what is put for a field that is left out
abbrev pub ReadsLeftOut : {T : Type 0} → Rules → (Parts → Value → Type 0) → Presence → List Item → List Item →
    Result T Fault → Type 0
ReadsLeftOut R Sub presence old new (Ok x) = PutsLeftOut R Sub presence old new
ReadsLeftOut R Sub presence old new (Err e) = UnlessMemory e (MayNot R Sub presence)

-- the value of the one element with a tag of the type is put
pub record PutsMember (table : List Node) (t : ℕ) (Sub : Parts → Value → Type 0) (es : List Parts)
    (old new : List Item) : Type 0 where
  pub element : Parts
  pub place : IsAlone table t es element
  pub puts : PutsValue (Sub element) old new

-- the one element with a tag of the type has no value
pub record HasNoValue (table : List Node) (t : ℕ) (Sub : Parts → Value → Type 0) (es : List Parts) : Type 0 where
  pub element : Parts
  pub place : IsAlone table t es element
  pub none : (v : Value) → Sub element v → ⊥

-- There is no element, or more than one, or one without a value. Where there is none the field may not be left out.
abbrev pub HasNoMember : Rules → List Node → ℕ → (Parts → Value → Type 0) → Presence → List Parts → Type 0
HasNoMember R table t Sub presence es = HaveTagTwice table t es ⊎ HasNoValue table t Sub es ⊎
    (Each (Lacks table t) es × MayNot R Sub presence)

abbrev pub ReadsMember : {T : Type 0} → Rules → List Node → ℕ → (Parts → Value → Type 0) → Presence → List Parts →
    List Item → List Item → Result T Fault → Type 0
ReadsMember R table t Sub presence es old new (Ok x) =
    PutsMember table t Sub es old new ⊎ (Each (Lacks table t) es × PutsLeftOut R Sub presence old new)
ReadsMember R table t Sub presence es old new (Err e) = UnlessMemory e (HasNoMember R table t Sub presence es)

-- the elements are those of fields, and unknown ones
abbrev pub AreMembersOf : Coding → List Node → ℕ → Option ℕ → List Field → List Parts → Values → Type 0
AreMembersOf e table depth = AreMembers (rules_of e) (IsBody e table depth)

abbrev pub AreOthersOf : Coding → List Node → ℕ → Option ℕ → List Parts → Values → Type 0
AreOthersOf e table depth = AreOthers (IsBody e table depth)

-- an element that is of no field, where there is an extension mark
abbrev pub IsUnknownElement : Coding → List Node → ℕ → Option ℕ → Parts → Value → Type 0
IsUnknownElement e table depth None p v = ⊥
IsUnknownElement e table depth (Some t) p v = IsBody e table depth t p v

-- an element of no field is put
abbrev pub ReadsOther : {T : Type 0} → Coding → List Node → ℕ → Option ℕ → List Field → Parts → List Item → List Item →
    Result T Fault → Type 0
ReadsOther e table depth unknown fields p old new (Ok x) =
    ((is_of_field table fields p.id ≡ true) × (new ≡ old)) ⊎
    ((is_of_field table fields p.id ≡ false) × PutsValue (IsUnknownElement e table depth unknown p) old new)
ReadsOther e table depth unknown fields p old new (Err fault) = UnlessMemory fault
    ((is_of_field table fields p.id ≡ false) × ((v : Value) → IsUnknownElement e table depth unknown p v → ⊥))

abbrev pub AreSetOf : Coding → List Node → ℕ → Option ℕ → List Field → List ℕ → Values → Type 0
AreSetOf e table depth = AreSet (rules_of e) (IsBody e table depth)

abbrev pub IsSetOf : Coding → List Node → ℕ → Option ℕ → List Field → Bool → List ℕ → Value → Type 0
IsSetOf e table depth unknown fields constructed octets v =
    (vs : Values) × (v ≡ row vs) × (constructed ≡ true) × AreSetOf e table depth unknown fields octets vs
