-- What readers of values may answer.
use Rattle.std.specs.Prelude.{ℕ, ℤ, ◌≤◌, Bool, true, false, List, [], ◌∷◌, ◌++◌, ◌≡◌, ◌⊎◌, Contains, length, slice_get, Option, Some, None, Result, Ok, Err}
use Rattle.std.specs.Borrow.{Bor}
use Rattle.x690.specs.Identifiers.{Identifier}
use Rattle.x690.specs.Lengths.{LengthForm, definite, indefinite}
use Rattle.x690.specs.Integers.{IsIntegerContent}
use Rattle.x690.specs.Elements.{Parts}
use Rattle.asn1_schema.specs.declared.fault.Fault.{Fault}
use Rattle.asn1_schema.specs.declared.fault.Fault.TheVariants as faults
use Rattle.asn1_schema.specs.declared.schema.Presence.{Presence}
use Rattle.asn1_schema.specs.declared.schema.Presence.TheVariants as presences
use Rattle.asn1_schema.specs.declared.schema.Field.{Field}
use Rattle.asn1_schema.specs.declared.schema.Node.{Node}
use Rattle.asn1_schema.specs.declared.schema.Kind.{Kind}
use Rattle.asn1_schema.specs.declared.coding.Coding.{Coding}
use Rattle.asn1_schema.specs.declared.coding.Coding.TheVariants as codings
use Rattle.asn1_schema.specs.declared.elements.Head.{Head}
use Rattle.asn1_schema.specs.declared.tape.Item.{Item}
use Rattle.asn1_schema.specs.Values.{LeafValue, enumerated, Value, Values, leaf, row, chosen, measure}
use Rattle.asn1_schema.specs.Grammar.{Rules, Says, Begins, AreItems, AnyOrder, AreFields, KindBody, Through, Body, Word, IsMeasured}
use Rattle.asn1_schema.specs.Rules.{der, ber}
use Rattle.asn1_schema.specs.Sound.{HasTagAt}
use Rattle.asn1_schema.specs.Tape.{Kept, KeptRow, Mark, mark, marks, leaf_mark, absent_mark, arm_mark, value_of, values_of, tape_of, tapes_of}

abbrev pub rules_of : Coding → Rules
rules_of codings.Der = der
rules_of (codings.Ber max) = ber max

-- What was read of a header.

abbrev pub id_of : Head → Identifier
id_of head = record { class = head.class; constructed = head.constructed; number = head.number }

abbrev pub form_of_length : Bool → ℕ → LengthForm
form_of_length true n = indefinite
form_of_length false n = definite n

abbrev pub head_parts : Head → List ℕ → Parts
head_parts head content =
    record { id = id_of head; form = form_of_length head.indefinite (length content); content = content }

-- An element of the type at a place of the table, and one of a kind that stands there.

abbrev pub IsBody : Coding → List Node → ℕ → ℕ → Parts → Value → Type 0
IsBody e table = Body (rules_of e) table

abbrev pub IsOfKind : Coding → List Node → ℕ → ℕ → Kind → Parts → Value → Type 0
IsOfKind e table depth t kind = KindBody (rules_of e) depth (IsBody e table depth)
    (Through (rules_of e) depth (IsBody e table depth) table t) kind

-- a value of an arm
abbrev pub IsArmOf : Coding → List Node → ℕ → List ℕ → Parts → Value → Type 0
IsArmOf e table depth arms p v = (k : ℕ) × (w : Value) × (a : ℕ) × (v ≡ chosen k w) × (slice_get arms k ≡ Some a) ×
    IsBody e table depth a p w

-- the octets are those of fields, and of unknown elements behind them
abbrev pub AreFieldsOf : Coding → List Node → ℕ → Option ℕ → List Field → List ℕ → Values → Type 0
AreFieldsOf e table depth = AreFields (rules_of e) (IsBody e table depth)

abbrev pub AreItemsOf : Coding → List Node → ℕ → ℕ → List ℕ → Values → Type 0
AreItemsOf e table depth t = AreItems (rules_of e) (IsBody e table depth t) AnyOrder

abbrev pub IsRowOf : Coding → List Node → ℕ → Option ℕ → List Field → Bool → List ℕ → Value → Type 0
IsRowOf e table depth unknown fields constructed octets v =
    (vs : Values) × (v ≡ row vs) × (constructed ≡ true) × AreFieldsOf e table depth unknown fields octets vs

abbrev pub IsWordOf : Coding → List Node → ℕ → ℕ → List ℕ → Value → Type 0
IsWordOf e table depth t = Word (rules_of e) table depth t

abbrev pub BeginsWord : Coding → List Node → ℕ → ℕ → List ℕ → Value → List ℕ → Type 0
BeginsWord e table depth t = Begins (rules_of e) (IsBody e table depth t)

-- a number that is listed
abbrev pub IsListed : List ℤ → Bool → Parts → Value → Type 0
IsListed numbers extensible p v = (n : ℤ) × (v ≡ leaf (enumerated n)) × (p.id.constructed ≡ false) ×
    IsIntegerContent n p.content × ((extensible ≡ true) ⊎ Contains numbers n)

-- what is said of an error, but where memory ran out
abbrev pub UnlessMemory : Fault → Type 0 → Type 0
UnlessMemory faults.Memory P = Unit {0}
UnlessMemory faults.Refused P = P
UnlessMemory faults.TooDeep P = P

-- An answer to a depth holds at each depth that is not less; that elements nest too deep holds at this one alone.
abbrev pub FaultHolds : ℕ → Fault → ℕ → Type 0
FaultHolds depth faults.Memory d = depth ≤ d
FaultHolds depth faults.Refused d = depth ≤ d
FaultHolds depth faults.TooDeep d = d ≡ depth

abbrev pub HoldsAt : {T : Type 0} → ℕ → Result T Fault → ℕ → Type 0
HoldsAt depth (Ok x) d = depth ≤ d
HoldsAt depth (Err e) d = FaultHolds depth e d

-- it is so; or it is not
abbrev pub Admits : {T : Type 0} → Type 0 → Result T Fault → Type 0
Admits P (Ok x) = P
Admits P (Err e) = UnlessMemory e (P → ⊥)

-- A leaf with this property is the item; or there is no value with it.
abbrev pub Judges : (Value → Type 0) → Result Item Fault → Type 0
Judges P (Ok item) = (l : LeafValue) × (mark item ≡ leaf_mark l) × P (leaf l)
Judges P (Err e) = UnlessMemory e ((v : Value) → P v → ⊥)

-- a value with this property was put on the tape
pub record PutsValue (P : Value → Type 0) (old new : List Item) : Type 0 where
  pub kept : Kept
  pub holds : P (value_of kept)
  pub is : marks new ≡ marks old ++ tape_of kept

-- The value is put on the tape; or there is none. Nothing is claimed where memory ran out.
abbrev pub ReadsValue : {T : Type 0} → (Value → Type 0) → List Item → List Item → Result T Fault → Type 0
ReadsValue P old new (Ok x) = PutsValue P old new
ReadsValue P old new (Err e) = UnlessMemory e ((v : Value) → P v → ⊥)

-- values of fields, or of a list
pub record PutsValues (P : Values → Type 0) (old new : List Item) : Type 0 where
  pub kept : KeptRow
  pub holds : P (values_of kept)
  pub is : marks new ≡ marks old ++ tapes_of kept

abbrev pub ReadsValues : {T : Type 0} → (Values → Type 0) → List Item → List Item → Result T Fault → Type 0
ReadsValues P old new (Ok x) = PutsValues P old new
ReadsValues P old new (Err e) = UnlessMemory e ((vs : Values) → P vs → ⊥)

-- a value, before this rest
pub record PutsPrefix (P : Value → List ℕ → Type 0) (old new : List Item) (rest : List ℕ) : Type 0 where
  pub kept : Kept
  pub holds : P (value_of kept) rest
  pub is : marks new ≡ marks old ++ tape_of kept

-- no value begins the octets
abbrev pub HasNoPrefix : (Value → List ℕ → Type 0) → Type 0
HasNoPrefix P = (v : Value) (rest : List ℕ) → P v rest → ⊥

abbrev pub ReadsPrefix : (Value → List ℕ → Type 0) → List Item → List Item → Result (Bor (List ℕ)) Fault → Type 0
ReadsPrefix P old new (Ok rest) = PutsPrefix P old new rest.now
ReadsPrefix P old new (Err e) = UnlessMemory e (HasNoPrefix P)

-- an element with a tag of the type at a place begins the octets
pub record BeginsTagged (R : Rules) (table : List Node) (t : ℕ) (octets : List ℕ) : Type 0 where
  pub word : List ℕ
  pub rest : List ℕ
  pub parts : Parts
  pub element : R.ElementOf word parts
  pub is : octets ≡ word ++ rest
  pub tagged : HasTagAt table t parts.id

-- what is put where a field is left out: that it is, or the default
abbrev pub PutsLeftOut : Rules → (Parts → Value → Type 0) → Presence → List Item → List Item → Type 0
PutsLeftOut R Sub presences.Required old new = ⊥
PutsLeftOut R Sub presences.Optional old new = marks new ≡ marks old ++ absent_mark ∷ []
PutsLeftOut R Sub (presences.Default d) old new = PutsValue (Says R Sub d.items) old new

pub record LeavesOut (R : Rules) (Sub : Parts → Value → Type 0) (presence : Presence) (octets : List ℕ)
    (old new : List Item) (rest : List ℕ) : Type 0 where
  pub stays : rest ≡ octets
  pub left : PutsLeftOut R Sub presence old new
  pub none : HasNoPrefix (Begins R Sub octets)

-- a field may not be left out
abbrev pub MayNot : Rules → (Parts → Value → Type 0) → Presence → Type 0
MayNot R Sub presences.Required = Unit {0}
MayNot R Sub presences.Optional = ⊥
MayNot R Sub (presences.Default d) = (v : Value) → Says R Sub d.items v → ⊥

-- a field is not there, and may not be left out
pub record IsMissing (R : Rules) (Sub : Parts → Value → Type 0) (Tagged : Type 0) (presence : Presence)
    (octets : List ℕ) : Type 0 where
  pub none : HasNoPrefix (Begins R Sub octets)
  pub why : Tagged ⊎ MayNot R Sub presence

abbrev pub ReadsByPresence : Rules → (Parts → Value → Type 0) → Type 0 → Presence → List ℕ → List Item → List Item →
    Result (Bor (List ℕ)) Fault → Type 0
ReadsByPresence R Sub Tagged presence octets old new (Ok rest) =
    PutsPrefix (Begins R Sub octets) old new rest.now ⊎ LeavesOut R Sub presence octets old new rest.now
ReadsByPresence R Sub Tagged presence octets old new (Err e) =
    UnlessMemory e (IsMissing R Sub Tagged presence octets)

-- A measure is within bounds; or it is not.
abbrev pub JudgesBounds : {T : Type 0} → Option ℤ → Option ℤ → Option ℤ → Result T Fault → Type 0
JudgesBounds lower upper m = Admits (IsMeasured lower upper m)

-- So for a leaf, and for a value of an arm, which has no measure. Nothing is claimed of other items.
abbrev pub JudgesItem : {T : Type 0} → Option ℤ → Option ℤ → Mark → Result T Fault → Type 0
JudgesItem lower upper (leaf_mark l) r = JudgesBounds lower upper (measure (leaf l)) r
JudgesItem lower upper (arm_mark k) r = JudgesBounds lower upper None r
JudgesItem lower upper _ r = Unit {0}

-- a value of a type within bounds
abbrev pub IsWithinOf : Coding → List Node → ℕ → ℕ → Option ℤ → Option ℤ → Parts → Value → Type 0
IsWithinOf e table depth t lower upper p v = IsBody e table depth t p v × IsMeasured lower upper (measure v)
