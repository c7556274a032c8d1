-- What writers from the back of a tape may answer.
use Rattle.std.specs.Prelude.{ℕ, ℤ, zero, suc, ◌≤◌, ◌<◌, ◌+◌, ◌-◌, ◌^◌, ◌%◌, Option, Some, None, Bool, true, false, List, [], ◌∷◌, ◌++◌, ◌≡◌, ◌⊎◌, length, take, map, slice_get, Result, Ok, Err}
use Rattle.std.specs.List.{concat}
use Rattle.x690.specs.Octets.{IsOctets}
use Rattle.x690.specs.Ascending.{Ascending}
use Rattle.x690.specs.Identifiers.{Identifier}
use Rattle.x690.specs.Elements.{Parts, IsDerElement}
use Rattle.x690.specs.Joined.{IsConcatenation}
use Rattle.x690.specs.Strict.{definite_parts}
use Rattle.asn1_schema.specs.declared.fault.Fault.{Fault}
use Rattle.asn1_schema.specs.declared.fault.Fault.TheVariants as faults
use Rattle.asn1_schema.specs.declared.schema.TypeTag.{TypeTag}
use Rattle.asn1_schema.specs.declared.schema.Tags.{Tags}
use Rattle.asn1_schema.specs.declared.schema.Tags.TheVariants as tags
use Rattle.asn1_schema.specs.declared.schema.Presence.{Presence}
use Rattle.asn1_schema.specs.declared.schema.Presence.TheVariants as presences
use Rattle.asn1_schema.specs.declared.schema.Field.{Field}
use Rattle.asn1_schema.specs.declared.schema.Node.{Node}
use Rattle.asn1_schema.specs.declared.schema.Kind.{Kind}
use Rattle.asn1_schema.specs.declared.schema.Kind.TheVariants as kinds
use Rattle.asn1_schema.specs.declared.tape.Item.{Item}
use Rattle.asn1_schema.specs.declared.put_bits.Pending.{Pending}
use Rattle.asn1_schema.specs.declared.endings.StringSort.{StringSort}
use Rattle.asn1_schema.specs.declared.endings.StringSort.TheVariants as string_sorts
use Rattle.asn1_schema.specs.Values.{LeafValue, any, bits, joined, Value, Values, leaf, row, chosen, none, absent, more}
use Rattle.asn1_schema.specs.Values.{measure}
use Rattle.asn1_schema.specs.Grammar.{KindBody, Body, AreFields, Takes, AreSet, AreItems, AreEach, AnyOrder, Word, IsMeasured, has_tag, digits_2, bits_in, IsBitContent}
use Rattle.asn1_schema.specs.Rules.{strict, IsStrictInside, TagsAscend}
use Rattle.asn1_schema.specs.Tape.{Kept, KeptRow, kept_none, kept_absent, kept_more, Mark, leaf_mark, pieces_mark, absent_mark, begin_mark, arm_mark, marks, value_of, values_of, tape_of, tapes_of}
use Rattle.asn1_schema.specs.Tape.{Sort, of_octets, of_text, of_time, string}

-- the tape before a place
abbrev pub before : List Item → ℕ → List Mark
before tape at = marks (take at tape)

-- Such a mark stands before the place; or none does.
abbrev pub EndsBy : {X Y : Type 0} → (X → Y) → (Y → Mark) → List Item → ℕ → Option X → Type 0
EndsBy {Y = Y} view made tape at None = (y : Y) (rest : List Mark) → before tape at ≡ rest ++ made y ∷ [] → ⊥
EndsBy view made tape at (Some x) = (0 < at) × (before tape at ≡ before tape (at - 1) ++ made (view x) ∷ [])

-- the identifier of these parts
abbrev pub id_with : ℕ → Bool → ℕ → Identifier
id_with class constructed number = record { class = class; constructed = constructed; number = number }

-- the sort of a string of octets
abbrev pub sort_of : StringSort → Sort
sort_of string_sorts.Octets = of_octets
sort_of (string_sorts.Text kind) = of_text kind
sort_of (string_sorts.Time kind) = of_time kind

-- nothing but octets in front of the old ones is new
abbrev pub Grew : List ℕ → List ℕ → Type 0
Grew old new = (front : List ℕ) × (new ≡ front ++ old)

-- Where the tape is read to is told; or there was nothing to write, or no memory, and the old octets still stand behind.
abbrev pub WritingAnswers : {T : Type 0} → (T → Type 0) → Type 0 → List ℕ → List ℕ → Result T Fault → Type 0
WritingAnswers Done Nothing old new (Ok rest) = Done rest
WritingAnswers Done Nothing old new (Err e) = ((e ≡ faults.Memory → ⊥) → Nothing) × Grew old new

-- A value is taken off the end of a tape, and a word of it is put in front of the octets.
pub record PutsWord (P : List ℕ → Value → Type 0) (tape rest : List Mark) (old new : List ℕ) : Type 0 where
  pub word : List ℕ
  pub kept : Kept
  pub are_octets : IsOctets word
  pub holds : P word (value_of kept)
  pub taken : tape ≡ rest ++ tape_of kept
  pub put : new ≡ word ++ old

-- the tape ends with no value that has such a word
abbrev pub NoneAtEnd : (List ℕ → Value → Type 0) → List Mark → Type 0
NoneAtEnd P tape = (word : List ℕ) (kept : Kept) (rest : List Mark) → P word (value_of kept) →
    tape ≡ rest ++ tape_of kept → ⊥

-- A value is written, and the place before it told; or the tape before the place ends with no value of the type.
abbrev pub Writes : (List ℕ → Value → Type 0) → List Item → ℕ → List ℕ → List ℕ → Result ℕ Fault → Type 0
Writes P tape at old new result =
    WritingAnswers (λ rest. (rest ≤ at) × PutsWord P (before tape at) (before tape rest) old new)
    (NoneAtEnd P (before tape at)) old new result

-- Values of fields are.
pub record PutsFields (P : List ℕ → Values → Type 0) (tape rest : List Mark) (old new : List ℕ) : Type 0 where
  pub octets : List ℕ
  pub kept : KeptRow
  pub are_octets : IsOctets octets
  pub holds : P octets (values_of kept)
  pub taken : tape ≡ rest ++ tapes_of kept
  pub put : new ≡ octets ++ old

abbrev pub NoRowAtEnd : (List ℕ → Values → Type 0) → List Mark → Type 0
NoRowAtEnd P tape = (octets : List ℕ) (kept : KeptRow) (rest : List Mark) → P octets (values_of kept) →
    tape ≡ rest ++ tapes_of kept → ⊥

abbrev pub WritesRow : (List ℕ → Values → Type 0) → List Item → ℕ → List ℕ → List ℕ → Result ℕ Fault → Type 0
WritesRow P tape at old new result =
    WritingAnswers (λ rest. (rest ≤ at) × PutsFields P (before tape at) (before tape rest) old new)
    (NoRowAtEnd P (before tape at)) old new result

-- an optional field is left out
pub record TakesAbsent (presence : Presence) (tape rest : List Mark) (old new : List ℕ) : Type 0 where
  pub optional : presence ≡ presences.Optional
  pub taken : tape ≡ rest ++ absent_mark ∷ []
  pub put : new ≡ old

-- octets in front of others are taken back where they are these
pub record Omits (default word behind new : List ℕ) : Type 0 where
  pub omitted : word ≡ default → new ≡ behind
  pub kept : (word ≡ default → ⊥) → new ≡ word ++ behind
  pub told : (word ≡ default) ⊎ (word ≡ default → ⊥)

-- A value of a field with a default is written, or is the default and nothing is.
pub record PutsDefault (P : List ℕ → Value → Type 0) (default : List ℕ) (tape rest : List Mark) (old new : List ℕ) :
    Type 0 where
  pub word : List ℕ
  pub kept : Kept
  pub are_octets : IsOctets word
  pub holds : P word (value_of kept)
  pub taken : tape ≡ rest ++ tape_of kept
  pub put : Omits default word old new

abbrev pub WritesDefault : (List ℕ → Value → Type 0) → List ℕ → List Item → ℕ → List ℕ → List ℕ → Result ℕ Fault → Type 0
WritesDefault P default tape at old new result =
    WritingAnswers (λ rest. (rest ≤ at) × PutsDefault P default (before tape at) (before tape rest) old new)
    (NoneAtEnd P (before tape at)) old new result

-- the tape ends with no value of a field, nor with its absence where it is optional
abbrev pub NoFieldAtEnd : (List ℕ → Value → Type 0) → Presence → List Mark → Type 0
NoFieldAtEnd P presence tape = NoneAtEnd P tape ×
    (presence ≡ presences.Optional → (rest : List Mark) → tape ≡ rest ++ absent_mark ∷ [] → ⊥)

-- a field is written, as its presence has it
abbrev pub PutsByPresence : (List ℕ → Value → Type 0) → Presence → List Mark → List Mark → List ℕ → List ℕ → Type 0
PutsByPresence P presences.Required tape rest old new = PutsWord P tape rest old new
PutsByPresence P presences.Optional tape rest old new =
    PutsWord P tape rest old new ⊎ TakesAbsent presences.Optional tape rest old new
PutsByPresence P (presences.Default d) tape rest old new = PutsDefault P d.items tape rest old new

abbrev pub WritesField : (List ℕ → Value → Type 0) → Presence → List Item → ℕ → List ℕ → List ℕ → Result ℕ Fault → Type 0
WritesField P presence tape at old new result =
    WritingAnswers (λ rest. (rest ≤ at) × PutsByPresence P presence (before tape at) (before tape rest) old new)
    (NoFieldAtEnd P presence (before tape at)) old new result

-- the one tag, of a class that there is
abbrev pub IsOneTag : Tags → TypeTag → Type 0
IsOneTag (tags.Among ts) tag = (ts.items ≡ tag ∷ []) × (tag.class < 4)
IsOneTag (tags.AllBut ts) tag = ⊥

-- whether strict elements of a kind are constructed
abbrev pub constructed_of : Kind → Bool
constructed_of (kinds.Sequence fields unknown) = true
constructed_of (kinds.Set fields unknown) = true
constructed_of (kinds.SequenceOf t) = true
constructed_of (kinds.SetOf t) = true
constructed_of (kinds.Explicit t) = true
constructed_of _ = false

-- whether its elements have one tag
abbrev pub is_tagged : Kind → Bool
is_tagged kinds.Any = false
is_tagged (kinds.Choice arms) = false
is_tagged (kinds.Within t lower upper) = false
is_tagged _ = true

-- parts with the contents octets of a kind
abbrev pub plain : Kind → List ℕ → Parts
plain kind content =
    definite_parts (record { class = 0; constructed = constructed_of kind; number = 0 }) content

-- parts of a primitive element with contents octets
abbrev pub primitive : List ℕ → Parts
primitive content = definite_parts (record { class = 0; constructed = false; number = 0 }) content

-- no type, through choices and bounds
abbrev pub Nowhere : ℕ → Parts → Value → Type 0
Nowhere t p v = ⊥

-- contents octets of a value of a kind
abbrev pub IsContentOfKind : List Node → ℕ → Kind → List ℕ → Value → Type 0
IsContentOfKind table depth kind content v =
    KindBody strict depth (Body strict table depth) Nowhere kind (plain kind content) v

-- octets of a string, whatever is asked of them
abbrev pub IsPlainString : Sort → List ℕ → Value → Type 0
IsPlainString s o v = v ≡ leaf (string s o)

-- those of a row of fields and unknown elements
abbrev pub IsFieldRow : List Node → ℕ → Option ℕ → List Field → List ℕ → Value → Type 0
IsFieldRow table depth unknown fields content v =
    (vs : Values) × (v ≡ row vs) × AreFields strict (Body strict table depth) unknown fields content vs

-- those of a set of fields and unknown elements
abbrev pub IsFieldSet : List Node → ℕ → Option ℕ → List Field → List ℕ → Value → Type 0
IsFieldSet table depth unknown fields content v =
    (vs : Values) × (v ≡ row vs) × AreSet strict (Body strict table depth) unknown fields content vs

-- how many fields, left out or there, or members
abbrev pub member_count : Values → ℕ
member_count none = 0
member_count (absent vs) = suc (member_count vs)
member_count (more v vs) = suc (member_count vs)

-- fields, and so many unknown elements
abbrev pub AreCounted : List Node → ℕ → Option ℕ → ℕ → List Field → List ℕ → Values → Type 0
AreCounted table depth unknown count fields octets vs =
    AreFields strict (Body strict table depth) unknown fields octets vs × (member_count vs ≡ length fields + count)

abbrev pub AreCountedSet : List Node → ℕ → Option ℕ → ℕ → List Field → List ℕ → Values → Type 0
AreCountedSet table depth unknown count fields octets vs =
    AreSet strict (Body strict table depth) unknown fields octets vs × (member_count vs ≡ length fields + count)

-- An element is put in its place among others that ascend by their tags; or it has none, as one has its tag.
abbrev pub Settles : Parts → List Parts → List ℕ → List ℕ → Bool → Type 0
Settles e es old new true = (all : List Parts) × (octets : List ℕ) × Takes all e es × TagsAscend all ×
    IsConcatenation IsDerElement octets all × (new ≡ octets ++ old)
Settles e es old new false = (all : List Parts) → Takes all e es → TagsAscend all → ⊥

-- So many of the octets, which are elements, stand before the place of an element.
abbrev pub HasRoom : Parts → List Parts → List ℕ → Option ℕ → Type 0
HasRoom e es octets (Some n) = (front back : List Parts) × (one other : List ℕ) × (es ≡ front ++ back) ×
    TagsAscend (front ++ e ∷ back) × IsConcatenation IsDerElement one front × IsConcatenation IsDerElement other back ×
    (octets ≡ one ++ other) × (n ≡ length one)
HasRoom e es octets None = (all : List Parts) → Takes all e es → TagsAscend all → ⊥

-- Fields that are left are to be written yet; those behind them are.
pub record WrittenSoFar (table : List Node) (depth : ℕ) (unknown : Option ℕ) (count : ℕ) (fields left : List Field)
    (tape : List Item) (at rest : ℕ) (old new : List ℕ) : Type 0 where
  pub done : List Field
  pub parts : fields ≡ left ++ done
  pub within : rest ≤ at
  pub row : PutsFields (AreCounted table depth unknown count done) (before tape at) (before tape rest) old new

-- Members of a list, in the order that its kind asks for.
abbrev pub order_of : Bool → List (List ℕ) → Type 0
order_of false = AnyOrder
order_of true = Ascending

abbrev pub IsList : List Node → ℕ → ℕ → Bool → List ℕ → Value → Type 0
IsList table depth t ascending content v =
    (vs : Values) × (v ≡ row vs) × AreItems strict (Body strict table depth t) (order_of ascending) content vs

abbrev pub AreCountedItems : List Node → ℕ → ℕ → Bool → ℕ → List ℕ → Values → Type 0
AreCountedItems table depth t ascending count octets vs =
    AreItems strict (Body strict table depth t) (order_of ascending) octets vs × (member_count vs ≡ count)

-- the number of octets of the first word, where there is one
abbrev pub FirstIs : List (List ℕ) → Option ℕ → Type 0
FirstIs words None = words ≡ []
FirstIs words (Some n) = (w : List ℕ) × (ws : List (List ℕ)) × (words ≡ w ∷ ws) × (n ≡ length w)

-- So many members are to be written yet; those behind them are.
pub record ItemsSoFar (table : List Node) (depth t : ℕ) (ascending : Bool) (count left : ℕ) (first : Option ℕ)
    (tape : List Item) (at rest : ℕ) (old new : List ℕ) : Type 0 where
  pub words : List (List ℕ)
  pub kept : KeptRow
  pub are_octets : IsOctets (concat words)
  pub each : AreEach (Word strict table depth t) words (values_of kept)
  pub order : order_of ascending words
  pub counted : member_count (values_of kept) + left ≡ count
  pub first_is : FirstIs words first
  pub within : rest ≤ at
  pub taken : before tape at ≡ before tape rest ++ tapes_of kept
  pub put : new ≡ concat words ++ old

-- an element of the contents octets that stand in front of so many octets
abbrev pub MakesElement : Identifier → ℕ → List ℕ → List ℕ → Type 0
MakesElement id held old new = (content behind : List ℕ) → IsOctets content → old ≡ content ++ behind →
    held ≡ length behind →
    (word : List ℕ) × IsDerElement word (definite_parts id content) × (new ≡ word ++ behind)

-- A row of so many items, between two places, begins before the place; or it does not.
abbrev pub BeginsRow : List Item → ℕ → ℕ → ℕ → Result ℕ Fault → Type 0
BeginsRow tape end place count (Ok rest) = (rest ≤ place) × (count ≡ end - place) ×
    (before tape place ≡ before tape rest ++ begin_mark count ∷ [])
BeginsRow tape end place count (Err fault) =
    count ≡ end - place → (rest : List Mark) → before tape place ≡ rest ++ begin_mark count ∷ [] → ⊥

-- a word of the value of an arm
abbrev pub IsArm : List Node → ℕ → List ℕ → List ℕ → Value → Type 0
IsArm table depth arms word v = (k : ℕ) × (w : Value) × (a : ℕ) × (v ≡ chosen k w) × (slice_get arms k ≡ Some a) ×
    Word strict table depth a word w

-- A value of an arm begins before the place; or it does not.
abbrev pub BeginsArm : List Item → ℕ → ℕ → Result ℕ Fault → Type 0
BeginsArm tape place k (Ok rest) = (rest ≤ place) × (before tape place ≡ before tape rest ++ arm_mark k ∷ [])
BeginsArm tape place k (Err fault) = (rest : List Mark) → before tape place ≡ rest ++ arm_mark k ∷ [] → ⊥

-- a word of a value within bounds
abbrev pub IsWithinBounds : List Node → ℕ → ℕ → Option ℤ → Option ℤ → List ℕ → Value → Type 0
IsWithinBounds table depth t lower upper word v = Word strict table depth t word v × IsMeasured lower upper (measure v)

-- The pieces of a string that stand between two places, and what is put in front of what they join to.
pub record TakesPieces {A : Type 0} (make : List A → LeafValue) (tape : List Item) (start end : ℕ)
    (pieces : List (List A)) : Type 0 where
  pub within : start ≤ end
  pub counted : length pieces ≡ end - start
  pub taken : before tape end ≡ before tape start ++ map (λ y. leaf_mark (make y)) pieces

-- Octets of pieces are put in front.
pub record JoinsPieces (s : Sort) (tape : List Item) (start end : ℕ) (old new : List ℕ) : Type 0 where
  pub pieces : List (List ℕ)
  pub puts : TakesPieces (string s) tape start end pieces
  pub are_octets : IsOctets (joined pieces)
  pub put : new ≡ joined pieces ++ old

-- no such pieces stand there
abbrev pub NoPieces : {A : Type 0} → (List A → LeafValue) → List Item → ℕ → ℕ → Type 0
NoPieces {A} make tape start end = (pieces : List (List A)) →
    before tape end ≡ before tape start ++ map (λ y. leaf_mark (make y)) pieces → ⊥

-- So many pieces begin at a place; or they do not.
abbrev pub BeginPieces : List Item → ℕ → ℕ → Option ℕ → Type 0
BeginPieces tape count end (Some start) = (0 < start) × (0 < count) × (start + count ≡ end) ×
    (before tape start ≡ before tape (start - 1) ++ pieces_mark count ∷ [])
BeginPieces tape count end None = (front inner : List Mark) → 0 < count → length inner ≡ count →
    before tape end ≡ (front ++ pieces_mark count ∷ []) ++ inner → ⊥

-- an element of any type with one of these tags
pub record IsAny (ts : Tags) (depth : ℕ) (word : List ℕ) (v : Value) : Type 0 where
  pub parts : Parts
  pub element : IsDerElement word parts
  pub tagged : has_tag ts parts.id ≡ true
  pub value : v ≡ leaf (any parts.id parts.content)
  pub inside : IsStrictInside depth parts

-- what is asked of an identifier and of contents octets
abbrev pub MayBeAny : Tags → ℕ → Identifier → List ℕ → Type 0
MayBeAny ts depth id content =
    (id.class < 4) × (has_tag ts id ≡ true) × IsStrictInside depth (definite_parts id content)

-- the row behind so many fields
abbrev pub row_behind : ℕ → KeptRow → KeptRow
row_behind zero ks = ks
row_behind (suc n) kept_none = kept_none
row_behind (suc n) (kept_absent ks) = row_behind n ks
row_behind (suc n) (kept_more k ks) = row_behind n ks

-- Bits that are put in front, and do not fill an octet yet: so many, which the number has as its digits.
abbrev pub pending_bits : Pending → List Bool
pending_bits p = digits_2 p.count p.number

abbrev pub IsPending : Pending → Type 0
IsPending p = (p.count ≤ 7) × (p.number < 2 ^ p.count)

-- bits are put in front of those that are pending
pub record PushesBits (bs : List Bool) (first : Pending) (old new : List ℕ) (last : Pending) : Type 0 where
  pub octets : List ℕ
  pub are_octets : IsOctets octets
  pub put : new ≡ octets ++ old
  pub said : pending_bits last ++ bits_in octets ≡ bs ++ pending_bits first
  pub pending : IsPending last

-- So, or memory ran out.
abbrev pub Pushes : List Bool → Pending → List ℕ → List ℕ → Result Pending Fault → Type 0
Pushes bs first old new result = WritingAnswers (λ last. PushesBits bs first old new last) ⊥ old new result

-- contents octets of bits, whatever is asked of them
abbrev pub IsPlainBits : List ℕ → Value → Type 0
IsPlainBits content v = (bs : List Bool) × (v ≡ leaf (bits bs)) × IsBitContent strict content bs

-- So many bits are to be unused behind those of pieces between two places.
pub record LeavesUnused (tape : List Item) (start end unused : ℕ) : Type 0 where
  pub pieces : List (List Bool)
  pub puts : TakesPieces bits tape start end pieces
  pub few : unused ≤ 7
  pub whole : (length (joined pieces) + unused) % 8 ≡ 0

-- Bits of pieces are put in front.
pub record JoinsBits (tape : List Item) (start end : ℕ) (first : Pending) (old new : List ℕ) (last : Pending) : Type 0 where
  pub pieces : List (List Bool)
  pub puts : TakesPieces bits tape start end pieces
  pub pushes : PushesBits (joined pieces) first old new last

-- Contents octets of the bits that pieces join to are put in front.
pub record PutsBitPieces (tape : List Item) (start end : ℕ) (old new : List ℕ) : Type 0 where
  pub pieces : List (List Bool)
  pub puts : TakesPieces bits tape start end pieces
  pub content : List ℕ
  pub are_octets : IsOctets content
  pub said : IsBitContent strict content (joined pieces)
  pub put : new ≡ content ++ old
