-- The words of the types of a table, with their values.
use Rattle.std.specs.Prelude.{ℕ, ℤ, zero, suc, ◌≤◌, ◌≤ℤ◌, ◌/◌, ◌%◌, Bool, true, false, not, List, [], ◌∷◌, ◌++◌, ◌≡◌, ◌≢◌, ◌⊎◌, ◌&&◌}
use Rattle.std.specs.Prelude.{nat_eq, length, flat_map, if◌then◌else◌, Option, Some, None, slice_get, IsUtf8, IfSome, Contains}
use Rattle.std.specs.List.{list_any, concat}
use Rattle.std.specs.Char.{is_ascii}
use Rattle.x690.specs.Octets.{IsOctets}
use Rattle.x690.specs.Identifiers.{Identifier}
use Rattle.x690.specs.Integers.{IsIntegerContent}
use Rattle.x690.specs.Arcs.{AreShortest}
use Rattle.x690.specs.Characters.{Codes, utf16_octets, ucs4_octets}
use Rattle.x690.specs.Sets.{AllIn, is_numeric, is_printable, is_graphic}
use Rattle.x690.specs.Joined.{IsConcatenation}
use Rattle.x690.specs.Elements.{Parts}
use Rattle.asn1_schema.specs.declared.schema.TypeTag.{TypeTag}
use Rattle.asn1_schema.specs.declared.schema.Tags.{Tags}
use Rattle.asn1_schema.specs.declared.schema.Tags.TheVariants as tags
use Rattle.asn1_schema.specs.declared.schema.Presence.{Presence}
use Rattle.asn1_schema.specs.declared.schema.Presence.TheVariants as presences
use Rattle.asn1_schema.specs.declared.schema.Field.{Field}
use Rattle.asn1_schema.specs.declared.schema.TextKind.{TextKind}
use Rattle.asn1_schema.specs.declared.schema.TextKind.TheVariants as texts
use Rattle.asn1_schema.specs.declared.schema.TimeKind.{TimeKind}
use Rattle.asn1_schema.specs.declared.schema.Node.{Node}
use Rattle.asn1_schema.specs.declared.schema.Kind.{Kind}
use Rattle.asn1_schema.specs.declared.schema.Kind.TheVariants as kinds
use Rattle.asn1_schema.specs.Values.{boolean, null, integer, enumerated, bits, octets, identifier, text, time, any}
use Rattle.asn1_schema.specs.Values.{Value, Values, leaf, row, chosen, none, absent, more, measure, joined}

-- What a set of encoding rules says.
pub record Rules : Type 1 where
  -- the octets are an element with these parts (X.690 8.1, 10.1)
  pub ElementOf : List ℕ → Parts → Type 0
  -- contents octets are a truth value (8.2.2, 11.1)
  pub Truth : List ℕ → Bool → Type 0
  -- bits that are unused (8.6.2.4, 11.2.1)
  pub Unused : List Bool → Type 0
  -- bits with names (11.2.2)
  pub Named : List Bool → Type 0
  -- a text is a time (8.25, 8.26, 11.7, 11.8)
  pub Time : TimeKind → List ℕ → Type 0
  -- whether strings may be constructed (8.6.4, 8.7.3, 10.2)
  pub in_pieces : Bool
  -- what is asked within an element of any type, to a depth (10.1)
  pub Inside : ℕ → Parts → Type 0
  -- the encodings of the members of a set-of (11.6)
  pub Order : List (List ℕ) → Type 0
  -- the elements of a set (10.3)
  pub TagOrder : List Parts → Type 0
  -- whether a value that is the default may be encoded (11.5)
  pub defaults_written : Bool

-- a word: an element whose parts have the value
pub record Says {V : Type 0} (R : Rules) (Sub : Parts → V → Type 0) (word : List ℕ) (v : V) : Type 0 where
  pub parts : Parts
  pub element : R.ElementOf word parts
  pub value : Sub parts v

-- such a word begins the octets, and the rest follows
pub record Begins {V : Type 0} (R : Rules) (Sub : Parts → V → Type 0) (octets : List ℕ) (v : V) (rest : List ℕ) : Type 0 where
  pub word : List ℕ
  pub says : Says R Sub word v
  pub is : octets ≡ word ++ rest

-- Tags.

-- the tag is this identifier's
abbrev pub is_tag_of : Identifier → TypeTag → Bool
is_tag_of id tag = nat_eq tag.class id.class && nat_eq tag.number id.number

-- the identifier has one of the tags
abbrev pub has_tag : Tags → Identifier → Bool
has_tag (tags.Among ts) id = list_any (is_tag_of id) ts.items
has_tag (tags.AllBut ts) id = not (list_any (is_tag_of id) ts.items)

-- the tag of a type of X.680
abbrev pub IsUniversal : ℕ → Identifier → Type 0
IsUniversal number id = (id.class ≡ 0) × (id.number ≡ number)

-- Strings.

-- What strings of a type are made of: the tag of their pieces, what contents octets say, what each piece but the last
-- one is.
pub record StringOf (A : Type 0) : Type 1 where
  pub number : ℕ
  pub Content : List ℕ → List A → Type 0
  pub Whole : List A → Type 0

-- of each piece but the last
abbrev pub AllButLast : {A : Type 0} → (A → Type 0) → List A → Type 0
AllButLast P [] = Unit {0}
AllButLast P (x ∷ []) = Unit {0}
AllButLast P (x ∷ y ∷ ys) = P x × AllButLast P (y ∷ ys)

-- A primitive string says its contents octets; a constructed one (8.6.4, 8.7.3) joins its pieces, which nest.
abbrev pub IsString : {A : Type 0} → Rules → StringOf A → ℕ → Parts → List A → Type 0
IsString R S zero p xs = ⊥
IsString {A} R S (suc depth) p xs =
    ((p.id.constructed ≡ false) × S.Content p.content xs) ⊎
    ((R.in_pieces ≡ true) × (p.id.constructed ≡ true) × (pieces : List (List A)) × (xs ≡ joined pieces) ×
    AllButLast S.Whole pieces ×
    IsConcatenation (Says R (λ q ys. IsUniversal S.number q.id × IsString R S depth q ys)) p.content pieces)

-- octets (8.7); pieces of character strings and of times are octet strings too (8.23.3)
abbrev pub of_octets : StringOf ℕ
of_octets = record { number = 4; Content = λ content o. o ≡ content; Whole = λ o. Unit {0} }

-- the bits of a number, in so many digits
abbrev pub digits_2 : ℕ → ℕ → List Bool
digits_2 zero n = []
digits_2 (suc width) n = digits_2 width (n / 2) ++ nat_eq (n % 2) 1 ∷ []

-- the bits of octets: bit 8 of the first one comes first (8.6.2.1)
abbrev pub bits_in : List ℕ → List Bool
bits_in o = flat_map (digits_2 8) o

-- the count of unused bits, and then octets with the bits and the unused ones (8.6.2.2)
pub record IsBitContent (R : Rules) (content : List ℕ) (bs : List Bool) : Type 0 where
  pub unused : List Bool
  pub octets : List ℕ
  pub are_octets : IsOctets octets
  pub few : length unused ≤ 7
  pub is : content ≡ length unused ∷ octets
  pub bits : bits_in octets ≡ bs ++ unused
  pub allowed : R.Unused unused

-- bits (8.6); pieces but the last are whole octets
abbrev pub of_bits : Rules → StringOf Bool
of_bits R = record { number = 3; Content = IsBitContent R; Whole = λ bs. (length bs) % 8 ≡ 0 }

-- zeros at the end taken off (X.680 22.7)
abbrev pub in_front_of : Bool → List Bool → List Bool
in_front_of false [] = []
in_front_of b bs = b ∷ bs

abbrev pub trimmed : List Bool → List Bool
trimmed [] = []
trimmed (b ∷ bs) = in_front_of b (trimmed bs)

-- The octets are characters of the type (8.23; X.680 41). Those of the types whose sets are registers (X.680 41.1:
-- Teletex, Videotex, Graphic and General strings, and ObjectDescriptor) are not judged.
abbrev pub IsText : TextKind → List ℕ → Type 0
IsText texts.Utf8 o = IsUtf8 o
IsText texts.Numeric o = AllIn is_numeric o
IsText texts.Printable o = AllIn is_printable o
IsText texts.Ia5 o = AllIn is_ascii o
IsText texts.Visible o = AllIn is_graphic o
IsText texts.Universal o = (cs : List ℕ) × Codes ucs4_octets o cs
IsText texts.Bmp o = (cs : List ℕ) × Codes utf16_octets o cs
IsText _ o = Unit {0}

-- Bounds.

-- the number is not below the one bound, and not above the other, where there are such
abbrev pub IsBetween : Option ℤ → Option ℤ → ℤ → Type 0
IsBetween lower upper n = IfSome lower (λ l. l ≤ℤ n) × IfSome upper (λ u. n ≤ℤ u)

abbrev pub IsMeasured : Option ℤ → Option ℤ → Option ℤ → Type 0
IsMeasured lower upper None = ⊥
IsMeasured lower upper (Some n) = IsBetween lower upper n

-- Lists and fields. Sub says what elements of the type at a place of the table have what values.

-- each word, or each element, has its value
abbrev pub AreEach : {X : Type 0} → (X → Value → Type 0) → List X → Values → Type 0
AreEach G [] none = Unit {0}
AreEach G (w ∷ ws) (more v vs) = G w v × AreEach G ws vs
AreEach G _ _ = ⊥

-- the octets are such words, one behind another (8.10, 8.12)
pub record AreItems (R : Rules) (Sub : Parts → Value → Type 0) (Order : List (List ℕ) → Type 0) (octets : List ℕ)
    (vs : Values) : Type 0 where
  pub words : List (List ℕ)
  pub is : octets ≡ concat words
  pub each : AreEach (Says R Sub) words vs
  pub order : Order words

abbrev pub AnyOrder : List (List ℕ) → Type 0
AnyOrder words = Unit {0}

-- behind the fields: nothing, or unknown elements, where there is an extension mark (X.680 25.1)
abbrev pub AreUnknown : Rules → (ℕ → Parts → Value → Type 0) → Option ℕ → List ℕ → Values → Type 0
AreUnknown R Sub None o vs = (o ≡ []) × (vs ≡ none)
AreUnknown R Sub (Some t) o vs = AreItems R (Sub t) AnyOrder o vs

-- A field is left out: its value is then the default, if it has one. Values are those behind it.
abbrev pub LeftOut : Rules → (Parts → Value → Type 0) → Presence → Values → (Values → Type 0) → Type 0
LeftOut R Sub presences.Optional (absent vs) Rest = Rest vs
LeftOut R Sub (presences.Default d) (more v vs) Rest = Says R Sub d.items v × Rest vs
LeftOut R Sub _ _ Rest = ⊥

-- the value may be encoded in a field: strictly, no default is (11.5)
abbrev pub MayStand : Rules → (Parts → Value → Type 0) → Presence → Value → Type 0
MayStand R Sub (presences.Default d) v = (R.defaults_written ≡ true) ⊎ (Says R Sub d.items v → ⊥)
MayStand R Sub _ v = Unit {0}

-- a field is there
abbrev pub IsThere : Rules → (Parts → Value → Type 0) → Presence → List ℕ → Values → (List ℕ → Values → Type 0) → Type 0
IsThere R Sub presence o (more v vs) Rest =
    (rest : List ℕ) × Begins R Sub o v rest × MayStand R Sub presence v × Rest rest vs
IsThere R Sub presence o _ Rest = ⊥

-- the octets are the elements of these fields in their order (8.9), and unknown ones
abbrev pub AreFields : Rules → (ℕ → Parts → Value → Type 0) → Option ℕ → List Field → List ℕ → Values → Type 0
AreFields R Sub unknown [] o vs = AreUnknown R Sub unknown o vs
AreFields R Sub unknown (f ∷ fs) o vs =
    IsThere R (Sub f.of) f.presence o vs (AreFields R Sub unknown fs) ⊎
    LeftOut R (Sub f.of) f.presence vs (AreFields R Sub unknown fs o)

-- Sets.

-- One element is taken out, from wherever it stands. The others stay in their order.
pub record Takes (all : List Parts) (one : Parts) (others : List Parts) : Type 0 where
  pub front : List Parts
  pub back : List Parts
  pub is : all ≡ front ++ one ∷ back
  pub rest : others ≡ front ++ back

-- an element of a field is there
abbrev pub HasMember : Rules → (Parts → Value → Type 0) → Presence → List Parts → Values →
    (List Parts → Values → Type 0) → Type 0
HasMember R Sub presence es (more v vs) Rest = (e : Parts) × (others : List Parts) × Takes es e others × Sub e v ×
    MayStand R Sub presence v × Rest others vs
HasMember R Sub presence es _ Rest = ⊥

-- elements of no field: none, or unknown ones in the order in which they stand, where there is an extension mark
abbrev pub AreOthers : (ℕ → Parts → Value → Type 0) → Option ℕ → List Parts → Values → Type 0
AreOthers Sub None es vs = (es ≡ []) × (vs ≡ none)
AreOthers Sub (Some t) es vs = AreEach (Sub t) es vs

-- The elements are those of these fields, in any order (8.11.2), and unknown ones. The values are in the order of the
-- fields.
abbrev pub AreMembers : Rules → (ℕ → Parts → Value → Type 0) → Option ℕ → List Field → List Parts → Values → Type 0
AreMembers R Sub unknown [] es vs = AreOthers Sub unknown es vs
AreMembers R Sub unknown (f ∷ fs) es vs =
    HasMember R (Sub f.of) f.presence es vs (AreMembers R Sub unknown fs) ⊎
    LeftOut R (Sub f.of) f.presence vs (AreMembers R Sub unknown fs es)

-- the octets are such elements, one behind another, in the order that the rules ask for
pub record AreSet (R : Rules) (Sub : ℕ → Parts → Value → Type 0) (unknown : Option ℕ) (fs : List Field)
    (octets : List ℕ) (vs : Values) : Type 0 where
  pub elements : List Parts
  pub joins : IsConcatenation R.ElementOf octets elements
  pub members : AreMembers R Sub unknown fs elements vs
  pub order : R.TagOrder elements

-- An element of a kind has this value: Sub is of elements within it, to a depth, and Same of the element itself.
abbrev pub KindBody : Rules → ℕ → (ℕ → Parts → Value → Type 0) → (ℕ → Parts → Value → Type 0) → Kind → Parts → Value →
    Type 0
KindBody R depth Sub Same kinds.Boolean p v =
    (b : Bool) × (v ≡ leaf (boolean b)) × (p.id.constructed ≡ false) × R.Truth p.content b
KindBody R depth Sub Same kinds.Null p v = (v ≡ leaf null) × (p.id.constructed ≡ false) × (p.content ≡ [])
KindBody R depth Sub Same kinds.Integer p v =
    (n : ℤ) × (v ≡ leaf (integer n)) × (p.id.constructed ≡ false) × IsIntegerContent n p.content
KindBody R depth Sub Same (kinds.Enumerated numbers extensible) p v =
    (n : ℤ) × (v ≡ leaf (enumerated n)) × (p.id.constructed ≡ false) × IsIntegerContent n p.content ×
    ((extensible ≡ true) ⊎ Contains numbers.items n)
KindBody R depth Sub Same (kinds.Bits named) p v =
    (bs : List Bool) × (v ≡ leaf (bits (if named then trimmed bs else bs))) ×
    IsString R (of_bits R) (suc depth) p bs × (named ≡ true → R.Named bs)
KindBody R depth Sub Same kinds.Octets p v =
    (o : List ℕ) × (v ≡ leaf (octets o)) × IsString R of_octets (suc depth) p o
KindBody R depth Sub Same (kinds.Identifier relative) p v =
    (v ≡ leaf (identifier relative p.content)) × (p.id.constructed ≡ false) × (p.content ≢ []) × AreShortest p.content
KindBody R depth Sub Same (kinds.Text kind) p v =
    (o : List ℕ) × (v ≡ leaf (text kind o)) × IsString R of_octets (suc depth) p o × IsText kind o
KindBody R depth Sub Same (kinds.Time kind) p v =
    (o : List ℕ) × (v ≡ leaf (time kind o)) × IsString R of_octets (suc depth) p o × R.Time kind o
KindBody R depth Sub Same kinds.Any p v = (v ≡ leaf (any p.id p.content)) × R.Inside depth p
KindBody R depth Sub Same (kinds.Sequence fields unknown) p v =
    (vs : Values) × (v ≡ row vs) × (p.id.constructed ≡ true) × AreFields R Sub unknown fields.items p.content vs
KindBody R depth Sub Same (kinds.Set fields unknown) p v =
    (vs : Values) × (v ≡ row vs) × (p.id.constructed ≡ true) × AreSet R Sub unknown fields.items p.content vs
KindBody R depth Sub Same (kinds.SequenceOf t) p v =
    (vs : Values) × (v ≡ row vs) × (p.id.constructed ≡ true) × AreItems R (Sub t) AnyOrder p.content vs
KindBody R depth Sub Same (kinds.SetOf t) p v =
    (vs : Values) × (v ≡ row vs) × (p.id.constructed ≡ true) × AreItems R (Sub t) R.Order p.content vs
KindBody R depth Sub Same (kinds.Choice arms) p v =
    (k : ℕ) × (w : Value) × (t : ℕ) × (v ≡ chosen k w) × (slice_get arms.items k ≡ Some t) × Same t p w
KindBody R depth Sub Same (kinds.Explicit t) p v = (p.id.constructed ≡ true) × Begins R (Sub t) p.content v []
KindBody R depth Sub Same (kinds.Within t lower upper) p v = Same t p v × IsMeasured lower upper (measure v)

-- The element has one of the tags of the type at a place of the table, and this value.
pub record IsOfNode (R : Rules) (depth : ℕ) (Sub Same : ℕ → Parts → Value → Type 0) (table : List Node) (t : ℕ) (p : Parts)
    (v : Value) : Type 0 where
  pub node : Node
  pub found : slice_get table t ≡ Some node
  pub tagged : has_tag node.tags p.id ≡ true
  pub body : KindBody R depth Sub Same node.kind p v

-- so, through so many choices and bounds, which lead to places before their own
unfoldable pub Through : Rules → ℕ → (ℕ → Parts → Value → Type 0) → List Node → ℕ → ℕ → Parts → Value → Type 0
Through R depth Sub table zero t p v = ⊥
Through R depth Sub table (suc k) t p v = IsOfNode R depth Sub (Through R depth Sub table k) table t p v

-- An element of the type at a place of the table has this value, where elements nest no deeper than so.
unfoldable pub Body : Rules → List Node → ℕ → ℕ → Parts → Value → Type 0
Body R table zero t p v = ⊥
Body R table (suc depth) t p v = Through R depth (Body R table depth) table (suc t) t p v

-- the words of the type, with their values
abbrev pub Word : Rules → List Node → ℕ → ℕ → List ℕ → Value → Type 0
Word R table depth t = Says R (Body R table depth t)
