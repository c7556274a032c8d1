-- Which values without parts JSON denotes (ITU-T X.697).
use Rattle.std.specs.Prelude.{ℕ, ℤ, zero, suc, Bool, true, false, List, [], ◌∷◌, ◌≡◌, ◌||◌, ◌&&◌, length, codes, Option, Some, None, Ok}
use Rattle.std.specs.Prelude.{encode_utf8_all, if◌then◌else◌, nat_eq}
use Rattle.std.specs.List.{list_any}
use Rattle.std.specs.Str.{bytes_eq}
use Rattle.hex.specs.Hex.{decode_of}
use Rattle.json.specs.Json.{Json, boolean, null, number, string, object, Members, no_members, member}
use Rattle.json.specs.Find.{get_member}
use Rattle.x690.specs.Octets.{IsOctets}
use Rattle.x690.specs.Identifiers.{Identifier}
use Rattle.x690.specs.Elements.{IsStrictElement}
use Rattle.x690.specs.Arcs.{AreShortest}
use Rattle.x690.specs.Characters.{Codes, utf16_octets, ucs4_octets}
use Rattle.asn1_words.specs.Words.{number_text, integer_text}
use Rattle.asn1_words.specs.Numbers.{are_shown, arcs, dotted_arcs}
use Rattle.asn1_schema.specs.declared.names.PartName.{PartName}
use Rattle.asn1_schema.specs.declared.schema.TextKind.{TextKind}
use Rattle.asn1_schema.specs.declared.schema.TextKind.TheVariants as texts
use Rattle.asn1_schema.specs.declared.schema.Kind.{Kind}
use Rattle.asn1_schema.specs.declared.schema.Kind.TheVariants as kinds
use Rattle.asn1_schema.specs.Values as values
use Rattle.asn1_schema.specs.Values.{LeafValue}
use Rattle.asn1_json.specs.Leaves.{octets_of_bits}
use Rattle.asn1_json.specs.Numerals.{is_numeral}

-- the number of the first part with a name
abbrev pub number_named : List PartName → List ℕ → Option ℤ
number_named [] name = None
number_named (label ∷ labels) name =
    if bytes_eq label.name.now name then Some label.number else number_named labels name

-- the text of an integer, without fraction and exponent
abbrev pub DenotesInteger : Json → ℤ → Type 0
DenotesInteger (number s) n = s ≡ integer_text n
DenotesInteger _ n = ⊥

-- a listed number by its name, or as a number
abbrev pub DenotesListed : List PartName → Json → ℤ → Type 0
DenotesListed labels (string s) n = number_named labels s ≡ Some n
DenotesListed labels (number s) n = s ≡ integer_text n
DenotesListed labels _ n = ⊥

-- octets in hexadecimal digits, two each, in either case
abbrev pub IsHexadecimal : List ℕ → List ℕ → Type 0
IsHexadecimal s o = decode_of s ≡ Ok o

abbrev pub count_members : Members → ℕ
count_members no_members = zero
count_members (member k j ms) = suc (count_members ms)

-- `value` and `length`, and no other member: octets of bits, which zeros fill, and how many bits they are
pub record DenotesBits (ms : Members) (bs : List Bool) : Type 0 where
  pub text : List ℕ
  pub value : get_member (codes "value") ms ≡ Some (string text)
  pub octets : IsHexadecimal text (octets_of_bits bs)
  pub length : get_member (codes "length") ms ≡ Some (number (number_text (length bs)))
  pub both : count_members ms ≡ 2

-- A text is one of arcs, and not of hexadecimal digits: it has a point, or is the one arc of a relative identifier.
abbrev pub has_arcs : Bool → List ℕ → Bool
has_arcs relative s = list_any (nat_eq 46) s || (relative && is_numeral s)

-- arcs with points between them; or hexadecimal, as of identifiers whose arcs are too large to be shown
abbrev pub DenotesArcsOr : (has_arcs relative : Bool) → List ℕ → List ℕ → Type 0
DenotesArcsOr true relative s o =
    (are_shown relative o ≡ true) × IsOctets o × AreShortest o × (s ≡ dotted_arcs (arcs relative o))
DenotesArcsOr false relative s o = IsHexadecimal s o

abbrev pub DenotesIdentifier : Bool → List ℕ → List ℕ → Type 0
DenotesIdentifier relative s o = DenotesArcsOr (has_arcs relative s) relative s o

-- the octets of the characters, in the code of the type
abbrev pub DenotesText : TextKind → List ℕ → List ℕ → Type 0
DenotesText texts.Utf8 s o = o ≡ s
DenotesText texts.Bmp s o = (cs : List ℕ) × Codes utf16_octets o cs × (s ≡ encode_utf8_all cs)
DenotesText texts.Universal s o = (cs : List ℕ) × Codes ucs4_octets o cs × (s ≡ encode_utf8_all cs)
DenotesText _ s o = IsOctets o × (s ≡ encode_utf8_all o)

-- one element with a strict header, in hexadecimal
abbrev pub DenotesElement : List ℕ → Identifier → List ℕ → Type 0
DenotesElement s id o = (octets : List ℕ) × IsHexadecimal s octets × IsStrictElement octets id o

-- JSON denotes a value without parts of a kind, where the type has these names.
abbrev pub DenotesLeaf : List PartName → Kind → Json → LeafValue → Type 0
DenotesLeaf labels kinds.Boolean j l = (b : Bool) × (j ≡ boolean b) × (l ≡ values.boolean b)
DenotesLeaf labels kinds.Null j l = (j ≡ null) × (l ≡ values.null)
DenotesLeaf labels kinds.Integer j l = (n : ℤ) × DenotesInteger j n × (l ≡ values.integer n)
DenotesLeaf labels (kinds.Enumerated numbers extensible) j l =
    (n : ℤ) × DenotesListed labels j n × (l ≡ values.enumerated n)
DenotesLeaf labels (kinds.Bits named) j l =
    (ms : Members) × (bs : List Bool) × (j ≡ object ms) × DenotesBits ms bs × (l ≡ values.bits bs)
DenotesLeaf labels kinds.Octets j l = (s o : List ℕ) × (j ≡ string s) × IsHexadecimal s o × (l ≡ values.octets o)
DenotesLeaf labels (kinds.Identifier relative) j l =
    (s o : List ℕ) × (j ≡ string s) × DenotesIdentifier relative s o × (l ≡ values.identifier relative o)
DenotesLeaf labels (kinds.Text kind) j l =
    (s o : List ℕ) × (j ≡ string s) × DenotesText kind s o × (l ≡ values.text kind o)
DenotesLeaf labels (kinds.Time kind) j l =
    (s o : List ℕ) × (j ≡ string s) × IsOctets o × (s ≡ encode_utf8_all o) × (l ≡ values.time kind o)
DenotesLeaf labels kinds.Any j l =
    (s o : List ℕ) × (id : Identifier) × (j ≡ string s) × DenotesElement s id o × (l ≡ values.any id o)
DenotesLeaf labels _ j l = ⊥
