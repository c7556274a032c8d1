-- Values without parts as tokens of JSON.
use Rattle.std.specs.Prelude.{ℕ, zero, suc, ◌+◌, ◌*◌, ◌/◌, ◌%◌, ◌^◌, ℤ, Bool, List, [], ◌∷◌, length, drop, codes}
use Rattle.std.specs.Prelude.{if◌then◌else◌, encode_utf8_all}
use Rattle.std.specs.Ordering.{int_eq}
use Rattle.hex.specs.Hex.{encode_lower}
use Rattle.json.specs.Token as json
use Rattle.x690.specs.Identifiers.{Identifier, bit}
use Rattle.x690.specs.Strict.{element_octets}
use Rattle.asn1_words.specs.Words.{number_text, integer_text}
use Rattle.asn1_words.specs.Numbers.{are_shown, arcs, dotted_arcs}
use Rattle.asn1_schema.specs.declared.names.PartName.{PartName}
use Rattle.asn1_schema.specs.Values.{LeafValue, boolean, null, integer, enumerated, bits, octets, identifier, text}
use Rattle.asn1_schema.specs.Values.{time, any}
use Rattle.asn1_json.specs.Texts.{text_of}

-- the name of the first part with this number; none is empty
abbrev pub name_of : List PartName → ℤ → List ℕ
name_of [] number = []
name_of (label ∷ labels) number = if int_eq label.number number then label.name.now else name_of labels number

-- so many bits at the front as a number, the first one highest; those that are missing are 0
abbrev pub number_of_bits : ℕ → List Bool → ℕ
number_of_bits zero bs = 0
number_of_bits (suc places) [] = 0
number_of_bits (suc places) (b ∷ bs) = bit b * 2 ^ places + number_of_bits places bs

-- so many octets of bits
abbrev pub octets_from : ℕ → List Bool → List ℕ
octets_from zero bs = []
octets_from (suc count) bs = number_of_bits 8 bs ∷ octets_from count (drop 8 bs)

-- the octets of bits, eight each; zeros fill the last one
abbrev pub octets_of_bits : List Bool → List ℕ
octets_of_bits bs = octets_from ((length bs + 7) / 8) bs

-- a name, or the number where there is none
abbrev pub listed_token : List ℕ → ℤ → json.Token
listed_token [] n = json.number (integer_text n)
listed_token (c ∷ cs) n = json.string (c ∷ cs)

-- arcs with points between them; hexadecimal where they are too large to be shown
abbrev pub arcs_or_hexadecimal : Bool → List ℕ → List ℕ
arcs_or_hexadecimal relative o = if are_shown relative o then dotted_arcs (arcs relative o) else encode_lower o

-- an element of definite length in hexadecimal
abbrev pub element_text : Identifier → List ℕ → List ℕ
element_text id o = encode_lower (element_octets (record id { class = id.class % 4 }) o)

-- octets in hexadecimal, which zeros fill, and the number of bits
abbrev pub bits_tokens : List Bool → List json.Token
bits_tokens bs =
    json.begin_object ∷ json.key (codes "value") ∷ json.string (encode_lower (octets_of_bits bs)) ∷
    json.key (codes "length") ∷ json.number (number_text (length bs)) ∷ json.end_object ∷ []

-- The tokens of a leaf, where the type has these names.
abbrev pub leaf_tokens : List PartName → LeafValue → List json.Token
leaf_tokens labels (boolean b) = json.boolean b ∷ []
leaf_tokens labels null = json.null ∷ []
leaf_tokens labels (integer n) = json.number (integer_text n) ∷ []
leaf_tokens labels (enumerated n) = listed_token (name_of labels n) n ∷ []
leaf_tokens labels (bits bs) = bits_tokens bs
leaf_tokens labels (octets o) = json.string (encode_lower o) ∷ []
leaf_tokens labels (identifier relative o) = json.string (arcs_or_hexadecimal relative o) ∷ []
leaf_tokens labels (text kind o) = json.string (text_of kind o) ∷ []
leaf_tokens labels (time kind o) = json.string (encode_utf8_all o) ∷ []
leaf_tokens labels (any id o) = json.string (element_text id o) ∷ []
