-- How a reading is answered: the value, what follows it and its encoding, or the refusal.
use Rattle.std.specs.Prelude.{◌≡◌, ℕ, ◌<◌, ◌^◌, Bool, true, false, List, [], ◌∷◌, ◌++◌, length, codes, decimal, Option}
use Rattle.std.specs.Prelude.{None, Some, Result, Ok, Err, ◌⊎◌}
use Rattle.std.specs.BTreeSet.{insert_key}
use Rattle.std.specs.List.{join_by}
use Rattle.std.specs.declared.cmp.Ordering.{Ordering}
use Rattle.hex.specs.Hex.{encode_lower}
use Rattle.x690.specs.Identifiers.{Identifier, IsTruncatedIdentifier}
use Rattle.x690.specs.Strict.{element_octets}
use Rattle.asn1_headers.specs.declared.error.Err.{Err as Refusal}
use Rattle.asn1_headers.specs.declared.error.Error.{Error}
use Rattle.asn1_headers.specs.declared.error.SerializeError.{SerializeError}
use Rattle.asn1_headers.specs.declared.error.SerializeError.TheVariants as serialize_errors
use Rattle.asn1_headers.specs.Answers.{Exactly, TellsMemory}
use Rattle.asn1_headers.specs.Ber.{EndsWithin}
use Rattle.asn1_rs.specs.Any.Value.{ElementValue}
use Rattle.asn1_rs.specs.BitString.{Bits}
use Rattle.asn1_rs.specs.EmbeddedPdv.{Identification, PdvValue, syntaxes, syntax, context, negotiation, transfer, fixed}
use Rattle.asn1_rs.specs.Oid.{OidValue}
use Rattle.asn1_rs.specs.Oid.Text.{shown_text}
use Rattle.asn1_rs.specs.Grammar.Form.{IsStrict}
use Rattle.asn1_rs.specs.ToDer.{HasNone, Refuses, Writing, whole_octets, whole_refuses}
use Rattle.asn1_headers.specs.Writer.{MayRefuse}
use Rattle.asn1_headers.specs.Error.{tells_of_io, written_refusal}
use Rattle.x509_name.specs.Attribute.{AttributeValue}
use Rattle.asn1vec_answers.specs.Names.{name_of_refusal, name_of_write_refusal}

-- octets in hexadecimal digits of lower case, `-` for none
abbrev pub in_hexadecimal : List ℕ → List ℕ
in_hexadecimal [] = codes "-"
in_hexadecimal (octet ∷ octets) = encode_lower (octet ∷ octets)

-- `c` for constructed, `p` for primitive
abbrev pub letter_of : Bool → List ℕ
letter_of true = codes "c"
letter_of false = codes "p"

-- a bit string: the number of its unused bits, and the octets that have its bits
abbrev pub bit_string_text : Bits → List ℕ
bit_string_text v = decimal v.unused ++ (codes ":" ++ in_hexadecimal v.octets)

-- a truth value
abbrev pub boolean_text : Bool → List ℕ
boolean_text true = codes "true"
boolean_text false = codes "false"

-- the number of the class, the letter of the form, the tag number and the contents octets, joined
-- by points
abbrev pub any_text : ElementValue → List ℕ
any_text v =
    decimal v.id.class ++ (codes "." ++ (letter_of v.id.constructed ++ (codes "." ++
    (decimal v.id.number ++ (codes "." ++ in_hexadecimal v.content)))))

-- a text of octets, `-` for none
abbrev pub text_or_dash : List ℕ → List ℕ → List ℕ
text_or_dash [] text = codes "-"
text_or_dash (octet ∷ octets) text = text

-- an object identifier: its arcs, or its octets where one is 2^64 or more; `-` for no octets
abbrev pub oid_text : OidValue → List ℕ
oid_text v = text_or_dash v.octets (shown_text v.relative v.octets)

-- How the syntaxes of an embedded presentation data value are identified. A word tells in which way. Behind it stand
-- identifiers, the contents octets of an integer, or nothing.
abbrev pub identification_text : Identification → List ℕ
identification_text (syntaxes first second) =
    codes "syntaxes:" ++ (oid_text first ++ (codes ":" ++ oid_text second))
identification_text (syntax s) = codes "syntax:" ++ oid_text s
identification_text (context id) = codes "context:" ++ in_hexadecimal id
identification_text (negotiation id s) = codes "negotiation:" ++ (in_hexadecimal id ++ (codes ":" ++ oid_text s))
identification_text (transfer s) = codes "transfer:" ++ oid_text s
identification_text fixed = codes "fixed"

-- that, a stroke, and the octets of the data value
abbrev pub pdv_text : PdvValue → List ℕ
pdv_text v = identification_text v.identification ++ (codes "/" ++ in_hexadecimal v.octets)

-- the texts of items, parted by commas, in brackets
abbrev pub list_text : {T : Type 0} → (T → List ℕ) → List T → List ℕ
list_text text_of items = codes "[" ++ (join_by text_of (codes ",") items ++ codes "]")

-- what is written of an element of any type: its strict encoding
abbrev pub any_encoding_text : ElementValue → List ℕ
any_encoding_text v = in_hexadecimal (element_octets v.id v.content)

-- an attribute of a name of X.509: its identifier, `=`, and what is written of its value
abbrev pub attribute_text : AttributeValue → List ℕ
attribute_text v = oid_text v.oid ++ (codes "=" ++ any_encoding_text v.value)

-- a relative name: its attributes in this order, joined by `+`
abbrev pub relative_name_text : List AttributeValue → List ℕ
relative_name_text attributes = join_by attribute_text (codes "+") attributes

-- a name: its relative names, joined by `/`; `-` for none
abbrev pub distinguished_name_text : List (List AttributeValue) → List ℕ
distinguished_name_text [] = codes "-"
distinguished_name_text (row ∷ rows) = join_by relative_name_text (codes "/") (row ∷ rows)

-- the keys in ascending order, each once
abbrev pub sorted_keys : {K : Type 0} → (K → K → Ordering) → List K → List K
sorted_keys cmp [] = []
sorted_keys cmp (k ∷ ks) = insert_key cmp (sorted_keys cmp ks) k

-- `none`, or `some` and what is held
abbrev pub option_text : {T : Type 0} → (T → List ℕ) → Option T → List ℕ
option_text text_of None = codes "none"
option_text text_of (Some x) = codes "some " ++ text_of x

-- What there is to say of the encoding of a value: the octets that were written, or why writing was refused. Where the
-- type has no writer there is nothing to say.
abbrev pub Encoding : Type 0
Encoding = Option (Result (List ℕ) SerializeError)

-- that in words
abbrev pub written_text : Result (List ℕ) SerializeError → List ℕ
written_text (Ok octets) = in_hexadecimal octets
written_text (Err e) = codes "err " ++ name_of_write_refusal e

-- how the answer tells the encoding, where it tells one
abbrev pub encoding_text : Encoding → List ℕ
encoding_text None = []
encoding_text (Some written) = codes " enc " ++ written_text written

-- a value, what follows it, and its encoding
abbrev pub ok_text : List ℕ → List ℕ → Encoding → List ℕ
ok_text value rest encoding =
    codes "ok " ++ (value ++ (codes " rest " ++ (in_hexadecimal rest ++ encoding_text encoding)))

-- what reading octets answers: a value and the rest, or a refusal
abbrev pub Reading : Type 0 → Type 0
Reading T = Result (List ℕ × T) (Refusal Error)

-- That in words. An Ok is told by the value, the rest and an encoding that the value may have; an Err by the refusal.
abbrev pub SaysAnswer : {T : Type 0} → (T → List ℕ) → (T → Encoding → Type 0) → Reading T → List ℕ → Type 0
SaysAnswer text_of Encodes (Ok x) text =
    (encoding : Encoding) × Encodes x.1 encoding × (text ≡ ok_text (text_of x.1) x.0 encoding)
SaysAnswer text_of Encodes (Err r) text = text ≡ codes "err " ++ name_of_refusal r

-- The text says what reading the octets may answer.
pub record IsReadAnswer {T : Type 0} (Reads : List ℕ → Reading T → Type 0) (text_of : T → List ℕ)
    (Encodes : T → Encoding → Type 0) (octets text : List ℕ) : Type 0 where
  pub answer : Reading T
  pub reads : Reads octets answer
  pub says : SaysAnswer text_of Encodes answer text

-- Readings and encodings of lawful types.

-- errors stay as they are
abbrev pub Same : Error → Error → Type 0
Same e f = f ≡ e

-- by BER: what is exact by the grammar, and what the reader gives
abbrev pub ReadingByBer : {T V : Type 0} → (List ℕ → V → Type 0) → (T → V) → Bool → (List ℕ → Reading T → Type 0) →
    List ℕ → Reading T → Type 0
ReadingByBer Ber value allocates gives octets answer =
    Exactly EndsWithin Ber value (TellsMemory allocates Same) octets answer × gives octets answer

-- the same by DER
abbrev pub ReadingByDer : {T V : Type 0} → (List ℕ → V → Type 0) → (T → V) → Bool → (List ℕ → Reading T → Type 0) →
    List ℕ → Reading T → Type 0
ReadingByDer Der value allocates gives octets answer =
    Exactly IsTruncatedIdentifier Der value (TellsMemory allocates Same) octets answer × gives octets answer

-- these octets, of a length that 64 bits hold, or why writing them was refused
abbrev pub IsWritten : Bool → List ℕ → Encoding → Type 0
IsWritten allocates octets None = ⊥
IsWritten allocates octets (Some (Ok written)) = (length octets < 2 ^ 64) × (written ≡ octets)
IsWritten allocates octets (Some (Err e)) =
    MayRefuse allocates (length octets) e × (tells_of_io e ≡ false)

-- The same of a value that is not refused for what it is. Of a refused value it is this refusal, as it comes out of a
-- writing.
abbrev pub IsWrittenUnless : Bool → Error → List ℕ → Encoding → Type 0
IsWrittenUnless false refusal octets encoding = IsWritten false octets encoding
IsWrittenUnless true refusal octets encoding = encoding ≡ Some (Err (written_refusal refusal))

-- the strict encoding of a value, or why writing that was refused
abbrev pub StrictEncoding : {V : Type 0} → (V → Identifier → List ℕ → Type 0) → Bool → V → Encoding → Type 0
StrictEncoding Form allocates v encoding =
    (octets : List ℕ) × IsStrict Form v octets × IsWritten allocates octets encoding

-- The same of a value that may have no strict encoding, as the encoding would be too long. Writing is refused then, for
-- the length or when out of memory.
abbrev pub IsUnwritten : Bool → Encoding → Type 0
IsUnwritten allocates encoding =
    (encoding ≡ Some (Err serialize_errors.InvalidLength)) ⊎
    ((allocates ≡ true) × (encoding ≡ Some (Err serialize_errors.OutOfMemory)))

-- A list may be too long for length octets of 64 bits, and has no strict encoding then. Nothing says that a list that
-- fits in a line is short enough.
abbrev pub StrictEncodingIfAny : {V : Type 0} → (V → Identifier → List ℕ → Type 0) → Bool → V → Encoding → Type 0
StrictEncodingIfAny Form allocates v encoding =
    ((octets : List ℕ) × ∥ IsStrict Form v octets ∥₁ × IsWritten allocates octets encoding) ⊎
    (((octets : List ℕ) → ¬ IsStrict Form v octets) × IsUnwritten allocates encoding)

-- the encoding of what is held, or no octets
abbrev pub EncodingOfSome : {T : Type 0} → Bool → (T → Encoding → Type 0) → Option T → Encoding → Type 0
EncodingOfSome allocates Encodes None encoding = IsWritten allocates [] encoding
EncodingOfSome allocates Encodes (Some x) encoding = Encodes x encoding

-- What functions on the way say.

-- the text grew by what this holds of
abbrev pub Gains : List ℕ → List ℕ → (List ℕ → Type 0) → Type 0
Gains old new Is = (gained : List ℕ) × Is gained × (new ≡ old ++ gained)

-- the words say what may be said of an encoding
abbrev pub SaysEncoding : (Encoding → Type 0) → List ℕ → Type 0
SaysEncoding Encodes text = (encoding : Encoding) × Encodes encoding × (text ≡ encoding_text encoding)

-- What came of writing a value of these octets, which has these refusals of its own. Either the octets were written: 64
-- bits hold their length, and the value has no such refusal. Or writing was refused, and the refusal tells why.
abbrev pub CameOfWriting : Bool → List ℕ → (SerializeError → Type 0) → Encoding → Type 0
CameOfWriting allocates octets own None = ⊥
CameOfWriting allocates octets own (Some (Ok written)) =
    (length octets < 2 ^ 64) × (written ≡ octets) × HasNone own
CameOfWriting allocates octets own (Some (Err e)) =
    Refuses allocates (length octets) own e × (tells_of_io e ≡ false)

-- what may be said of the encoding of a value allows its octets, where it has no refusal of its own
abbrev pub AllowsOctets : {S : Type 0} → Writing S → S → (Encoding → Type 0) → Type 0
AllowsOctets w x Encodes =
    HasNone (whole_refuses w x) → length (whole_octets w x) < 2 ^ 64 → Encodes (Some (Ok (whole_octets w x)))

-- and it allows such refusals, but for the writer's failure
abbrev pub AllowsRefusals : (SerializeError → Type 0) → (Encoding → Type 0) → Type 0
AllowsRefusals Is Encodes = (e : SerializeError) → Is e → tells_of_io e ≡ false → Encodes (Some (Err e))

-- they say what came of a writing that left these octets
abbrev pub SaysWriting : List ℕ → Result ℕ SerializeError → List ℕ → Type 0
SaysWriting octets (Ok n) text = text ≡ written_text (Ok octets)
SaysWriting octets (Err e) text = (tells_of_io e ≡ false) × (text ≡ written_text (Err e))
