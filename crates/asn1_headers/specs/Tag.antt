-- Tag numbers and their names (X.680 8.6).
use Rattle.std.specs.Prelude.{ℕ, List, [], ◌∷◌, ◌++◌, false, get_or, codes, decimal, ◌||◌, nat_eq, Bool}
use Rattle.std.specs.Fmt.{radix_digits}
use Rattle.asn1_headers.specs.declared.tag.Tag.{Tag}

-- the names of the universal types by their numbers, empty where there is none
abbrev pub universal_names : List (List ℕ)
universal_names = codes "EndOfContent" ∷ codes "Boolean" ∷ codes "Integer" ∷ codes "BitString" ∷ codes "OctetString" ∷
    codes "Null" ∷ codes "Oid" ∷ codes "ObjectDescriptor" ∷ codes "External" ∷ codes "RealType" ∷ codes "Enumerated" ∷
    codes "EmbeddedPdv" ∷ codes "Utf8String" ∷ codes "RelativeOid" ∷ [] ∷ [] ∷ codes "Sequence" ∷ codes "Set" ∷
    codes "NumericString" ∷ codes "PrintableString" ∷ codes "TeletexString" ∷ codes "VideotexString" ∷
    codes "Ia5String" ∷ codes "UtcTime" ∷ codes "GeneralizedTime" ∷ codes "GraphicString" ∷ codes "VisibleString" ∷
    codes "GeneralString" ∷ codes "UniversalString" ∷ codes "CharacterString" ∷ codes "BmpString" ∷ []

-- the name of a tag number of the universal class, empty where it has none
abbrev pub universal_name : ℕ → List ℕ
universal_name number = get_or universal_names number []

-- the text, or else the other one where it is empty
abbrev pub text_or : List ℕ → List ℕ → List ℕ
text_or [] other = other
text_or (first ∷ more) other = first ∷ more

-- the number in decimal and in hexadecimal
abbrev pub tag_number_text : ℕ → List ℕ
tag_number_text number = codes "Tag(" ++ decimal number ++ codes " / 0x" ++ radix_digits 16 false number ++ codes ")"

-- how a tag number is shown: by its name, or else as a number
abbrev pub tag_name_text : ℕ → List ℕ
tag_name_text number = text_or (universal_name number) (tag_number_text number)

-- The tag number of sequences or of sets, whose elements are constructed (X.690 8.9.1, 8.11.1).
abbrev pub is_container_number : ℕ → Bool
is_container_number number = nat_eq number 16 || nat_eq number 17

-- whether the tag number is that of sequences or sets
abbrev pub is_container : Tag → Bool
is_container tag = is_container_number tag.0
