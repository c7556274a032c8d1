-- Headers as they are written.
use Rattle.std.specs.Prelude.{ℕ, Bool, List, ◌++◌}
use Rattle.std.specs.Option.{unwrap_or}
use Rattle.x690.specs.Identifiers.{Identifier}
use Rattle.x690.specs.Strict.{identifier_octets, length_form_octets}
use Rattle.asn1_headers.specs.declared.class.Class.{Class}
use Rattle.asn1_headers.specs.declared.tag.Tag.{Tag}
use Rattle.asn1_headers.specs.declared.header.Header.{Header}
use Rattle.asn1_headers.specs.Class.{class_number}
use Rattle.asn1_headers.specs.Length.{form_of}
use Rattle.asn1_headers.specs.Header.{identifier_of, raw_tag_of}

-- what the class, the constructed bit and the tag say together
abbrev pub parts_identifier : Class × Bool × Tag → Identifier
parts_identifier parts = record { class = class_number parts.0; constructed = parts.1; number = parts.2.0 }

-- the strict identifier octets, and then the length octets
abbrev pub strict_header : Header → List ℕ
strict_header h = identifier_octets (identifier_of h) ++ length_form_octets (form_of h.length)

-- the identifier octets that were read, or the strict ones where the header keeps none
abbrev pub kept_identifier : Header → List ℕ
kept_identifier h = unwrap_or (raw_tag_of h) (identifier_octets (identifier_of h))

-- the identifier octets that the header keeps, and its length octets
abbrev pub kept_header : Header → List ℕ
kept_header h = kept_identifier h ++ length_form_octets (form_of h.length)
