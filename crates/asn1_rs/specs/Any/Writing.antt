-- Elements of any type, as they are written.
use Rattle.std.specs.Prelude.{ℕ, List, length}
use Rattle.x690.specs.Strict.{header_octets}
use Rattle.asn1_headers.specs.Class.{class_number}
use Rattle.asn1_rs.specs.declared.asn1_types.any.Any.{Any}
use Rattle.asn1_rs.specs.ToDer.{Writing, plain_writing}
use Rattle.asn1_headers.specs.Header.{is_constructed_of}

-- the contents octets of an element in hand
abbrev pub content_of : Any → List ℕ
content_of a = a.content.now

-- the strict header of an element with its contents octets
abbrev pub element_header : Any → List ℕ
element_header a =
    header_octets (class_number a.header.class) a.header.constructed a.header.tag.0 (length a.content.now)

-- An element is written with the strict header of its contents octets, whatever length its header has.
abbrev pub element_writing : Writing Any
element_writing = plain_writing element_header content_of (λ any. is_constructed_of any.header)
