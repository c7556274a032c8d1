-- Copies that borrow nothing.
use Rattle.std.specs.Prelude.{Option, Some, None}
use Rattle.asn1_headers.specs.declared.header.Header.{Header}
use Rattle.asn1_headers.specs.Header.{HasParts, class_of, is_constructed_of, tag_of, length_of, raw_tag_of}

-- a copy of what may be there: of nothing nothing, of a value its copy
abbrev pub CopiesSome : {T S : Type 0} → (T → S → Type 0) → Option T → Option S → Type 0
CopiesSome copies None None = Unit {0}
CopiesSome copies (Some source) (Some copy) = copies source copy
CopiesSome copies _ _ = ⊥

-- a copy of a struct: the row of its fields is a copy of that of the source
abbrev pub copied_by : {T S : Type 0} → (T → S) → (S → S → Type 0) → T → T → Type 0
copied_by row copies source copy = copies (row source) (row copy)

-- a header with the same parts, its length and the identifier octets that it keeps among them
abbrev pub IsCopyOfHeader : Header → Header → Type 0
IsCopyOfHeader source copy =
    HasParts copy (class_of source) (is_constructed_of source) (tag_of source) (length_of source) (raw_tag_of source)
