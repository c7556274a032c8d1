-- Headers.
pub mod Reading
pub mod Writing
use Rattle.std.specs.Prelude.{◌≡◌, ◌&&◌, ℕ, Bool, nat_eq, Option, Some, List, IfSome}
use Rattle.std.specs.Option.{option_map}
use Rattle.std.specs.Ordering.{on}
use Rattle.std.specs.Bool.{beq}
use Rattle.std.specs.Cow.{cow_slice_items, IsBorrowedSlice}
use Rattle.x690.specs.Identifiers.{Identifier}
use Rattle.asn1_headers.specs.declared.class.Class.{Class}
use Rattle.asn1_headers.specs.declared.tag.Tag.{Tag}
use Rattle.asn1_headers.specs.declared.length.Length.{Length}
use Rattle.asn1_headers.specs.declared.header.Header.{Header}
use Rattle.asn1_headers.specs.Class.{class_number}

-- the class that a header says
abbrev pub class_of : Header → Class
class_of h = h.class

-- whether a header says the constructed form
abbrev pub is_constructed_of : Header → Bool
is_constructed_of h = h.constructed

-- the tag number that a header says
abbrev pub tag_of : Header → Tag
tag_of h = h.tag

-- the length that a header says
abbrev pub length_of : Header → Length
length_of h = h.length

-- the identifier octets that were read, where the header keeps them
abbrev pub raw_tag_of : Header → Option (List ℕ)
raw_tag_of h = option_map cow_slice_items h.raw_tag

-- The identifier octets that a header keeps, if any, are lent to it: they are not a copy.
abbrev pub LendsRawTag : Header → Type 0
LendsRawTag h = IfSome h.raw_tag IsBorrowedSlice

-- The header keeps these identifier octets, lent.
abbrev pub KeepsLent : List ℕ → Header → Type 0
KeepsLent octets h = (raw_tag_of h ≡ Some octets) × LendsRawTag h

-- what the header's identifier octets say
abbrev pub identifier_of : Header → Identifier
identifier_of h = record { class = class_number h.class; constructed = h.constructed; number = h.tag.0 }

-- whether two headers have one class, one form and one tag number
abbrev pub is_same_identifier : Header → Header → Bool
is_same_identifier g h =
    on (λ h. class_number h.class) nat_eq g h && (on (λ h. h.constructed) beq g h && on (λ h. h.tag.0) nat_eq g h)

-- the header has these parts
pub record HasParts (h : Header) (class : Class) (constructed : Bool) (tag : Tag) (length : Length)
    (raw_tag : Option (List ℕ)) : Type 0 where
  pub class_is : h.class ≡ class
  pub constructed_is : h.constructed ≡ constructed
  pub tag_is : h.tag ≡ tag
  pub length_is : h.length ≡ length
  pub raw_tag_is : option_map cow_slice_items h.raw_tag ≡ raw_tag
