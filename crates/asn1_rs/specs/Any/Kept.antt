-- Elements of any type whose octets are borrowed or owned.
use Rattle.std.specs.Prelude.{◌≡◌, ◌&&◌, ℕ, Bool, List, nat_eq}
use Rattle.std.specs.Cmp.Lexicographic.{pointwise}
use Rattle.std.specs.Cow.{cow_slice_items}
use Rattle.asn1_headers.specs.declared.header.Header.{Header}
use Rattle.asn1_headers.specs.Header.{is_same_identifier}
use Rattle.asn1_rs.specs.declared.asn1_types.any.Any.{Any}
use Rattle.asn1_rs.specs.declared.asn1_types.any.kept.KeptAny.{KeptAny}
use Rattle.asn1_rs.specs.Any.Value.{ElementValue, any_element, element_of}
use Rattle.asn1_rs.specs.Any.Writing.{element_writing}
use Rattle.asn1_rs.specs.Copies.{IsCopyOfHeader}
use Rattle.asn1_rs.specs.Kinds.{ElementGrammar, by_inner_element}
use Rattle.asn1_rs.specs.ToDer.{Writing, inner_writing}

-- the contents octets
abbrev pub kept_content : KeptAny → List ℕ
kept_content a = cow_slice_items a.content

-- the element that it is, with contents octets that are borrowed from no place
abbrev pub as_element : KeptAny → Any
as_element a = record { header = a.header; content = record { ref_ptr = (0, 0); now = kept_content a } }

-- what it says, however its length was written
abbrev pub kept_value : KeptAny → ElementValue
kept_value a = element_of (as_element a)

-- its values are those of elements of any type
abbrev pub kept_element : ElementGrammar KeptAny
kept_element = by_inner_element as_element any_element

-- and it is written as they are
abbrev pub kept_element_writing : Writing KeptAny
kept_element_writing = inner_writing as_element element_writing

-- it has the parts of this header, its length and the identifier octets that it keeps among them, and these contents
-- octets
abbrev pub KeepsElement : Header → List ℕ → KeptAny → Type 0
KeepsElement header content kept = IsCopyOfHeader header kept.header × (kept_content kept ≡ content)

-- whether two have one class, one form, one tag number and the same contents octets
abbrev pub same_elements : KeptAny → KeptAny → Bool
same_elements x y = is_same_identifier x.header y.header && pointwise nat_eq (kept_content x) (kept_content y)
