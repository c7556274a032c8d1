-- What is written for borrowed octet strings under tags.
use Rattle.std.specs.Prelude.{◌≡◌, ℕ, List, [], ◌++◌, length, true, false, Option, None, Some, IfOk, IfErr}
use Rattle.std.specs.List.{flat_map}
use Rattle.std.specs.declared.alloc.Global.{Global}
use Rattle.std.specs.declared.vec.Vec.{Vec}
use Rattle.x690.specs.Strict.{header_octets}
use Rattle.asn1_headers.specs.Class.{class_number}
use Rattle.asn1_headers.specs.Header.{class_of, tag_of}
use Rattle.asn1_headers.specs.declared.error.Error.{Error}
use Rattle.asn1_headers.specs.Writer.{MayRefuse, Wrote, WriterState}
use Rattle.asn1_rs.specs.OctetString.{string_octets}
use Rattle.asn1_rs.specs.declared.asn1_types.octet_string.OctetString.{OctetString}
use Rattle.asn1_rs.specs.declared.asn1_types.tagged.Explicit.{Explicit}
use Rattle.asn1_rs.specs.declared.asn1_types.tagged.Implicit.{Implicit}
use Rattle.asn1_rs.specs.declared.asn1_types.tagged.TaggedValue.{TaggedValue}
use Rattle.asn1_rs.specs.declared.asn1_types.tagged.parser.TaggedParser.{TaggedParser}
use Rattle.asn1_rs.specs.ToDer.{MayRefuseCount}
use Rattle.asn1_rs_uses.specs.declared.labels.EachCall.{EachCall}
use Rattle.asn1_rs_uses.specs.Sequences.{in_sequence}

-- the types, since antt has no names for aliases
abbrev pub Label : Type 0
Label = TaggedValue OctetString Error Explicit 2 1

-- octets under the implicit tag 27 of the universal class
abbrev pub GeneralString : Type 0
GeneralString = TaggedValue OctetString Error Implicit 0 27

-- a list of these under the explicit tag 0
abbrev pub Labels : Type 0
Labels = TaggedValue (Vec GeneralString Global) Error Explicit 2 0

-- an octet string with the header of its explicit tag
abbrev pub Headed : Type 0
Headed = TaggedParser Explicit OctetString Error

-- what is written under the explicit, context-specific tag of this number
abbrev pub explicit_octets : ℕ → List ℕ → List ℕ
explicit_octets number octets = header_octets 2 true number (length octets) ++ octets

-- the strict encoding of an octet string
abbrev pub string_element_octets : OctetString → List ℕ
string_element_octets s = header_octets 0 false 4 (length (string_octets s)) ++ string_octets s

-- what is written for what is held, or no octets
abbrev pub or_nothing : {T : Type 0} → (T → List ℕ) → Option T → List ℕ
or_nothing octets None = []
or_nothing octets (Some x) = octets x

-- what is written for a label that may be left out
abbrev pub label_octets : Option Label → List ℕ
label_octets = or_nothing (λ t. explicit_octets 1 (string_element_octets t.inner))

-- what is written for one of the list
abbrev pub general_string_octets : GeneralString → List ℕ
general_string_octets t = header_octets 0 false 27 (length (string_octets t.inner)) ++ string_octets t.inner

-- what is written for the list under its tag
abbrev pub labels_octets : Labels → List ℕ
labels_octets t = explicit_octets 0 (in_sequence (flat_map general_string_octets t.inner.items))

-- the class and the tag number are those of the header in hand
abbrev pub headed_octets : Headed → List ℕ
headed_octets t =
    let inner = string_element_octets t.inner in
    header_octets (class_number (class_of t.header)) true (tag_of t.header).0 (length inner) ++ inner

-- What each call answers of a value with these octets. One answers their number, and some answer vectors of them. Two
-- write them, or a beginning of them, each into a writer of its own.
pub record AreEachCall (octets : List ℕ) (old new other_old other_new : WriterState) (answers : EachCall) : Type 0 where
  pub counted : IfOk answers.counted (λ n. n ≡ length octets)
  pub written : Wrote octets old new answers.written
  pub strictly : Wrote octets other_old other_new answers.strictly
  pub vector : IfOk answers.vector (λ v. v.items ≡ octets)
  pub strict : IfOk answers.strict (λ v. v.items ≡ octets)

-- Each call is refused for the number of octets alone, by its writer, or when out of memory.
pub record AreRefused (n : ℕ) (answers : EachCall) : Type 0 where
  pub counted : IfErr answers.counted (MayRefuseCount true n)
  pub written : IfErr answers.written (MayRefuse true n)
  pub strictly : IfErr answers.strictly (MayRefuse true n)
  pub vector : IfErr answers.vector (MayRefuse true n)
  pub strict : IfErr answers.strict (MayRefuse true n)
