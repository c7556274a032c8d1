-- Values that are not written: of no class, or empty.
use Rattle.std.specs.Prelude.{◌≡◌, ◌⊎◌, ◌≤◌, ℕ, true, false, List, [], ◌∷◌, ◌++◌, length, codes}
use Rattle.std.specs.List.{Any, flat_map}
use Rattle.x690.specs.Strict.{header_octets}
use Rattle.asn1_rs_uses.specs.declared.refusals.InClass.{InClass}
use Rattle.asn1_rs_uses.specs.declared.refusals.NamePart.{NamePart}
use Rattle.asn1_headers.specs.Error.{IsInvalidValue}
use Rattle.asn1_headers.specs.declared.error.Error.{Error}
use Rattle.asn1_headers.specs.declared.error.SerializeError.{SerializeError}
use Rattle.asn1_headers.specs.declared.error.SerializeError.TheVariants as serialize_errors
use Rattle.asn1_rs.specs.ToDer.{Writing, WrittenRefusal, plain_writing, whole_octets}

-- no class has the number, and the refusal names it
abbrev pub NamesNoClass : ℕ → SerializeError → Type 0
NamesNoClass class e = (4 ≤ class) × (e ≡ serialize_errors.InvalidClass class)

-- the refusal of an empty part, with its tag number and its text
abbrev pub TellsOfEmptyPart : Error → Type 0
TellsOfEmptyPart = IsInvalidValue (record { 0 = 12 }) (codes "empty part")

-- a part has no octets, and the refusal tells of that
abbrev pub IsEmptyPart : List ℕ → Error → Type 0
IsEmptyPart octets e = (octets ≡ []) × TellsOfEmptyPart e

-- the same, in writing
abbrev pub WrittenEmptyPart : SerializeError → Type 0
WrittenEmptyPart (serialize_errors.ASN1Error e) = TellsOfEmptyPart e
WrittenEmptyPart _ = ⊥

-- An element of one octet, with tag number 0, under the class that the value names. A class past 3 is the refusal.
abbrev pub in_class_writing : Writing InClass
in_class_writing = record (plain_writing (λ x. header_octets x.class false 0 1) (λ x. x.octet ∷ []) (λ _. false)) {
  header_refuses = λ x. NamesNoClass x.class;
  content_refuses = λ x. NamesNoClass x.class;
  refuses_first = λ x. NamesNoClass x.class;
}

-- a string of the part's octets; an empty part is the refusal
abbrev pub part_writing : Writing NamePart
part_writing = record (plain_writing (λ p. header_octets 0 false 12 (length p.0.now)) (λ p. p.0.now) (λ _. false)) {
  count_refuses = λ p. IsEmptyPart p.0.now;
  header_refuses = λ p. WrittenRefusal (IsEmptyPart p.0.now);
  content_refuses = λ p. WrittenRefusal (IsEmptyPart p.0.now);
}

-- the refusal names the class of one of the items, which is none
abbrev pub TellsOfNoClass : List InClass → SerializeError → Type 0
TellsOfNoClass xs e = Any (λ x. NamesNoClass x.class e) xs

-- some item is of no class
abbrev pub SomeInNoClass : List InClass → Type 0
SomeInNoClass xs = Any (λ x. 4 ≤ x.class) xs

-- what is written for one
abbrev pub octets_in_class : InClass → List ℕ
octets_in_class = whole_octets in_class_writing

-- the items as a list
abbrev pub octets_in_classes : List InClass → List ℕ
octets_in_classes xs = let content = flat_map octets_in_class xs in header_octets 0 true 16 (length content) ++ content

-- some part is empty
abbrev pub SomeEmpty : List NamePart → Type 0
SomeEmpty parts = Any (λ p. p.0.now ≡ []) parts

-- a refusal that any writing may have: the writer's failure, a length past what 64 bits hold, or out of memory
abbrev pub AsAnyWriting : SerializeError → Type 0
AsAnyWriting (serialize_errors.ASN1Error e) = ⊥
AsAnyWriting (serialize_errors.InvalidClass c) = ⊥
AsAnyWriting e = Unit {0}

-- out of memory, or a length past what 64 bits hold
abbrev pub IsMemoryOrAnyLength : SerializeError → Type 0
IsMemoryOrAnyLength e = (e ≡ serialize_errors.OutOfMemory) ⊎ (e ≡ serialize_errors.InvalidLength)
