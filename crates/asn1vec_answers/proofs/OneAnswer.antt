-- A line has one answer, except when out of memory.
use Rattle.std.proofs.Common.{◌≡◌, ◌<◌, ◌∙◌, lit<, sym, ap, subst, List, ◌++◌, length, ℕ, true, false, ◌⊎◌, inl, inr}
use Rattle.std.proofs.Common.{refl, Ok, Err, codes, arith, Option, Some, Result}
use Rattle.std.specs.Prelude.{ℤ, pos, decimal, Bool as Truth, IsUtf8}
use Rattle.std.specs.Fmt.{signed_decimal}
use Rattle.std.proofs.Math.Dec.{eqb}
use Rattle.std.specs.List.{find}
use Rattle.std.specs.Cmp.Lexicographic.{pointwise}
use Rattle.x690.specs.Signed.{IsSigned}
use Rattle.x690.specs.Times.{utc_time_shown, generalized_time_shown}
use Rattle.asn1_headers.specs.declared.error.Error.{Error}
use Rattle.asn1_headers.specs.declared.error.Error.TheVariants.{InvalidDateTime}
use Rattle.asn1_rs.specs.declared.asn1_types.any.Any.{Any as AnyElement}
use Rattle.asn1_rs.specs.Any.{IsTheElement, IsDefiniteOr, parts_of}
use Rattle.asn1_rs.specs.Traits.{OfParts}
use Rattle.asn1_rs.specs.Any.Value.{element_of, ElementBody, ElementCheck, ElementForm}
use Rattle.asn1_rs.specs.Integer.{IntegerCheck, IntegerCheckGives, IntegerBody, IntegerForm, IntegerGives, IsUnsigned}
use Rattle.asn1_rs.specs.Integer.{UnsignedRefuses, SignedRefuses}
use Rattle.asn1_rs.specs.declared.asn1_types.end_of_content.EndOfContent.{EndOfContent}
use Rattle.asn1_rs.specs.BitString.{bit_string_leaf}
use Rattle.asn1_rs.specs.Boolean.{bool_leaf}
use Rattle.asn1_rs.specs.EndOfContent.{end_leaf}
use Rattle.asn1_rs.specs.Enumerated.{enumerated_leaf}
use Rattle.asn1_rs.specs.Integer.Octets.{any_integer_leaf, content_slice}
use Rattle.asn1_rs.specs.Leaf.{Leaf, IsLawfulLeafUpTo, LeafBody, LeafGives, LeafConverts, LendsContent}
use Rattle.asn1_rs.specs.Null.{null_leaf}
use Rattle.asn1_rs.specs.OctetString.{octet_string_leaf, cow_of}
use Rattle.asn1_rs.specs.Laws.BitString.{bit_string_lawful}
use Rattle.asn1_rs.specs.Laws.Boolean.{bool_lawful}
use Rattle.asn1_rs.specs.Laws.EndOfContent.{end_lawful}
use Rattle.asn1_rs.specs.Laws.Enumerated.{enumerated_lawful}
use Rattle.asn1_rs.specs.Laws.Integer.Octets.{any_integer_lawful}
use Rattle.asn1_rs.specs.Laws.Leaf.{leaf_lawful, leaf_one_refusal}
use Rattle.x690.specs.Strict.{header_octets}
use Rattle.asn1_rs.specs.declared.asn1_types.oid.Oid.{Oid as Identifier}
use Rattle.asn1_rs.specs.Oid.{OidValue, OidGives, oid_constraints, oid_element, oid_value, written_number}
use Rattle.asn1_rs.specs.Laws.Oid.{oid_constraints_are, oid_lawful}
use Rattle.asn1_rs.specs.Laws.Null.{null_lawful}
use Rattle.asn1_rs.specs.Laws.OctetString.{octet_string_lawful}
use Rattle.asn1_rs.specs.Strings.{StringGives, string_leaf}
use Rattle.asn1_rs.specs.CodedStrings.{coded_string_leaf}
use Rattle.asn1_rs.specs.Laws.Strings.{string_lawful}
use Rattle.asn1_rs.specs.Laws.CodedStrings.{coded_string_lawful}
use Rattle.asn1_rs.specs.declared.asn1_types.embedded_pdv.EmbeddedPdv.{EmbeddedPdv}
use Rattle.asn1_rs.specs.EmbeddedPdv.{PdvGives, pdv_constraints, pdv_element, pdv_value}
use Rattle.asn1_rs.specs.Laws.EmbeddedPdv.{pdv_constraints_are, pdv_lawful, pdv_one_refusal}
use Rattle.asn1_rs.specs.Times.{utc_time_leaf, utc_time_refused, generalized_time_leaf, generalized_time_refused}
use Rattle.asn1_rs.specs.Laws.Times.{utc_time_lawful, generalized_time_lawful}
use Rattle.asn1_headers.specs.Tag.{is_container_number}
use Rattle.x690.specs.Characters.{IsCharacterCode, ucs4_octets_of, utf16_octets_of}
use Rattle.x690.specs.Laws.Characters.{ucs4_code, utf16_code}
use Rattle.x690.specs.Sets.{AllIn, is_numeric, is_printable, is_visible}
use Rattle.x690.specs.Laws.Sets.{ascii_ascii, in_set_utf8, numeric_ascii, printable_ascii, visible_ascii}
use Rattle.std.specs.Char.{is_ascii}
use Rattle.asn1_rs.specs.Laws.Any.Value.{element_lawful, element_checks}
use Rattle.asn1_rs.specs.Laws.Integer.{one_integer_check_refusal, integer_checks, one_integer_refusal, integer_lawful}
use Rattle.asn1_rs.specs.Laws.Integer.Unsigned.{one_unsigned_refusal}
use Rattle.asn1_rs.specs.Laws.Integer.Signed.{one_signed_refusal}
use Rattle.asn1vec_answers.specs.declared.request.Rule.{Rule}
use Rattle.asn1vec_answers.specs.declared.types.TypeName.{TypeName}
use Rattle.asn1vec_answers.specs.declared.types.TypeName.TheVariants.{U8, U16, U32, U64, U128, I8, I16, I32, I64, I128}
use Rattle.asn1vec_answers.specs.declared.types.TypeName.TheVariants.{Any, Bool, Null, Enumerated, Integer, Octets}
use Rattle.asn1vec_answers.specs.declared.types.TypeName.TheVariants.{Bits, Eoc, VecU8, VecU32, VecBool, VecVecU8}
use Rattle.asn1vec_answers.specs.declared.types.TypeName.TheVariants.{SetOfU8, BTreeSetU8, Sequence, Set, SeqOfU32}
use Rattle.asn1vec_answers.specs.declared.types.TypeName.TheVariants.{Explicit0U32, Explicit31U8, VecExplicit31U8}
use Rattle.asn1vec_answers.specs.declared.types.TypeName.TheVariants.{OptU8, HashSetI8, Implicit1VecU16, Oid, Utf8}
use Rattle.asn1vec_answers.specs.declared.types.TypeName.TheVariants.{Numeric, Printable, Teletex, Videotex, Ia5}
use Rattle.asn1vec_answers.specs.declared.types.TypeName.TheVariants.{Graphic, Visible, General, Descriptor, Universal}
use Rattle.asn1vec_answers.specs.declared.types.TypeName.TheVariants.{Bmp, UtcTime, GenTime, Pdv, X509Name}
use Rattle.asn1vec_answers.proofs.NamedTypes.{types}
use Rattle.asn1vec_answers.specs.Request.{IsRequest}
use Rattle.asn1vec_answers.specs.Shown.{Encoding, IsWritten, IsWrittenUnless, bit_string_text, any_text, oid_text}
use Rattle.asn1vec_answers.specs.Shown.{in_hexadecimal, pdv_text, boolean_text}
use Rattle.asn1vec_answers.specs.Meaning.{Meaning}
use Rattle.asn1vec_answers.specs.Types.{name_allocates, name_of_type, meaning_of, integers, elements, identifiers}
use Rattle.asn1vec_answers.specs.Types.{LeafEncoding, copying_leaf, coded_strings, data_values, leaf, leaf_by}
use Rattle.asn1vec_answers.specs.Types.{lent_leaf, leaf_octets, refusing_leaf, strings, ends, Names, IsTypeAnswer}
use Rattle.asn1vec_answers.specs.Answer.{IsRequestAnswer, IsRefusedLine, IsAnswered, IsAnswer}
use Rattle.asn1vec_answers.specs.Memory.{AsksForNoneThatAllocates, DifferByMemory, AreAlike, TakesNoMemory}
use Rattle.asn1vec_answers.proofs.OneReading.{HasOneAnswer, SameEncoding, ShownAlike, answers_alike, optional_once}
use Rattle.asn1vec_answers.proofs.OneReading.{readings_weaker, strict_same, unless_same, written_same, ber_same}
use Rattle.asn1vec_answers.proofs.OneReading.{either_same}
use Rattle.asn1vec_answers.proofs.OneItem.{alone_once, collection_once, hashed_signed_once, leaf_item_once}
use Rattle.asn1vec_answers.proofs.OneItem.{ordered_unsigned_once, sequence_of_once, unordered_set_once, unsigned_once}
use Rattle.asn1vec_answers.proofs.OneItem.{vector_once}
use Rattle.asn1vec_answers.proofs.OneName.{names_once}
use Rattle.asn1vec_answers.proofs.OneRefusal.{IsOneRefusal, IsOneRefusalBut, KeepsNames, one_name, one_of_copied}
use Rattle.asn1vec_answers.proofs.OneRefusal.{one_of_parts, but_text_keeps, whole_keeps}
use Rattle.asn1vec_answers.proofs.OneTag.{explicit_once, implicit_vector_once}
use Rattle.asn1_rs.specs.Kept.{sequence_leaf, set_leaf}
use Rattle.asn1_rs.specs.Laws.Kept.{sequence_lawful, set_lawful}
use Rattle.std.specs.declared.alloc.Global.{Global}
use Rattle.std.specs.declared.borrow.CowSlice.{CowSlice}
use Rattle.asn1vec_answers.proofs.Split.{requests_same}

-- What the names stand for has one answer.

integers_once : {T : Type 0} (number : T → ℤ) (Holds : ℤ → Type 0) (refuses : List ℕ → Error → Type 0) →
    ((c : List ℕ) (e f : Error) → refuses c e → refuses c f → e ≡ f) → HasOneAnswer (integers number Holds refuses)
integers_once {T} number Holds refuses one rule octets a b p q =
    readings_weaker _ (ShownAlike (integers number Holds refuses)) false shown a b
    (either_same (IntegerBody Holds) number false (OfParts (IntegerGives number Holds refuses))
    (integer_lawful Holds number).body_one (one_of_parts (IntegerGives number Holds refuses)
    (one_name whole_keeps (IntegerGives number Holds refuses) (one_integer_refusal refuses one)))
    IntegerCheckGives IntegerCheck (one_name whole_keeps IntegerCheckGives one_integer_check_refusal)
    (λ p e h k. integer_checks.exact p (Err e) k h) rule octets a b p q)
  where
    shown : (x y : T) → number x ≡ number y → ShownAlike (integers number Holds refuses) x y
    shown x y same = record {
      text = ap signed_decimal same;
      encoding =
          strict_same (IntegerForm Holds) (integer_lawful Holds number).one_form false (number x) (number y) same;
    }

elements_once : HasOneAnswer elements
elements_once rule octets a b p q =
    readings_weaker _ (ShownAlike elements) false shown a b
    (either_same ElementBody element_of false IsTheElement element_lawful.body_one (λ a b e f same h k. absurd h)
    IsDefiniteOr ElementCheck (one_name whole_keeps IsDefiniteOr (λ p e f h k. h.1 ∙ sym k.1))
    (λ p e h k. element_checks.exact p (Err e) k h) rule octets a b p q)
  where
    shown : (x y : AnyElement) → element_of x ≡ element_of y → ShownAlike elements x y
    shown x y same = record {
      text = ap any_text same;
      encoding = strict_same ElementForm element_lawful.one_form false (element_of x) (element_of y) same;
    }

identifiers_once : HasOneAnswer identifiers
identifiers_once rule octets a b p q =
    readings_weaker _ (ShownAlike identifiers) false shown a b
    (either_same oid_element.Body oid_value false OidGives oid_lawful.body_one (λ a b e f same h k. absurd h)
    oid_constraints oid_element.Check (one_name whole_keeps oid_constraints oid_constraints_are.one)
    (λ p e h k. oid_constraints_are.apart p e h k) rule octets a b p q)
  where
    written : OidValue → List ℕ
    written v = header_octets 0 false (written_number v.relative) (length v.octets) ++ v.octets

    shown : (x y : Identifier) → oid_value x ≡ oid_value y → ShownAlike identifiers x y
    shown x y same = record {
      text = ap oid_text same;
      encoding = λ e f h k. written_same false (written (oid_value y)) e f
          (subst (λ (v : OidValue). IsWritten false (written v) e) same h) k;
    }

-- a leaf type, whose refusals have one name where `key` does not tell them apart
module _ {K : Type 0} {key : Error → K} (keeps : KeepsNames key) {T : Type 0} (L : Leaf T)
    (l : IsLawfulLeafUpTo key L) where
  conversion_once : IsOneRefusal (LeafGives L)
  conversion_once = one_name keeps (LeafGives L) (leaf_one_refusal L l).0.one

  leaf_by_once : (allocates : Truth) (converts : AnyElement → Result T Error → Type 0)
      (Encodes : L.Value → Encoding → Type 0) (text : L.Value → List ℕ) → IsOneRefusalBut allocates converts
      → ((v : L.Value) (e f : Encoding) → Encodes v e → Encodes v f → SameEncoding false e f) →
      HasOneAnswer (leaf_by allocates L converts Encodes text)
  leaf_by_once allocates converts Encodes text one encoding rule octets a b p q =
      let check = (leaf_one_refusal L l).1 in
      readings_weaker _ (ShownAlike (leaf_by allocates L converts Encodes text)) allocates shown a b
      (either_same (LeafBody L) L.value allocates converts (leaf_lawful L l).body_one one
      L.constraints (λ p. L.constraints p (Ok tt)) (one_name keeps L.constraints check.one)
      (λ p e h k. check.none p tt e h k) rule octets a b p q)
    where
      shown : (x y : T) → L.value x ≡ L.value y → ShownAlike (leaf_by allocates L converts Encodes text) x y
      shown x y same = record {
        text = ap text same;
        encoding = λ e f h k. encoding (L.value y) e f (subst (λ (v : L.Value). Encodes v e) same h) k;
      }

  -- one whose conversion refuses only as the leaf does, and that copies nothing
  leaf_as_once : (converts : AnyElement → Result T Error → Type 0) (text : L.Value → List ℕ) →
      ((a : AnyElement) (e : Error) → converts a (Err e) → LeafGives L (parts_of a) (Err e)) →
      HasOneAnswer (leaf_by false L converts (LeafEncoding L) text)
  leaf_as_once converts text refuses =
      leaf_by_once false converts (LeafEncoding L) text
      (λ a b e f same h k. one_of_parts (LeafGives L) conversion_once a b e f same (refuses a e h) (refuses b f k))
      (λ v. written_same false (leaf_octets L v))

  leaf_once : (text : L.Value → List ℕ) → HasOneAnswer (leaf L text)
  leaf_once text = leaf_as_once (OfParts (LeafGives L)) text (λ a e h. h)

  lent_once : (content : T → CowSlice ℕ Global) (text : L.Value → List ℕ) → HasOneAnswer (lent_leaf L content text)
  lent_once content text = leaf_as_once (LendsContent L content) text (λ a e h. h.0)

  copying_once : (text : L.Value → List ℕ) → HasOneAnswer (copying_leaf L text)
  copying_once text =
      leaf_by_once true (OfParts (LeafConverts L)) (LeafEncoding L) text (one_of_copied L conversion_once)
      (λ v. written_same false (leaf_octets L v))

  refusing_once : (is_refused : L.Value → Truth) (refusal : Error) (text : L.Value → List ℕ) →
      HasOneAnswer (refusing_leaf L is_refused refusal text)
  refusing_once is_refused refusal text =
      leaf_by_once false (OfParts (LeafGives L)) (λ v. IsWrittenUnless (is_refused v) refusal (leaf_octets L v)) text
      (one_of_parts (LeafGives L) conversion_once) (λ v. unless_same (is_refused v) refusal (leaf_octets L v))

-- strings
strings_once : {K : Type 0} (number : ℕ) (IsText : List ℕ → Type 0) → number < 31 → is_container_number number ≡ false →
    ((octets : List ℕ) → IsText octets → IsUtf8 octets) → HasOneAnswer (strings K number IsText)
strings_once {K} number IsText small primitive utf8 = leaf_as_once whole_keeps (string_leaf {K = K} number IsText)
    (string_lawful number IsText small primitive utf8) (StringGives number IsText) in_hexadecimal (λ a e h. h.0)

coded_strings_once : {K : Type 0} (number : ℕ) (octets_of : ℕ → List ℕ) → number < 31 →
    is_container_number number ≡ false → IsCharacterCode octets_of → HasOneAnswer (coded_strings K number octets_of)
coded_strings_once {K} number octets_of small primitive is =
    copying_once whole_keeps (coded_string_leaf {K = K} number octets_of)
    (coded_string_lawful number octets_of small primitive is) in_hexadecimal

-- embedded presentation data values
data_values_once : HasOneAnswer data_values
data_values_once rule octets a b p q =
    readings_weaker _ (ShownAlike data_values) false shown a b
    (either_same pdv_element.Body pdv_value false (OfParts PdvGives) pdv_lawful.body_one
    (one_of_parts PdvGives (one_name but_text_keeps PdvGives pdv_one_refusal.one)) pdv_constraints pdv_element.Check
    (one_name whole_keeps pdv_constraints pdv_constraints_are.one)
    (λ p e h k. pdv_constraints_are.apart p e h k) rule octets a b p q)
  where
    shown : (x y : EmbeddedPdv) → pdv_value x ≡ pdv_value y → ShownAlike data_values x y
    shown x y same = record { text = ap pdv_text same; encoding = λ e f h k. rw (h, k) tt }

-- the end of contents
ends_once : HasOneAnswer ends
ends_once rule octets a b p q =
    readings_weaker _ (ShownAlike ends) false shown a b
    (ber_same (LeafBody end_leaf) end_leaf.value false (OfParts (LeafGives end_leaf))
    (leaf_lawful end_leaf end_lawful).body_one
    (one_of_parts (LeafGives end_leaf) (conversion_once whole_keeps end_leaf end_lawful)) octets a b p q)
  where
    shown : (x y : EndOfContent) → end_leaf.value x ≡ end_leaf.value y → ShownAlike ends x y
    shown x y same = record { text = refl; encoding = λ e f h k. rw (h, k) tt }

type_once : (t : TypeName) → HasOneAnswer (meaning_of t)
type_once U8 = integers_once pos (IsUnsigned 1) (UnsignedRefuses 1) (one_unsigned_refusal 1)
type_once U16 = integers_once pos (IsUnsigned 2) (UnsignedRefuses 2) (one_unsigned_refusal 2)
type_once U32 = integers_once pos (IsUnsigned 4) (UnsignedRefuses 4) (one_unsigned_refusal 4)
type_once U64 = integers_once pos (IsUnsigned 8) (UnsignedRefuses 8) (one_unsigned_refusal 8)
type_once U128 = integers_once pos (IsUnsigned 16) (UnsignedRefuses 16) (one_unsigned_refusal 16)
type_once I8 = integers_once (λ n. n) (IsSigned 1) (SignedRefuses 1) (one_signed_refusal 1)
type_once I16 = integers_once (λ n. n) (IsSigned 2) (SignedRefuses 2) (one_signed_refusal 2)
type_once I32 = integers_once (λ n. n) (IsSigned 4) (SignedRefuses 4) (one_signed_refusal 4)
type_once I64 = integers_once (λ n. n) (IsSigned 8) (SignedRefuses 8) (one_signed_refusal 8)
type_once I128 = integers_once (λ n. n) (IsSigned 16) (SignedRefuses 16) (one_signed_refusal 16)
type_once Any = elements_once
type_once Bool = leaf_once whole_keeps bool_leaf bool_lawful boolean_text
type_once Null = leaf_once whole_keeps null_leaf null_lawful (λ v. codes "null")
type_once Enumerated = leaf_once whole_keeps enumerated_leaf enumerated_lawful decimal
type_once Integer = lent_once whole_keeps any_integer_leaf any_integer_lawful content_slice in_hexadecimal
type_once Octets = lent_once whole_keeps octet_string_leaf octet_string_lawful cow_of in_hexadecimal
type_once Bits = lent_once whole_keeps bit_string_leaf bit_string_lawful (λ x. x.content) bit_string_text
type_once Eoc = ends_once
type_once VecU8 = alone_once false _ (vector_once _ (unsigned_once 1))
type_once VecU32 = alone_once false _ (vector_once _ (unsigned_once 4))
type_once VecBool = alone_once false _ (vector_once _ (leaf_item_once whole_keeps bool_leaf boolean_text bool_lawful))
type_once VecVecU8 = alone_once false _ (vector_once _ (vector_once _ (unsigned_once 1)))
type_once SetOfU8 = collection_once _ (unordered_set_once _ (unsigned_once 1))
type_once BTreeSetU8 = collection_once _ (ordered_unsigned_once 1)
type_once Sequence = lent_once whole_keeps sequence_leaf sequence_lawful (λ x. x.content) in_hexadecimal
type_once Set = lent_once whole_keeps set_leaf set_lawful (λ x. x.content) in_hexadecimal
type_once SeqOfU32 = alone_once false _ (sequence_of_once _ (unsigned_once 4))
type_once Explicit0U32 = alone_once false _ (explicit_once 0 _ (unsigned_once 4))
type_once Explicit31U8 = alone_once false _ (explicit_once 31 _ (unsigned_once 1))
type_once VecExplicit31U8 = alone_once false _ (vector_once _ (explicit_once 31 _ (unsigned_once 1)))
type_once OptU8 = optional_once 2 _ (integers_once pos (IsUnsigned 1) (UnsignedRefuses 1) (one_unsigned_refusal 1))
type_once HashSetI8 = collection_once _ (hashed_signed_once 1)
type_once Implicit1VecU16 = alone_once false _ (implicit_vector_once 1 _ (unsigned_once 2))
type_once Oid = identifiers_once
type_once Utf8 = strings_once 12 IsUtf8 (lit< tt) refl (λ octets is. is)
type_once Numeric = strings_once 18 (AllIn is_numeric) (lit< tt) refl (in_set_utf8 is_numeric numeric_ascii)
type_once Printable = strings_once 19 (AllIn is_printable) (lit< tt) refl (in_set_utf8 is_printable printable_ascii)
type_once Teletex = strings_once 20 (AllIn is_visible) (lit< tt) refl (in_set_utf8 is_visible visible_ascii)
type_once Videotex = strings_once 21 (AllIn is_visible) (lit< tt) refl (in_set_utf8 is_visible visible_ascii)
type_once Ia5 = strings_once 22 (AllIn is_ascii) (lit< tt) refl (in_set_utf8 is_ascii ascii_ascii)
type_once Graphic = strings_once 25 (AllIn is_ascii) (lit< tt) refl (in_set_utf8 is_ascii ascii_ascii)
type_once Visible = strings_once 26 (AllIn is_visible) (lit< tt) refl (in_set_utf8 is_visible visible_ascii)
type_once General = strings_once 27 (AllIn is_ascii) (lit< tt) refl (in_set_utf8 is_ascii ascii_ascii)
type_once Descriptor = strings_once 7 (AllIn is_ascii) (lit< tt) refl (in_set_utf8 is_ascii ascii_ascii)
type_once Universal = coded_strings_once 28 ucs4_octets_of (lit< tt) refl ucs4_code
type_once Bmp = coded_strings_once 30 utf16_octets_of (lit< tt) refl utf16_code
type_once UtcTime =
    refusing_once but_text_keeps utc_time_leaf utc_time_lawful utc_time_refused InvalidDateTime utc_time_shown
type_once Pdv = data_values_once
type_once X509Name = names_once
type_once GenTime = refusing_once but_text_keeps generalized_time_leaf generalized_time_lawful generalized_time_refused
    InvalidDateTime generalized_time_shown

allocates_none : (t : TypeName) → name_allocates t ≡ false →
    ((meaning_of t).reading_allocates ≡ false) × ((meaning_of t).writing_allocates ≡ false)
allocates_none t none = grind arith

-- A line.

-- the type that has a name
named : List ℕ → Option TypeName
named name = find (λ t. pointwise eqb name (name_of_type t)) types

named_by_its_name : (t : TypeName) → named (name_of_type t) ≡ Some t
unfolding named
named_by_its_name t = grind arith

one_type : (name : List ℕ) (t s : TypeName) → name ≡ name_of_type t → name ≡ name_of_type s → t ≡ s
one_type name t s a b =
    let e : Some t ≡ Some s = sym (named_by_its_name t) ∙ ap named (sym a ∙ b) ∙ named_by_its_name s in
    cc

asked : (line : List ℕ) (rule : Rule) (name octets text other : List ℕ) (t : TypeName) →
    IsRequest line rule name octets → Names rule name t → (text ≡ other) ⊎ DifferByMemory (meaning_of t) text other →
    AreAlike line text other
asked line rule name octets text other t r n (inl same) = inl same
asked line rule name octets text other t r n (inr memory) = inr (t, (rule, (name, octets, r, n)), memory)

request_once : (line : List ℕ) (rule : Rule) (name octets text other : List ℕ) → IsRequest line rule name octets →
    IsRequestAnswer rule name octets text → IsRequestAnswer rule name octets other → AreAlike line text other
request_once line rule name octets text other r (inl (none, e)) (inl (nor, f)) = inl (e ∙ sym f)
request_once line rule name octets text other r (inl (none, e)) (inr (t, is, a)) = absurd (none t is)
request_once line rule name octets text other r (inr (t, is, a)) (inl (none, e)) = absurd (none t is)
request_once line rule name octets text other r (inr (t, is, a)) (inr (s, too, b)) =
    asked line rule name octets text other s r too
    (answers_alike (meaning_of s) (type_once s) rule octets text other
    (subst (λ (x : TypeName). IsTypeAnswer rule x octets text) (one_type name t s is.0 too.0) a) b)

refused_or_answered : (line text : List ℕ) → IsRefusedLine line → IsAnswered line text → ⊥
refused_or_answered line text (inl long) a = omega (arith, long, a.short)
refused_or_answered line text (inr form) a = form a.rule a.name a.octets a.request

pub answered_alike : (line text other : List ℕ) → IsAnswer line text → IsAnswer line other → AreAlike line text other
answered_alike line text other (inl a) (inl b) = inl (a.1 ∙ sym b.1)
answered_alike line text other (inl a) (inr b) = absurd (refused_or_answered line other a.0 b)
answered_alike line text other (inr a) (inl b) = absurd (refused_or_answered line text b.0 a)
answered_alike line text other (inr a) (inr b) =
    let one = requests_same line a.name b.name a.octets b.octets a.rule b.rule a.request b.request in
    request_once line b.rule b.name b.octets text other b.request
    (subst (λ (x : Rule). IsRequestAnswer x b.name b.octets text) one.0 (subst (λ (x : List ℕ). IsRequestAnswer a.rule x
    b.octets text) one.1 (subst (λ (x : List ℕ). IsRequestAnswer a.rule a.name x text) one.2 a.answer)))
    b.answer

-- nothing tells of refused memory where none is taken
no_difference : (m : Meaning) (text other : List ℕ) → (m.reading_allocates ≡ false) × (m.writing_allocates ≡ false) →
    DifferByMemory m text other → ⊥
no_difference m text other (reading, writing) (inl (inl (takes, is))) = cc
no_difference m text other (reading, writing) (inl (inr (takes, rest))) = cc
no_difference m text other (reading, writing) (inr (inl (takes, is))) = cc
no_difference m text other (reading, writing) (inr (inr (takes, rest))) = cc

pub answered_once : (line text other : List ℕ) → TakesNoMemory line → IsAnswer line text → IsAnswer line other →
    text ≡ other
answered_once line text other none a b = once (answered_alike line text other a b)
  where
    once : AreAlike line text other → text ≡ other
    once (inl same) = same
    once (inr (t, asks, memory)) = absurd (no_difference (meaning_of t) text other (none t asks) memory)

pub takes_no_memory : (line : List ℕ) → AsksForNoneThatAllocates line → TakesNoMemory line
takes_no_memory line none t asks = allocates_none t (none t asks)
