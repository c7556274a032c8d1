-- The names of types, and what each stands for.
use Rattle.std.specs.Prelude.{◌≡◌, Bool as Truth, List, ◌++◌, ℕ, ℤ, pos, codes, decimal, true, false, None, Result, Ok}
use Rattle.std.specs.Prelude.{IsUtf8, nat_eq}
use Rattle.std.specs.Char.{is_ascii}
use Rattle.std.specs.declared.alloc.Global.{Global}
use Rattle.std.specs.declared.vec.Vec.{Vec}
use Rattle.std.specs.declared.cmp.Ordering.{Ordering}
use Rattle.std.specs.BTreeSet.{BTreeSet, IsFromIterResult}
use Rattle.std.specs.HashSet.{HashSet, IsFromIterResult as IsHashedOf}
use Rattle.std.proofs.Common.{BuildHasherDefault, FoldHasher}
use Rattle.std.specs.Fmt.{signed_decimal}
use Rattle.std.specs.Ordering.{eq_by_cmp, int_cmp, nat_cmp}
use Rattle.x690.specs.Characters.{ucs4_octets_of, utf16_octets_of}
use Rattle.x690.specs.Sets.{AllIn, is_numeric, is_printable, is_visible}
use Rattle.x690.specs.Signed.{IsSigned}
use Rattle.x690.specs.Times.{utc_time_shown, generalized_time_shown}
use Rattle.asn1_rs.specs.Kinds.Writing.{universal_header}
use Rattle.asn1_headers.specs.declared.error.Error.{Error}
use Rattle.asn1_headers.specs.declared.error.Error.TheVariants.{InvalidDateTime}
use Rattle.asn1_rs.specs.declared.asn1_types.any.Any.{Any as AnyElement}
use Rattle.asn1_rs.specs.declared.asn1_types.end_of_content.EndOfContent.{EndOfContent}
use Rattle.asn1_rs.specs.BitString.{bit_string_leaf}
use Rattle.asn1_rs.specs.Boolean.{bool_leaf}
use Rattle.asn1_rs.specs.EndOfContent.{end_leaf}
use Rattle.asn1_rs.specs.Enumerated.{enumerated_leaf}
use Rattle.asn1_rs.specs.Integer.Octets.{any_integer_leaf, content_slice}
use Rattle.asn1_rs.specs.Leaf.{Leaf, LeafBody, LeafGives, LeafConverts, LendsContent, leaf_element}
use Rattle.asn1_rs.specs.declared.asn1_types.set.set_of.SetOf.{SetOf}
use Rattle.asn1_rs.specs.Set.{HasItems, ascends, is_other, items_of, member_grammar, multiset_grammar}
use Rattle.asn1_rs.specs.Null.{null_leaf}
use Rattle.asn1_rs.specs.OctetString.{octet_string_leaf, cow_of}
use Rattle.asn1_rs.specs.declared.asn1_types.oid.Oid.{Oid as Identifier}
use Rattle.asn1_rs.specs.declared.asn1_types.embedded_pdv.EmbeddedPdv.{EmbeddedPdv}
use Rattle.asn1_rs.specs.EmbeddedPdv.{PdvGives, pdv_constraints, pdv_element, pdv_value}
use Rattle.asn1_rs.specs.Oid.{OidGives, oid_constraints, oid_element, oid_header, oid_octets, oid_value}
use Rattle.asn1_rs.specs.declared.asn1_types.strings.kinds.DescriptorKind.{DescriptorKind}
use Rattle.asn1_rs.specs.declared.asn1_types.strings.kinds.Utf8Kind.{Utf8Kind}
use Rattle.asn1_rs.specs.declared.asn1_types.strings.kinds.NumericKind.{NumericKind}
use Rattle.asn1_rs.specs.declared.asn1_types.strings.kinds.PrintableKind.{PrintableKind}
use Rattle.asn1_rs.specs.declared.asn1_types.strings.kinds.TeletexKind.{TeletexKind}
use Rattle.asn1_rs.specs.declared.asn1_types.strings.kinds.VideotexKind.{VideotexKind}
use Rattle.asn1_rs.specs.declared.asn1_types.strings.kinds.Ia5Kind.{Ia5Kind}
use Rattle.asn1_rs.specs.declared.asn1_types.strings.kinds.GraphicKind.{GraphicKind}
use Rattle.asn1_rs.specs.declared.asn1_types.strings.kinds.VisibleKind.{VisibleKind}
use Rattle.asn1_rs.specs.declared.asn1_types.strings.kinds.GeneralKind.{GeneralKind}
use Rattle.asn1_rs.specs.declared.asn1_types.strings.kinds.UniversalKind.{UniversalKind}
use Rattle.asn1_rs.specs.declared.asn1_types.strings.kinds.BmpKind.{BmpKind}
use Rattle.asn1_rs.specs.Strings.{StringGives, string_leaf}
use Rattle.asn1_rs.specs.CodedStrings.{coded_string_leaf}
use Rattle.asn1_rs.specs.Times.{utc_time_leaf, utc_time_refused, generalized_time_leaf, generalized_time_refused}
use Rattle.asn1_rs.specs.declared.asn1_types.tagged.Explicit.{Explicit}
use Rattle.asn1_rs.specs.declared.asn1_types.tagged.Implicit.{Implicit}
use Rattle.asn1_rs.specs.declared.asn1_types.tagged.TaggedValue.{TaggedValue}
use Rattle.asn1_rs.specs.Tagged.Explicit.{ExplicitGives, ExplicitConverts, explicit_grammar}
use Rattle.asn1_rs.specs.Tagged.Implicit.{ImplicitConverts, implicit_grammar}
use Rattle.asn1_rs.specs.Kept.{sequence_leaf, set_leaf}
use Rattle.asn1_rs.specs.declared.asn1_types.sequence.sequence_of.SequenceOf.{SequenceOf}
use Rattle.asn1_rs.specs.Sequence.SequenceOf.{IsSequenceOf, sequence_items}
use Rattle.std.specs.declared.borrow.CowSlice.{CowSlice}
use Rattle.asn1_rs.specs.Any.{IsTheElement, IsDefiniteOr}
use Rattle.asn1_rs.specs.Traits.{OfParts, BerGives, DerGives, PassesAll}
use Rattle.asn1_rs.specs.Checks.{has_number}
use Rattle.asn1_rs.specs.Lists.{IsListOr, ListConverts, has_items as IsMadeOf, list_grammar}
use Rattle.asn1_rs.specs.Kinds.{item_grammar}
use Rattle.asn1_rs.specs.Grammar.Item.{ItemGrammar, ber_words}
use Rattle.asn1_rs.specs.Any.Value.{element_of, ElementBody, ElementCheck, ElementForm}
use Rattle.asn1_rs.specs.Grammar.{BerWord, DerWord}
use Rattle.asn1_rs.specs.Integer.{IntegerCheck, IntegerCheckGives, IntegerBody, IntegerForm, integer_element}
use Rattle.asn1_rs.specs.Integer.{IntegerGives, IsUnsigned, UnsignedGives, UnsignedRefuses, SignedGives, SignedRefuses}
use Rattle.asn1_rs.specs.ToDer.{whole_refuses}
use Rattle.x509_name.specs.Name.{NameGives, name_item, name_octets, name_value, name_writing, rows_of}
use Rattle.x509_name.specs.declared.name.Name.{Name}
use Rattle.asn1vec_answers.specs.declared.request.Rule.{Rule}
use Rattle.asn1vec_answers.specs.declared.types.TypeName.{TypeName}
use Rattle.asn1vec_answers.specs.declared.types.TypeName.TheVariants.{U8, U16, U32, U64, U128, I8, I16, I32, I64, I128}
use Rattle.asn1vec_answers.specs.declared.types.TypeName.TheVariants.{Any, Bool, Null, Enumerated, Integer, Octets}
use Rattle.asn1vec_answers.specs.declared.types.TypeName.TheVariants.{Bits, Eoc, VecU8, VecU32, VecBool, VecVecU8}
use Rattle.asn1vec_answers.specs.declared.types.TypeName.TheVariants.{SetOfU8, BTreeSetU8, Sequence, Set, SeqOfU32}
use Rattle.asn1vec_answers.specs.declared.types.TypeName.TheVariants.{Explicit0U32, Explicit31U8, VecExplicit31U8}
use Rattle.asn1vec_answers.specs.declared.types.TypeName.TheVariants.{OptU8, HashSetI8, Implicit1VecU16, Oid, Utf8}
use Rattle.asn1vec_answers.specs.declared.types.TypeName.TheVariants.{Numeric, Printable, Teletex, Videotex, Ia5}
use Rattle.asn1vec_answers.specs.declared.types.TypeName.TheVariants.{Graphic, Visible, General, Descriptor, Universal}
use Rattle.asn1vec_answers.specs.declared.types.TypeName.TheVariants.{Bmp, UtcTime, GenTime, Pdv, X509Name}
use Rattle.asn1vec_answers.specs.Meaning.{Meaning, ReadsByEither, is_ber, is_der, optional}
use Rattle.asn1vec_answers.specs.Shown.{CameOfWriting, Encoding, IsReadAnswer, IsWritten, IsWrittenUnless, ReadingByBer}
use Rattle.asn1vec_answers.specs.Shown.{ReadingByDer, Reading, Same}
use Rattle.asn1vec_answers.specs.Shown.{StrictEncoding, StrictEncodingIfAny, bit_string_text, any_text, oid_text}
use Rattle.asn1vec_answers.specs.Shown.{in_hexadecimal, sorted_keys, list_text, distinguished_name_text, pdv_text}
use Rattle.asn1vec_answers.specs.Shown.{boolean_text}

-- the name of a type as a line has it
abbrev pub name_of_type : TypeName → List ℕ
name_of_type U8 = codes "u8"
name_of_type U16 = codes "u16"
name_of_type U32 = codes "u32"
name_of_type U64 = codes "u64"
name_of_type U128 = codes "u128"
name_of_type I8 = codes "i8"
name_of_type I16 = codes "i16"
name_of_type I32 = codes "i32"
name_of_type I64 = codes "i64"
name_of_type I128 = codes "i128"
name_of_type Any = codes "any"
name_of_type Bool = codes "bool"
name_of_type Null = codes "null"
name_of_type Enumerated = codes "enumerated"
name_of_type Integer = codes "integer"
name_of_type Octets = codes "octets"
name_of_type Bits = codes "bits"
name_of_type Eoc = codes "eoc"
name_of_type VecU8 = codes "vec.u8"
name_of_type VecU32 = codes "vec.u32"
name_of_type VecBool = codes "vec.bool"
name_of_type VecVecU8 = codes "vec.vec.u8"
name_of_type SetOfU8 = codes "setof.u8"
name_of_type BTreeSetU8 = codes "btreeset.u8"
name_of_type Sequence = codes "sequence"
name_of_type Set = codes "set"
name_of_type SeqOfU32 = codes "seqof.u32"
name_of_type Explicit0U32 = codes "explicit0.u32"
name_of_type Explicit31U8 = codes "explicit31.u8"
name_of_type VecExplicit31U8 = codes "vec.explicit31.u8"
name_of_type OptU8 = codes "opt.u8"
name_of_type HashSetI8 = codes "hashset.i8"
name_of_type Implicit1VecU16 = codes "implicit1.vec.u16"
name_of_type Oid = codes "oid"
name_of_type Utf8 = codes "utf8"
name_of_type Numeric = codes "numeric"
name_of_type Printable = codes "printable"
name_of_type Teletex = codes "teletex"
name_of_type Videotex = codes "videotex"
name_of_type Ia5 = codes "ia5"
name_of_type Graphic = codes "graphic"
name_of_type Visible = codes "visible"
name_of_type General = codes "general"
name_of_type Descriptor = codes "descriptor"
name_of_type Universal = codes "universal"
name_of_type Bmp = codes "bmp"
name_of_type UtcTime = codes "utctime"
name_of_type GenTime = codes "gentime"
name_of_type Pdv = codes "pdv"
name_of_type X509Name = codes "x509name"

-- Integers that are there by either rule. Each is shown in decimals, with the strict encoding that each integer of the
-- type has.
abbrev pub integers : {T : Type 0} → (T → ℤ) → (ℤ → Type 0) → (List ℕ → Error → Type 0) → Meaning
integers {T} number Holds refuses = record {
  T = T;
  is_there = λ rule. true;
  Reads = ReadsByEither (BerWord (IntegerBody Holds)) (DerWord IntegerCheck (IntegerBody Holds)) number false
      (BerGives (OfParts (IntegerGives number Holds refuses)) Same)
      (DerGives IntegerCheckGives (OfParts (IntegerGives number Holds refuses)) Same);
  text_of = λ x. signed_decimal (number x);
  Encodes = λ x. StrictEncoding (IntegerForm Holds) false (number x);
  reading_allocates = false;
  writing_allocates = false;
}

-- the unsigned integers of so many octets
abbrev pub unsigned : ℕ → Meaning
unsigned size = integers {T = ℕ} pos (IsUnsigned size) (UnsignedRefuses size)

-- and the signed ones
abbrev pub signed_integers : ℕ → Meaning
signed_integers size = integers {T = ℤ} (λ n. n) (IsSigned size) (SignedRefuses size)

-- Elements of any type, which are there by either rule. Each is shown by what it says, and with its strict encoding.
abbrev pub elements : Meaning
elements = record {
  T = AnyElement;
  is_there = λ rule. true;
  Reads = ReadsByEither (BerWord ElementBody) (DerWord ElementCheck ElementBody) element_of false
      (BerGives IsTheElement Same) (DerGives IsDefiniteOr IsTheElement Same);
  text_of = λ a. any_text (element_of a);
  Encodes = λ a. StrictEncoding ElementForm false (element_of a);
  reading_allocates = false;
  writing_allocates = false;
}

-- the octets that are written for a value of a leaf type, in DER form or not
abbrev pub leaf_octets : {T : Type 0} (L : Leaf T) → L.Value → List ℕ
leaf_octets L v = universal_header L.number (L.octets v) ++ L.octets v

-- what may be said of its encoding: those octets, or why writing them was refused
abbrev pub LeafEncoding : {T : Type 0} (L : Leaf T) → L.Value → Encoding → Type 0
LeafEncoding L v = IsWritten false (leaf_octets L v)

-- A leaf type that is there by either rule. Its reading may allocate, and its conversion may answer so. It is shown by
-- its value, and this may be said of the encoding of the value.
abbrev pub leaf_by : {T : Type 0} (allocates : Truth) (L : Leaf T) → (AnyElement → Result T Error → Type 0) →
    (L.Value → Encoding → Type 0) → (L.Value → List ℕ) → Meaning
leaf_by {T} allocates L converts Encodes text = record {
  T = T;
  is_there = λ rule. true;
  Reads = ReadsByEither (BerWord (LeafBody L)) (DerWord (λ p. L.constraints p (Ok tt)) (LeafBody L)) L.value allocates
      (BerGives converts Same) (DerGives L.constraints converts Same);
  text_of = λ x. text (L.value x);
  Encodes = λ x. Encodes (L.value x);
  reading_allocates = allocates;
  writing_allocates = false;
}

-- one that looks at the parts of an element alone
abbrev pub leaf : {T : Type 0} (L : Leaf T) → (L.Value → List ℕ) → Meaning
leaf L = leaf_by false L (OfParts (LeafGives L)) (LeafEncoding L)

-- one that lends its contents octets
abbrev pub lent_leaf : {T : Type 0} (L : Leaf T) → (T → CowSlice ℕ Global) → (L.Value → List ℕ) → Meaning
lent_leaf L content = leaf_by false L (LendsContent L content) (LeafEncoding L)

-- one that copies what it answers
abbrev pub copying_leaf : {T : Type 0} (L : Leaf T) → (L.Value → List ℕ) → Meaning
copying_leaf L = leaf_by true L (OfParts (LeafConverts L)) (LeafEncoding L)

-- one some of whose values are refused in writing for what they are, with this refusal
abbrev pub refusing_leaf : {T : Type 0} (L : Leaf T) → (L.Value → Truth) → Error → (L.Value → List ℕ) → Meaning
refusing_leaf L is_refused refusal =
    leaf_by false L (OfParts (LeafGives L)) (λ v. IsWrittenUnless (is_refused v) refusal (leaf_octets L v))

-- Strings with this tag number. Their contents octets are a text that the type has, and the conversion lends it. They
-- are shown by the octets of the text in UTF-8.
abbrev pub strings : Type 0 → ℕ → (List ℕ → Type 0) → Meaning
strings K number IsText =
    let L = string_leaf {K = K} number IsText in
    leaf_by false L (StringGives number IsText) (LeafEncoding L) in_hexadecimal

-- the same of those whose text is decoded, by the octets of a character
abbrev pub coded_strings : Type 0 → ℕ → (ℕ → List ℕ) → Meaning
coded_strings K number octets_of = copying_leaf (coded_string_leaf {K = K} number octets_of) in_hexadecimal

-- Times. Writing refuses those whose fields have no strict text. They are shown by the strict text of their fields.
abbrev pub times : {T : Type 0} (L : Leaf T) → (L.Value → Truth) → (L.Value → List ℕ) → Meaning
times L is_refused = refusing_leaf L is_refused InvalidDateTime

-- object identifiers, there by either rule: with the octets that are written for each, in DER form or not
abbrev pub identifiers : Meaning
identifiers = record {
  T = Identifier;
  is_there = λ rule. true;
  Reads = ReadsByEither (BerWord oid_element.Body) (DerWord oid_element.Check oid_element.Body) oid_value false
      (BerGives OidGives Same) (DerGives oid_constraints OidGives Same);
  text_of = λ x. oid_text (oid_value x);
  Encodes = λ x. IsWritten false (oid_header x ++ oid_octets x);
  reading_allocates = false;
  writing_allocates = false;
}

-- embedded presentation data values, there by either rule; they have no writer
abbrev pub data_values : Meaning
data_values = record {
  T = EmbeddedPdv;
  is_there = λ rule. true;
  Reads = ReadsByEither (BerWord pdv_element.Body) (DerWord pdv_element.Check pdv_element.Body) pdv_value false
      (BerGives (OfParts PdvGives) Same) (DerGives pdv_constraints (OfParts PdvGives) Same);
  text_of = λ x. pdv_text (pdv_value x);
  Encodes = λ x encoding. encoding ≡ None;
  reading_allocates = false;
  writing_allocates = false;
}

-- the end of contents, there by BER alone; it has no writer
abbrev pub ends : Meaning
ends = record {
  T = EndOfContent;
  is_there = λ rule. is_ber rule;
  Reads = λ rule.
      ReadingByBer (BerWord (LeafBody end_leaf)) end_leaf.value false (BerGives (OfParts (LeafGives end_leaf)) Same);
  text_of = λ x. codes "eoc";
  Encodes = λ x encoding. encoding ≡ None;
  reading_allocates = false;
  writing_allocates = false;
}

-- What there is to say of a type of items. It has values and grammars, answers of its readers, and a text for an item.
pub record Item : Type 1 where
  pub T : Type 0
  pub grammar : ItemGrammar T
  pub ber_gives : List ℕ → Reading T → Type 0
  pub der_gives : List ℕ → Reading T → Type 0
  pub text_of : T → List ℕ

-- the unsigned integers of so many octets
abbrev pub unsigned_item : ℕ → Item
unsigned_item size = record {
  T = ℕ;
  grammar = item_grammar (integer_element pos (IsUnsigned size));
  ber_gives = BerGives (OfParts (UnsignedGives size)) Same;
  der_gives = DerGives IntegerCheckGives (OfParts (UnsignedGives size)) Same;
  text_of = decimal;
}

-- and the signed ones
abbrev pub signed_item : ℕ → Item
signed_item size = record {
  T = ℤ;
  grammar = item_grammar (integer_element (λ n. n) (IsSigned size));
  ber_gives = BerGives (OfParts (SignedGives size)) Same;
  der_gives = DerGives IntegerCheckGives (OfParts (SignedGives size)) Same;
  text_of = signed_decimal;
}

-- the values of a leaf type
abbrev pub leaf_item : {T : Type 0} (L : Leaf T) → (L.Value → List ℕ) → Item
leaf_item {T} L text = record {
  T = T;
  grammar = item_grammar (leaf_element L);
  ber_gives = BerGives (OfParts (LeafGives L)) Same;
  der_gives = DerGives L.constraints (OfParts (LeafGives L)) Same;
  text_of = λ x. text (L.value x);
}

-- Sequences of items, in whatever holds them. By DER the constructed bit is not looked at.
abbrev pub sequence : {W : Type 0} (I : Item) → (W → List I.T) → (List I.T → W → Type 0) → Item
sequence {W} I items holds = record {
  T = W;
  grammar = list_grammar 16 items I.grammar;
  ber_gives = BerGives (OfParts (ListConverts (IsListOr 16) holds I.ber_gives Same)) Same;
  der_gives = DerGives PassesAll (OfParts (ListConverts (has_number 16) holds I.der_gives Same)) Same;
  text_of = λ s. list_text I.text_of (items s);
}

-- vectors of items
abbrev pub vector : Item → Item
vector I = sequence {W = Vec I.T Global} I (λ v. v.items) IsMadeOf

-- `SequenceOf` of items
abbrev pub sequence_of : Item → Item
sequence_of I = sequence {W = SequenceOf I.T} I sequence_items IsSequenceOf

-- Sets in which an item may stand more than once. They keep the order in which they were read. They are equal in any
-- order.
abbrev pub unordered_set : Item → Item
unordered_set I = record {
  T = SetOf I.T;
  grammar = multiset_grammar items_of I.grammar;
  ber_gives = BerGives (OfParts (ListConverts (IsListOr 17) HasItems I.ber_gives Same)) Same;
  der_gives = DerGives PassesAll (OfParts (ListConverts (has_number 17) HasItems I.der_gives Same)) Same;
  text_of = λ s. list_text I.text_of (items_of s);
}

-- Sets whose items ascend, each once. They have the items that were read. Each item is below those behind it.
abbrev pub ordered_set : (I : Item) → (I.T → I.T → Ordering) → (I.T → I.T → Truth) → Item
ordered_set I cmp eq = record {
  T = BTreeSet I.T;
  grammar = member_grammar (ascends cmp eq) (λ s. s.keys) I.grammar;
  ber_gives =
      BerGives (OfParts (ListConverts (IsListOr 17) (λ items s. IsFromIterResult cmp items s) I.ber_gives Same)) Same;
  der_gives = DerGives PassesAll
      (OfParts (ListConverts (IsListOr 17) (λ items s. IsFromIterResult cmp items s) I.der_gives Same)) Same;
  text_of = λ s. list_text I.text_of s.keys;
}

-- sets whose items stand in no order, each once: shown in ascending order
abbrev pub hashed_set : (I : Item) → (I.T → I.T → Ordering) → Item
hashed_set I cmp = record {
  T = HashSet I.T (BuildHasherDefault FoldHasher);
  grammar = member_grammar (is_other (eq_by_cmp cmp)) (λ s. s.keys) I.grammar;
  ber_gives = BerGives
      (OfParts (ListConverts (IsListOr 17) (λ items s. IsHashedOf (eq_by_cmp cmp) items s) I.ber_gives Same)) Same;
  der_gives = DerGives PassesAll
      (OfParts (ListConverts (IsListOr 17) (λ items s. IsHashedOf (eq_by_cmp cmp) items s) I.der_gives Same)) Same;
  text_of = λ s. list_text I.text_of (sorted_keys cmp s.keys);
}

-- values under an explicit, context-specific tag of this number: shown as without it
abbrev pub explicit : ℕ → Item → Item
explicit number I = record {
  T = TaggedValue I.T Error Explicit 2 number;
  grammar = explicit_grammar 2 number (λ t. t.inner) I.grammar;
  ber_gives = BerGives (OfParts (ExplicitConverts 2 number (λ t. t.inner) I.ber_gives Same)) Same;
  der_gives = ExplicitGives 2 number (λ t. t.inner) I.der_gives Same;
  text_of = λ t. I.text_of t.inner;
}

-- Sequences under an implicit, context-specific tag of this number. By DER too their items are read by BER.
abbrev pub implicit_vector_takes : (number : ℕ) (I : Item) → AnyElement →
    Result (TaggedValue (Vec I.T Global) Error Implicit 2 number) Error → Type 0
implicit_vector_takes number I =
    ImplicitConverts 2 number (λ t. t.inner) (record { 0 = 16 })
    (OfParts (ListConverts (IsListOr 16) IsMadeOf I.ber_gives Same)) Same

-- vectors of items under an implicit tag
abbrev pub implicit_vector : ℕ → Item → Item
implicit_vector number I = record {
  T = TaggedValue (Vec I.T Global) Error Implicit 2 number;
  grammar = implicit_grammar 2 number 16 (λ t. t.inner) (vector I).grammar;
  ber_gives = BerGives (implicit_vector_takes number I) Same;
  der_gives = DerGives PassesAll (implicit_vector_takes number I) Same;
  text_of = λ t. (vector I).text_of t.inner;
}

-- Items that are there by either rule, and whose writer may allocate. Each is shown with the strict encoding of the
-- value, unless that is too long.
abbrev pub alone : Truth → Item → Meaning
alone allocates I = record {
  T = I.T;
  is_there = λ rule. true;
  Reads = ReadsByEither (ber_words I.grammar) I.grammar.Der I.grammar.value I.grammar.allocates I.ber_gives I.der_gives;
  text_of = I.text_of;
  Encodes = λ x. StrictEncodingIfAny I.grammar.Form allocates (I.grammar.value x);
  reading_allocates = I.grammar.allocates;
  writing_allocates = allocates;
}

-- sets: shown by their items, and sorted in memory
abbrev pub collection : Item → Meaning
collection = alone true

-- Names of X.509, which are there by DER alone. They are shown by their attributes, in the order in which these were
-- read. What is written for a name stands behind them, in DER form or not. A name with a relative name without
-- attributes would be refused; no such name is read.
abbrev pub names : Meaning
names = record {
  T = Name;
  is_there = λ rule. is_der rule;
  Reads = λ rule. ReadingByDer name_item.Der name_value true NameGives;
  text_of = λ n. distinguished_name_text (rows_of n);
  Encodes = λ n. CameOfWriting true (name_octets n) (whole_refuses name_writing n);
  reading_allocates = true;
  writing_allocates = true;
}

-- what the name of a type stands for
abbrev pub meaning_of : TypeName → Meaning
meaning_of U8 = unsigned 1
meaning_of U16 = unsigned 2
meaning_of U32 = unsigned 4
meaning_of U64 = unsigned 8
meaning_of U128 = unsigned 16
meaning_of I8 = signed_integers 1
meaning_of I16 = signed_integers 2
meaning_of I32 = signed_integers 4
meaning_of I64 = signed_integers 8
meaning_of I128 = signed_integers 16
meaning_of Any = elements
meaning_of Bool = leaf bool_leaf boolean_text
meaning_of Null = leaf null_leaf (λ v. codes "null")
meaning_of Enumerated = leaf enumerated_leaf decimal
meaning_of Integer = lent_leaf any_integer_leaf content_slice in_hexadecimal
meaning_of Octets = lent_leaf octet_string_leaf cow_of in_hexadecimal
meaning_of Bits = lent_leaf bit_string_leaf (λ x. x.content) bit_string_text
meaning_of Eoc = ends
meaning_of VecU8 = alone false (vector (unsigned_item 1))
meaning_of VecU32 = alone false (vector (unsigned_item 4))
meaning_of VecBool = alone false (vector (leaf_item bool_leaf boolean_text))
meaning_of VecVecU8 = alone false (vector (vector (unsigned_item 1)))
meaning_of SetOfU8 = collection (unordered_set (unsigned_item 1))
meaning_of BTreeSetU8 = collection (ordered_set (unsigned_item 1) nat_cmp nat_eq)
meaning_of Sequence = lent_leaf sequence_leaf (λ x. x.content) in_hexadecimal
meaning_of Set = lent_leaf set_leaf (λ x. x.content) in_hexadecimal
meaning_of SeqOfU32 = alone false (sequence_of (unsigned_item 4))
meaning_of Explicit0U32 = alone false (explicit 0 (unsigned_item 4))
meaning_of Explicit31U8 = alone false (explicit 31 (unsigned_item 1))
meaning_of VecExplicit31U8 = alone false (vector (explicit 31 (unsigned_item 1)))
meaning_of OptU8 = optional 2 (unsigned 1)
meaning_of HashSetI8 = collection (hashed_set (signed_item 1) int_cmp)
meaning_of Implicit1VecU16 = alone false (implicit_vector 1 (unsigned_item 2))
meaning_of Oid = identifiers
meaning_of Utf8 = strings Utf8Kind 12 IsUtf8
meaning_of Numeric = strings NumericKind 18 (AllIn is_numeric)
meaning_of Printable = strings PrintableKind 19 (AllIn is_printable)
meaning_of Teletex = strings TeletexKind 20 (AllIn is_visible)
meaning_of Videotex = strings VideotexKind 21 (AllIn is_visible)
meaning_of Ia5 = strings Ia5Kind 22 (AllIn is_ascii)
meaning_of Graphic = strings GraphicKind 25 (AllIn is_ascii)
meaning_of Visible = strings VisibleKind 26 (AllIn is_visible)
meaning_of General = strings GeneralKind 27 (AllIn is_ascii)
meaning_of Descriptor = strings DescriptorKind 7 (AllIn is_ascii)
meaning_of Universal = coded_strings UniversalKind 28 ucs4_octets_of
meaning_of Bmp = coded_strings BmpKind 30 utf16_octets_of
meaning_of UtcTime = times utc_time_leaf utc_time_refused utc_time_shown
meaning_of GenTime = times generalized_time_leaf generalized_time_refused generalized_time_shown
meaning_of Pdv = data_values
meaning_of X509Name = names

-- The names whose readers or writers allocate. These are names of lists and sets, of names of X.509, and of strings
-- whose text is decoded.
abbrev pub name_allocates : TypeName → Truth
name_allocates VecU8 = true
name_allocates VecU32 = true
name_allocates VecBool = true
name_allocates VecVecU8 = true
name_allocates SetOfU8 = true
name_allocates BTreeSetU8 = true
name_allocates SeqOfU32 = true
name_allocates VecExplicit31U8 = true
name_allocates HashSetI8 = true
name_allocates Implicit1VecU16 = true
name_allocates Universal = true
name_allocates Bmp = true
name_allocates X509Name = true
name_allocates _ = false

-- the name is that of the type, and is there by the rule
abbrev pub Names : Rule → List ℕ → TypeName → Type 0
Names rule name t = (name ≡ name_of_type t) × ((meaning_of t).is_there rule ≡ true)

-- no type has the name by the rule
abbrev pub NamesNone : Rule → List ℕ → Type 0
NamesNone rule name = (t : TypeName) → ¬ Names rule name t

-- the text is the answer of the type to octets that are read by the rule
abbrev pub IsTypeAnswer : Rule → TypeName → List ℕ → List ℕ → Type 0
IsTypeAnswer rule t = IsReadAnswer ((meaning_of t).Reads rule) (meaning_of t).text_of (meaning_of t).Encodes
