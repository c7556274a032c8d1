-- What is read once under no tag is read once under an explicit one.
use Rattle.std.proofs.Common.{◌≡◌, ◌∙◌, sym, ap, subst, refl, ℕ, List, [], Bool, true, inl, inr, lit<, map}
use Rattle.std.proofs.Common.{Result, Ok, Err}
use Rattle.std.specs.declared.alloc.Global.{Global}
use Rattle.std.specs.declared.vec.Vec.{Vec}
use Rattle.x690.specs.Elements.{Parts, IsDerElement}
use Rattle.x690.specs.Faults.{DerElementFault}
use Rattle.x690.specs.Identifiers.{IsTruncatedIdentifier}
use Rattle.x690.specs.Nested.{IsElement, ElementFault}
use Rattle.asn1_rs.specs.Any.{parts_of}
use Rattle.asn1_rs.specs.declared.asn1_types.any.Any.{Any}
use Rattle.asn1_rs.specs.declared.asn1_types.tagged.Implicit.{Implicit}
use Rattle.asn1_rs.specs.declared.asn1_types.tagged.TaggedValue.{TaggedValue}
use Rattle.asn1_headers.specs.declared.error.Err.{Err as Refusal}
use Rattle.asn1_headers.specs.declared.error.Err.TheVariants.{Error as refused}
use Rattle.asn1_headers.specs.declared.error.Error.{Error}
use Rattle.asn1_headers.specs.declared.tag.Tag.{Tag}
use Rattle.asn1_rs.specs.Lists.{IsListOr, ListConverts, has_items}
use Rattle.asn1_rs.specs.Laws.Lists.{is_list_or_is, list_number, list_takes_class}
use Rattle.asn1_rs.specs.Laws.Tagged.Implicit.{implicit_checks_are, implicit_lawful, parts_under}
use Rattle.asn1_rs.specs.Tagged.Implicit.{ImplicitConverts, implicit_checks, under}
use Rattle.asn1_rs.specs.Tagged.Parser.{IsUnder}
use Rattle.asn1_headers.specs.Answers.{HasPrefix}
use Rattle.asn1_headers.specs.Ber.{max_depth, EndsWithin}
use Rattle.asn1_headers.specs.Header.Reading.{refusal_of, ber_violation, der_violation}
use Rattle.asn1_rs.specs.Tagged.{ReadsWhole}
use Rattle.asn1_rs.specs.Tagged.Explicit.{ExplicitGives, ExplicitReads, ExplicitConverts}
use Rattle.asn1_rs.specs.Traits.{BerGives, OfParts}
use Rattle.asn1_rs.specs.Laws.Readers.{ber_elements, der_elements}
use Rattle.asn1_rs.specs.Laws.Tagged.Explicit.{explicit_lawful, tag_checks_are}
use Rattle.asn1vec_answers.specs.Names.{name_of_error}
use Rattle.asn1vec_answers.specs.Shown.{Reading, Same}
use Rattle.asn1vec_answers.specs.Types.{Item, explicit, implicit_vector, implicit_vector_takes, vector}
use Rattle.asn1vec_answers.proofs.OneItem.{IsOneItem, follows, texts_same, vector_once}
use Rattle.asn1vec_answers.proofs.OneList.{IsOneConversion, IsOneReader, IsOneTaking, flattened_memory, flattened_same}
use Rattle.asn1vec_answers.proofs.OneList.{one_by_parts, one_element, takes_once as list_takes_once}
use Rattle.asn1vec_answers.proofs.OneReading.{SameReading}
use Rattle.asn1vec_answers.proofs.OneRefusal.{SameRefusal, converted_same, element_or_fault, named, same_parts}
use Rattle.asn1vec_answers.proofs.OneRefusal.{same_tail}
use Rattle.asn1_rs.specs.Grammar.Item.{ber_words}
use Rattle.asn1_rs.specs.Laws.Words.{strict_ber}

module _ {T W D : Type 0} (class number : ℕ) (inner : W → T) (view : T → D) (allocates : Bool)
    (reads : List ℕ → Reading T → Type 0) (once : IsOneReader view allocates reads) where
  -- by BER: the conversion of the element
  takes_once : IsOneConversion (λ w. view (inner w)) allocates (ExplicitConverts class number inner reads Same)
  takes_once p (Ok v) (Ok w) (tag, (rest, is)) (also, (tail, too)) =
      (once p.content (Ok (rest, inner v)) (Ok (tail, inner w)) is too).0
  takes_once p (Ok v) (Err f) (tag, given) (inl (e, other, same)) =
      absurd ((tag_checks_are class number).apart p e tag other)
  takes_once p (Ok v) (Err f) (tag, (rest, is)) (inr (also, (r, too, flat))) =
      let memory = once p.content (Ok (rest, inner v)) (Err r) is too in
      (memory.0, flattened_memory r f memory.1 flat)
  takes_once p (Err e) (Ok w) (inl (f, other, same)) (tag, given) =
      absurd ((tag_checks_are class number).apart p f tag other)
  takes_once p (Err e) (Ok w) (inr (also, (r, too, flat))) (tag, (rest, is)) =
      let memory = once p.content (Err r) (Ok (rest, inner w)) too is in
      (memory.0, flattened_memory r e memory.1 flat)
  takes_once p (Err e) (Err f) (inl (q, other, same)) (inl (r, another, equal)) =
      inl (ap name_of_error (same ∙ (tag_checks_are class number).one p q r other another ∙ sym equal))
  takes_once p (Err e) (Err f) (inl (q, other, same)) (inr (tag, given)) =
      absurd ((tag_checks_are class number).apart p q tag other)
  takes_once p (Err e) (Err f) (inr (tag, given)) (inl (r, other, same)) =
      absurd ((tag_checks_are class number).apart p r tag other)
  takes_once p (Err e) (Err f) (inr (tag, (q, is, flat))) (inr (also, (r, too, level))) =
      flattened_same allocates q r e f (once p.content (Err q) (Err r) is too) flat level

  explicit_by_ber : IsOneReader (λ w. view (inner w)) allocates
      (BerGives (OfParts (ExplicitConverts class number inner reads Same)) Same)
  explicit_by_ber = one_element (IsElement max_depth) (ElementFault max_depth) EndsWithin ber_elements ber_violation
      (λ w. view (inner w)) allocates (OfParts (ExplicitConverts class number inner reads Same))
      (one_by_parts (λ w. view (inner w)) allocates (ExplicitConverts class number inner reads Same) takes_once)

  -- by DER: what reading the value that the contents octets are answers, that in the element, and the reader itself
  abbrev Whole : List ℕ → Result T (Refusal Error) → Type 0
  Whole = ReadsWhole reads Same

  -- a value as one that nothing follows
  abbrev alone : Result T (Refusal Error) → Reading T
  alone (Ok x) = Ok ([], x)
  alone (Err r) = Err r

  whole_once : (octets : List ℕ) (a b : Result T (Refusal Error)) → Whole octets a → Whole octets b →
      SameReading (λ x y. view x ≡ view y) allocates (alone a) (alone b)
  whole_once octets (Ok v) (Ok w) (Ok x, is, (none, one)) (Ok y, too, (empty, other)) =
      let same = once octets (Ok x) (Ok y) is too in
      (ap view one ∙ same.0 ∙ sym (ap view other), refl)
  whole_once octets (Ok v) (Ok w) (Ok x, is, given) (Err own, too, same) = absurd same
  whole_once octets (Ok v) (Err r) (Ok x, is, (none, one)) (Ok y, too, (some, told)) =
      let rests = once octets (Ok x) (Ok y) is too in
      absurd (some (sym rests.1 ∙ none))
  whole_once octets (Ok v) (Err r) (Ok x, is, given) (Err own, too, same) =
      let memory = once octets (Ok x) (Err own) is too in
      (memory.0, same ∙ memory.1)
  whole_once octets (Ok v) (Ok w) (Err own, is, none) too = absurd none
  whole_once octets (Ok v) (Err r) (Err own, is, none) too = absurd none
  whole_once octets (Err q) (Ok w) (Ok x, is, (some, told)) (Ok y, too, (none, other)) =
      let rests = once octets (Ok x) (Ok y) is too in
      absurd (some (rests.1 ∙ none))
  whole_once octets (Err q) (Ok w) (Err own, is, same) (Ok y, too, given) =
      let memory = once octets (Err own) (Ok y) is too in
      (memory.0, same ∙ memory.1)
  whole_once octets (Err q) (Ok w) (Ok x, is, given) (Err own, too, none) = absurd none
  whole_once octets (Err q) (Ok w) (Err other, is, same) (Err own, too, none) = absurd none
  whole_once octets (Err q) (Err r) (Ok x, is, (some, (e, made, one))) (Ok y, too, (left, (f, same, other))) =
      inl (ap named (one ∙ ap refused (made ∙ sym same) ∙ sym other))
  whole_once octets (Err q) (Err r) (Ok x, is, given) (Err own, too, same) =
      let memory = once octets (Ok x) (Err own) is too in
      inr (memory.0, inr (same ∙ memory.1))
  whole_once octets (Err q) (Err r) (Err own, is, same) (Ok y, too, given) =
      let memory = once octets (Err own) (Ok y) is too in
      inr (memory.0, inl (same ∙ memory.1))
  whole_once octets (Err q) (Err r) (Err own, is, same) (Err other, too, equal) =
      let both = once octets (Err own) (Err other) is too in
      subst (λ (x : Refusal Error). SameRefusal allocates x r) (sym same)
      (subst (λ (x : Refusal Error). SameRefusal allocates own x) (sym equal) both)

  abbrev ReadsIn : Parts → Result T (Refusal Error) → Type 0
  ReadsIn = ExplicitReads class number reads Same

  reads_once : (p : Parts) (a b : Result T (Refusal Error)) → ReadsIn p a → ReadsIn p b →
      SameReading (λ x y. view x ≡ view y) allocates (alone a) (alone b)
  reads_once p (Ok x) (Ok y) (tag, is) (also, too) = whole_once p.content (Ok x) (Ok y) is too
  reads_once p (Ok x) (Err r) (tag, is) (inl (f, other, given)) =
      absurd ((tag_checks_are class number).apart p f tag other)
  reads_once p (Ok x) (Err r) (tag, is) (inr (also, too)) = whole_once p.content (Ok x) (Err r) is too
  reads_once p (Err q) (Ok y) (inl (e, other, given)) (tag, is) =
      absurd ((tag_checks_are class number).apart p e tag other)
  reads_once p (Err q) (Ok y) (inr (also, too)) (tag, is) = whole_once p.content (Err q) (Ok y) too is
  reads_once p (Err q) (Err r) (inl (e, other, (d, same, is))) (inl (f, another, (c, equal, too))) = inl
      (ap named (is ∙ ap refused (same ∙ (tag_checks_are class number).one p e f other another ∙ sym equal) ∙ sym too))
  reads_once p (Err q) (Err r) (inl (e, other, given)) (inr (tag, is)) =
      absurd ((tag_checks_are class number).apart p e tag other)
  reads_once p (Err q) (Err r) (inr (tag, is)) (inl (f, other, given)) =
      absurd ((tag_checks_are class number).apart p f tag other)
  reads_once p (Err q) (Err r) (inr (tag, is)) (inr (also, too)) = whole_once p.content (Err q) (Err r) is too

  -- two elements at the front of the same octets are one
  in_one_element : (octets rest tail : List ℕ) (p o : Parts) (a b : Result T (Refusal Error)) →
      HasPrefix IsDerElement octets p rest → HasPrefix IsDerElement octets o tail → ReadsIn p a → ReadsIn o b →
      SameReading (λ x y. view x ≡ view y) allocates (alone a) (alone b)
  in_one_element octets rest tail p o a b f g is too = reads_once p a b is (subst (λ (q : Parts). ReadsIn q b)
      (same_parts IsDerElement DerElementFault IsTruncatedIdentifier der_elements octets rest tail p o f g) too)

  explicit_by_der : IsOneReader (λ w. view (inner w)) allocates (ExplicitGives class number inner reads Same)
  explicit_by_der octets (Ok (rest, v)) (Ok (tail, w)) (p, f, is) (o, g, too) = (
    (in_one_element octets rest tail p o (Ok (inner v)) (Ok (inner w)) f g is too).0,
    same_tail IsDerElement DerElementFault IsTruncatedIdentifier der_elements octets rest tail p o f g,
  )
  explicit_by_der octets (Ok (rest, v)) (Err r) (p, f, given) (inl (fault, why, told)) = absurd
      (element_or_fault IsDerElement DerElementFault IsTruncatedIdentifier der_elements der_violation octets rest p fault f why)
  explicit_by_der octets (Ok (rest, v)) (Err r) (p, f, is) (inr (o, tail, g, too)) =
      in_one_element octets rest tail p o (Ok (inner v)) (Err r) f g is too
  explicit_by_der octets (Err q) (Ok (tail, w)) (inl (fault, why, told)) (o, g, given) = absurd
      (element_or_fault IsDerElement DerElementFault IsTruncatedIdentifier der_elements der_violation octets tail o fault g why)
  explicit_by_der octets (Err q) (Ok (tail, w)) (inr (p, rest, f, is)) (o, g, too) =
      in_one_element octets rest tail p o (Err q) (Ok (inner w)) f g is too
  explicit_by_der octets (Err q) (Err r) (inl (fault, why, told)) (inl (other, also, said)) =
      inl (ap named (converted_same (refusal_of der_violation fault) q told ∙ ap (refusal_of der_violation)
      (der_elements.alone octets fault other why also) ∙ sym (converted_same (refusal_of der_violation other) r said)))
  explicit_by_der octets (Err q) (Err r) (inl (fault, why, told)) (inr (o, tail, g, too)) = absurd
      (element_or_fault IsDerElement DerElementFault IsTruncatedIdentifier der_elements der_violation octets tail o fault g why)
  explicit_by_der octets (Err q) (Err r) (inr (p, rest, f, is)) (inl (fault, why, told)) = absurd
      (element_or_fault IsDerElement DerElementFault IsTruncatedIdentifier der_elements der_violation octets rest p fault f why)
  explicit_by_der octets (Err q) (Err r) (inr (p, rest, f, is)) (inr (o, tail, g, too)) =
      in_one_element octets rest tail p o (Err q) (Err r) f g is too

-- what is seen of a value under a tag is what is seen of the value
pub explicit_once : (number : ℕ) (I : Item) → IsOneItem I → IsOneItem (explicit number I)
explicit_once number I one = record {
  D = one.D;
  view = λ t. one.view t.inner;
  text = λ s t e. one.text s.inner t.inner e;
  value = λ s t e. one.value s.inner t.inner e;
  ber = explicit_by_ber 2 number (λ t. t.inner) one.view I.grammar.allocates I.ber_gives one.ber;
  der = explicit_by_der 2 number (λ t. t.inner) one.view I.grammar.allocates I.der_gives one.der;
  lawful = explicit_lawful 2 number (λ t. t.inner) I.grammar one.lawful;
}

-- under an implicit tag what converts the element under another tag number
module _ {T W D : Type 0} (class number : ℕ) (inner : W → T) (own : Tag) (view : T → D) (allocates : Bool)
    (convert : Any → Result T Error → Type 0) (once : IsOneTaking view allocates convert) where
  same_under : (a b c d : Any) → parts_of b ≡ parts_of a → IsUnder own a c → IsUnder own b d → parts_of d ≡ parts_of c
  same_under a b c d same one other = parts_under own b d other ∙ ap (under own.0) same ∙ sym (parts_under own a c one)

  abbrev Checked : Any → Result (Unit {0}) Error → Type 0
  Checked any = implicit_checks class number (parts_of any)

  moved : (a b : Any) (x : Result (Unit {0}) Error) → parts_of b ≡ parts_of a → Checked b x → Checked a x
  moved a b x same = subst (λ (p : Parts). implicit_checks class number p x) same

  pub implicit_takes_once : IsOneTaking (λ w. view (inner w)) allocates
      (ImplicitConverts class number inner own convert Same)
  implicit_takes_once a b (Ok v) (Ok w) same (tag, (c, one, is)) (also, (d, other, too)) =
      once c d (Ok (inner v)) (Ok (inner w)) (same_under a b c d same one other) is too
  implicit_takes_once a b (Ok v) (Err f) same (tag, given) (inl (e, broken, told)) =
      absurd ((implicit_checks_are class number).apart (parts_of a) e tag (moved a b (Err e) same broken))
  implicit_takes_once a b (Ok v) (Err f) same (tag, (c, one, is)) (inr (also, (d, other, too))) =
      once c d (Ok (inner v)) (Err f) (same_under a b c d same one other) is too
  implicit_takes_once a b (Err e) (Ok w) same (inl (f, broken, told)) (also, given) =
      absurd ((implicit_checks_are class number).apart (parts_of a) f (moved a b (Ok tt) same also) broken)
  implicit_takes_once a b (Err e) (Ok w) same (inr (tag, (c, one, is))) (also, (d, other, too)) =
      once c d (Err e) (Ok (inner w)) (same_under a b c d same one other) is too
  implicit_takes_once a b (Err e) (Err f) same (inl (q, broken, told)) (inl (r, too, said)) = inl (ap name_of_error
      (told ∙ (implicit_checks_are class number).one (parts_of a) q r broken (moved a b (Err r) same too) ∙ sym said))
  implicit_takes_once a b (Err e) (Err f) same (inl (q, broken, told)) (inr (also, given)) =
      absurd ((implicit_checks_are class number).apart (parts_of a) q (moved a b (Ok tt) same also) broken)
  implicit_takes_once a b (Err e) (Err f) same (inr (tag, given)) (inl (r, broken, said)) =
      absurd ((implicit_checks_are class number).apart (parts_of a) r tag (moved a b (Err r) same broken))
  implicit_takes_once a b (Err e) (Err f) same (inr (tag, (c, one, is))) (inr (also, (d, other, too))) =
      once c d (Err e) (Err f) (same_under a b c d same one other) is too

-- sequences under an implicit tag
module _ (number : ℕ) (I : Item) (one : IsOneItem I) where
  abbrev Tagged : Type 0
  Tagged = TaggedValue (Vec I.T Global) Error Implicit 2 number

  view_of : Tagged → List one.D
  view_of t = map one.view t.inner.items

  taken : IsOneTaking view_of true (implicit_vector_takes number I)
  unfolding view_of
  taken = implicit_takes_once 2 number (λ (t : Tagged). t.inner) (record { 0 = 16 })
      (λ (v : Vec I.T Global). map one.view v.items) true
      (OfParts (ListConverts (IsListOr 16) has_items I.ber_gives Same))
      (one_by_parts (λ v. map one.view v.items) true (ListConverts (IsListOr 16) has_items I.ber_gives Same)
      (list_takes_once one.view I.grammar.allocates I.ber_gives one.ber (λ v. map one.view v.items) has_items
      (λ xs ys v w e h k. ap (map one.view) h ∙ e ∙ sym (ap (map one.view) k)) (IsListOr 16) (is_list_or_is 16)))

  pub implicit_vector_once : IsOneItem (implicit_vector number I)
  unfolding view_of
  implicit_vector_once = record {
    D = List one.D;
    view = view_of;
    text = λ s t e. texts_same I.text_of s.inner.items t.inner.items
        (follows one.view I.text_of one.text s.inner.items t.inner.items e);
    value = λ s t e. follows one.view I.grammar.value one.value s.inner.items t.inner.items e;
    ber = one_element (IsElement max_depth) (ElementFault max_depth) EndsWithin ber_elements ber_violation view_of true
        (implicit_vector_takes number I) taken;
    der = one_element IsDerElement DerElementFault IsTruncatedIdentifier der_elements der_violation view_of true
        (implicit_vector_takes number I) taken;
    lawful = implicit_lawful 2 number 16 (λ t. t.inner) (vector I).grammar (vector_once I one).lawful (lit< tt)
        (list_number I.grammar.Form 16) (list_takes_class I.grammar.Form 16 (ber_words I.grammar) I.grammar.Check
        (strict_ber I.grammar one.lawful) one.lawful.form_check 2);
  }
