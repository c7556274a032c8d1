-- Names of X.509 are read once, and shown once.
use Rattle.std.proofs.Common.{◌≡◌, ◌∙◌, sym, ap, subst, refl, List, [], ◌∷◌, map, ℕ, Bool, true, false, inl, inr, ◌⊎◌}
use Rattle.std.proofs.Common.{None, Some, Ok, Err, length, ◌<◌, ◌≢◌, slice_index_or}
use Rattle.std.specs.Iterator.{Yields}
use Rattle.std.specs.List.{All}
use Rattle.std.proofs.lemmas.List.Elements.{All-cons, All-nil}
use Rattle.std.specs.declared.alloc.Global.{Global}
use Rattle.std.specs.declared.vec.Vec.{Vec}
use Rattle.x690.specs.Collections.{multiset}
use Rattle.x690.specs.Elements.{Parts, IsDerElement}
use Rattle.x690.specs.Faults.{DerElementFault}
use Rattle.x690.specs.Identifiers.{IsTruncatedIdentifier}
use Rattle.asn1_headers.specs.declared.error.Err.{Err as Refusal}
use Rattle.asn1_headers.specs.declared.error.Err.TheVariants.{Error as refused}
use Rattle.asn1_headers.specs.declared.error.Error.{Error}
use Rattle.asn1_headers.specs.declared.error.SerializeError.{SerializeError}
use Rattle.asn1_headers.specs.Walk.{TakesItem}
use Rattle.asn1_rs.specs.declared.asn1_types.any.Any.{Any}
use Rattle.asn1_rs.specs.declared.asn1_types.set.set_of.SetOf.{SetOf}
use Rattle.asn1_rs.specs.Any.{IsDefiniteOr, IsTheElement, parts_of}
use Rattle.asn1_rs.specs.Any.Value.{any_element, element_of}
use Rattle.asn1_rs.specs.Checks.{has_number}
use Rattle.asn1_rs.specs.Lists.{IsListOr, has_items}
use Rattle.asn1_rs.specs.Oid.{OidGives, oid_constraints, oid_element, oid_value}
use Rattle.asn1_rs.specs.Set.{HasItems, items_of}
use Rattle.asn1_rs.specs.ToDer.{HasNone, whole_refuses}
use Rattle.asn1_rs.specs.Laws.Any.{der_any}
use Rattle.asn1_rs.specs.Laws.Any.Value.{element_checks, element_converts, element_lawful}
use Rattle.asn1_rs.specs.Laws.Checks.{has_number_is}
use Rattle.asn1_rs.specs.Laws.Forms.{both_by_value}
use Rattle.asn1_rs.specs.Laws.Lists.{is_list_or_is}
use Rattle.asn1_rs.specs.Laws.Oid.{oid_checked, oid_constraints_are, oid_converts, oid_lawful}
use Rattle.asn1_rs.specs.Laws.Readers.{der_elements}
use Rattle.x509_name.specs.declared.attribute.AttributeTypeAndValue.{AttributeTypeAndValue}
use Rattle.x509_name.specs.declared.name.Name.{Name}
use Rattle.x509_name.specs.declared.relative_name.RelativeDistinguishedName.{RelativeDistinguishedName}
use Rattle.x509_name.specs.Attribute.{AnyReads, AttributeGives, AttributeValue, OidReads, PartsGive, attribute_item}
use Rattle.x509_name.specs.Attribute.{attribute_value, trailing}
use Rattle.x509_name.specs.Laws.Attribute.{attribute_item_lawful}
use Rattle.x509_name.specs.Laws.Reading.{attribute_exact}
use Rattle.x509_name.specs.Laws.RelativeNameWriting.{name_lawful_writing}
use Rattle.x509_name.specs.Name.{NameGives, RowReads, name_octets, name_value, name_writing, relative_names, rows_of}
use Rattle.x509_name.specs.RelativeName.{IsNonEmpty, RelativeNameGives, SetReads, attributes, listed_values}
use Rattle.x509_name.specs.RelativeName.{relative_name_value, relative_name_writing}
use Rattle.asn1vec_answers.specs.Shown.{CameOfWriting, Encoding, IsWritten, Same, distinguished_name_text}
use Rattle.asn1vec_answers.specs.Types.{names}
use Rattle.asn1vec_answers.proofs.OneItem.{element_by_der, follows}
use Rattle.asn1vec_answers.proofs.OneList.{IsOneReader, taken_by_der}
use Rattle.asn1vec_answers.proofs.OneReading.{HasOneAnswer, ShownAlike, readings_same, written_same}
use Rattle.asn1vec_answers.proofs.OneRefusal.{SameRefusal, named, one_name, same_parts, whole_keeps}

never : {A : Type 0} → false ≡ true → A
never e = absurd (cc)

-- The two parts of an attribute.

oid_once : IsOneReader oid_value false OidReads
oid_once = element_by_der oid_element oid_lawful OidGives oid_converts (λ a b e f same h k. absurd h) oid_constraints
    oid_checked (one_name whole_keeps oid_constraints oid_constraints_are.one)

any_once : IsOneReader element_of false AnyReads
any_once = element_by_der any_element element_lawful IsTheElement element_converts (λ a b e f same h k. absurd h)
    IsDefiniteOr element_checks (one_name whole_keeps IsDefiniteOr (λ p e f h k. h.1 ∙ sym k.1))

-- the element that begins octets has the same parts
parts_same : (octets rest tail : List ℕ) (a b : Any) → AnyReads octets (Ok (rest, a)) →
    AnyReads octets (Ok (tail, b)) → parts_of b ≡ parts_of a
parts_same octets rest tail a b g h =
    same_parts IsDerElement DerElementFault IsTruncatedIdentifier der_elements octets rest tail (parts_of a) (parts_of b)
    (der_any octets (Ok (rest, a)) g).front (der_any octets (Ok (tail, b)) h).front

-- Attributes: their refusals.

-- the value behind the identifier is refused, or octets are left
abbrev ValueRefuses : List ℕ → Refusal Error → Type 0
ValueRefuses behind r = AnyReads behind (Err r) ⊎
    ((left : List ℕ) × (value : Any) × AnyReads behind (Ok (left, value)) × (left ≢ []) × (r ≡ trailing))

value_refused : (behind : List ℕ) (q r : Refusal Error) → ValueRefuses behind q → ValueRefuses behind r →
    SameRefusal false q r
value_refused behind q r (inl g) (inl h) = any_once behind (Err q) (Err r) g h
value_refused behind q r (inl g) (inr (left, value, read, some, is)) =
    never (any_once behind (Err q) (Ok (left, value)) g read).0
value_refused behind q r (inr (left, value, read, some, is)) (inl h) =
    never (any_once behind (Ok (left, value)) (Err r) read h).0
value_refused behind q r (inr (left, value, read, some, is)) (inr (last, other, also, more, too)) =
    inl (ap named (is ∙ sym too))

parts_refused : (content : List ℕ) (q r : Refusal Error) → PartsGive content (Err q) → PartsGive content (Err r) →
    SameRefusal false q r
parts_refused content q r (inl g) (inl h) = oid_once content (Err q) (Err r) g h
parts_refused content q r (inl g) (inr (behind, oid, read, later)) =
    never (oid_once content (Err q) (Ok (behind, oid)) g read).0
parts_refused content q r (inr (behind, oid, read, later)) (inl h) =
    never (oid_once content (Ok (behind, oid)) (Err r) read h).0
parts_refused content q r (inr (behind, oid, read, later)) (inr (rest, other, also, after)) =
    let same : behind ≡ rest = (oid_once content (Ok (behind, oid)) (Ok (rest, other)) read also).1 in
    value_refused behind q r later (subst (λ (l : List ℕ). ValueRefuses l r) (sym same) after)

-- the tag or the constructed bit of the element is refused, or its contents octets are
abbrev ContentRefuses : Parts → Refusal Error → Type 0
ContentRefuses p r = ((e : Error) × IsListOr 16 p (Err e) × (r ≡ refused e)) ⊎
    (IsListOr 16 p (Ok tt) × PartsGive p.content (Err r))

content_refused : (p : Parts) (q r : Refusal Error) → ContentRefuses p q → ContentRefuses p r → SameRefusal false q r
content_refused p q r (inl (e, check, is)) (inl (f, other, too)) =
    inl (ap named (is ∙ ap refused ((is_list_or_is 16).one p e f check other) ∙ sym too))
content_refused p q r (inl (e, check, is)) (inr (passes, parts)) = absurd ((is_list_or_is 16).apart p e passes check)
content_refused p q r (inr (passes, parts)) (inl (f, check, is)) = absurd ((is_list_or_is 16).apart p f passes check)
content_refused p q r (inr (passes, parts)) (inr (too, others)) = parts_refused p.content q r parts others

attribute_refused : (octets : List ℕ) (q r : Refusal Error) → AttributeGives octets (Err q) →
    AttributeGives octets (Err r) → SameRefusal false q r
attribute_refused octets q r (inl g) (inl h) = any_once octets (Err q) (Err r) g h
attribute_refused octets q r (inl g) (inr (any, rest, read, why)) =
    never (any_once octets (Err q) (Ok (rest, any)) g read).0
attribute_refused octets q r (inr (any, rest, read, why)) (inl h) =
    never (any_once octets (Ok (rest, any)) (Err r) read h).0
attribute_refused octets q r (inr (any, rest, read, why)) (inr (other, tail, also, more)) =
    content_refused (parts_of any) q r why
    (subst (λ (p : Parts). ContentRefuses p r) (parts_same octets rest tail any other read also) more)

-- An attribute is read once.
attribute_once : IsOneReader attribute_value false AttributeGives
attribute_once octets a b g h = readings_same IsTruncatedIdentifier attribute_item.Der attribute_value false AttributeGives
    attribute_item_lawful.der_one attribute_refused octets a b (attribute_exact octets a g, g)
    (attribute_exact octets b h, h)

-- Relative names.

-- the values of the attributes of a set, in the order read
abbrev values_of : SetOf AttributeTypeAndValue → List AttributeValue
values_of s = map attribute_value (items_of s)

set_held : (xs ys : List AttributeTypeAndValue) (s t : SetOf AttributeTypeAndValue) →
    map attribute_value xs ≡ map attribute_value ys → HasItems xs s → HasItems ys t → values_of s ≡ values_of t
set_held xs ys s t e h k = ap (map attribute_value) h ∙ e ∙ sym (ap (map attribute_value) k)

set_once : IsOneReader values_of true SetReads
set_once = taken_by_der attribute_value false AttributeGives attribute_once values_of HasItems set_held (has_number 17)
    (has_number_is 17)

none_seen : (xs : List AttributeTypeAndValue) → map attribute_value xs ≡ [] → xs ≡ []
none_seen [] e = refl
none_seen (x ∷ xs) e = absurd (cc)

-- a set of some attributes is not one of none
some_or_none : (octets rest tail : List ℕ) (x : RelativeDistinguishedName) (s t : SetOf AttributeTypeAndValue) →
    SetReads octets (Ok (rest, s)) → SetReads octets (Ok (tail, t)) → items_of s ≡ attributes x →
    IsNonEmpty (attributes x) → items_of t ≡ [] → ⊥
some_or_none octets rest tail x s t g h is some none = some (none_seen (attributes x)
    (ap (map attribute_value) (sym is) ∙ (set_once octets (Ok (rest, s)) (Ok (tail, t)) g h).0
    ∙ ap (map attribute_value) none))

relative_name_once : IsOneReader listed_values true RelativeNameGives
relative_name_once octets (Ok (rest, x)) (Ok (tail, y)) (s, g, is, some) (t, h, too, more) =
    let same = set_once octets (Ok (rest, s)) (Ok (tail, t)) g h in
    (ap (map attribute_value) (sym is) ∙ same.0 ∙ ap (map attribute_value) too, same.1)
relative_name_once octets (Ok (rest, x)) (Err r) (s, g, is, some) (inl h) = set_once octets (Ok (rest, s)) (Err r) g h
relative_name_once octets (Ok (rest, x)) (Err r) (s, g, is, some) (inr (tail, t, h, none, told)) =
    absurd (some_or_none octets rest tail x s t g h is some none)
relative_name_once octets (Err q) (Ok (tail, y)) (inl g) (t, h, is, some) = set_once octets (Err q) (Ok (tail, t)) g h
relative_name_once octets (Err q) (Ok (tail, y)) (inr (rest, s, g, none, told)) (t, h, is, some) =
    absurd (some_or_none octets tail rest y t s h g is some none)
relative_name_once octets (Err q) (Err r) (inl g) (inl h) = set_once octets (Err q) (Err r) g h
relative_name_once octets (Err q) (Err r) (inl g) (inr (tail, t, h, none, told)) =
    inr (refl, inl (set_once octets (Err q) (Ok (tail, t)) g h).1)
relative_name_once octets (Err q) (Err r) (inr (rest, s, g, none, told)) (inl h) =
    inr (refl, inr (set_once octets (Ok (rest, s)) (Err r) g h).1)
relative_name_once octets (Err q) (Err r) (inr (rest, s, g, none, told)) (inr (tail, t, h, nor, too)) =
    inl (ap named (told ∙ sym too))

-- Names.

-- a vector of relative names, and the values of their attributes in the order read
abbrev Rows : Type 0
Rows = Vec RelativeDistinguishedName Global

abbrev rows_in : Rows → List (List AttributeValue)
rows_in v = map listed_values v.items

rows_held : (xs ys : List RelativeDistinguishedName) (v w : Rows) → map listed_values xs ≡ map listed_values ys →
    has_items xs v → has_items ys w → rows_in v ≡ rows_in w
rows_held xs ys v w e h k = ap (map listed_values) h ∙ e ∙ sym (ap (map listed_values) k)

rows_once : IsOneReader rows_in true RowReads
rows_once = taken_by_der listed_values true RelativeNameGives relative_name_once rows_in has_items rows_held
    (has_number 16) (has_number_is 16)

-- Each relative name that was read has some attributes.

each_some : (octets : List ℕ) (xs : List RelativeDistinguishedName) →
    Yields (TakesItem RelativeNameGives Same) octets (map Ok xs) [] → All (λ r. IsNonEmpty (attributes r)) xs
each_some octets [] walk = All-nil (λ r. IsNonEmpty (attributes r))
each_some octets (x ∷ xs) (j, (some, is, less), more) =
    All-cons (λ r. IsNonEmpty (attributes r)) x xs is.3 (each_some j xs more)

name_some : (octets rest : List ℕ) (x : Name) → NameGives octets (Ok (rest, x)) →
    All (λ r. IsNonEmpty (attributes r)) (relative_names x)
name_some octets rest x (any, begins, passes, (check, (items, held, walk))) =
    subst (All (λ r. IsNonEmpty (attributes r))) (sym held) (each_some (parts_of any).content items walk)

-- Where each has, nothing of the name's own refuses it.

some_at : (rs : List RelativeDistinguishedName) → All (λ r. IsNonEmpty (attributes r)) rs → (k : ℕ)
    (r : RelativeDistinguishedName) → k < length rs → slice_index_or rs k r ≡ r → IsNonEmpty (attributes r)
some_at rs all k r within is = subst (λ (z : RelativeDistinguishedName). IsNonEmpty (attributes z)) is (all k r within)

relative_name_written : (r : RelativeDistinguishedName) → IsNonEmpty (attributes r) →
    HasNone (whole_refuses relative_name_writing r)
relative_name_written r some e (inl (f, (none, tells), told)) = some none
relative_name_written r some e (inr (f, (none, tells), told)) = some none

name_written : (x : Name) → All (λ r. IsNonEmpty (attributes r)) (relative_names x) →
    HasNone (whole_refuses name_writing x)
name_written x all e (inl (f, (k, r, within, is, (none, tells)), told)) =
    some_at (relative_names x) all k r within is none
name_written x all e (inr (k, r, within, is, why)) =
    relative_name_written r (some_at (relative_names x) all k r within is) e why

-- What is said of its encoding.

came_written : (allocates : Bool) (octets : List ℕ) (own : SerializeError → Type 0) → HasNone own →
    (e : Encoding) → CameOfWriting allocates octets own e → IsWritten allocates octets e
came_written allocates octets own none None came = absurd came
came_written allocates octets own none (Some (Ok written)) (few, is, nor) = (few, is)
came_written allocates octets own none (Some (Err e)) (inl may, io) = (may, io)
came_written allocates octets own none (Some (Err e)) (inr has, io) = absurd (none e has)

octets_same : (x y : Name) → rows_of x ≡ rows_of y → name_octets x ≡ name_octets y
octets_same x y same =
    let value : name_value x ≡ name_value y = follows listed_values relative_name_value
    (λ r s equal. ap multiset equal) (relative_names x) (relative_names y) same in
    let w = name_lawful_writing.by_value x y value in
    both_by_value w.1 w.2

shown : (x y : Name) → rows_of x ≡ rows_of y → All (λ r. IsNonEmpty (attributes r)) (relative_names x) →
    All (λ r. IsNonEmpty (attributes r)) (relative_names y) → ShownAlike names x y
shown x y same some more = record {
  text = ap distinguished_name_text same;
  encoding = λ e f h k. written_same true (name_octets y) e f
      (subst (λ (l : List ℕ). IsWritten true l e) (octets_same x y same)
      (came_written true (name_octets x) (whole_refuses name_writing x) (name_written x some) e h))
      (came_written true (name_octets y) (whole_refuses name_writing y) (name_written y more) f k);
}

pub names_once : HasOneAnswer names
names_once rule octets (Ok (rest, x)) (Ok (tail, y)) g h =
    let same = rows_once octets (Ok (rest, x.rdn_sequence)) (Ok (tail, y.rdn_sequence)) g.1 h.1 in
    (shown x y same.0 (name_some octets rest x g.1) (name_some octets tail y h.1), same.1)
names_once rule octets (Ok (rest, x)) (Err r) g h = rows_once octets (Ok (rest, x.rdn_sequence)) (Err r) g.1 h.1
names_once rule octets (Err q) (Ok (tail, y)) g h = rows_once octets (Err q) (Ok (tail, y.rdn_sequence)) g.1 h.1
names_once rule octets (Err q) (Err r) g h = rows_once octets (Err q) (Err r) g.1 h.1
