-- Reading relative names is exact, and the attributes stand in the order of their words.
use Rattle.std.proofs.Common.{◌≡◌, ◌∙◌, ap, sym, refl, subst, inl, inr, true, false, ℕ, List, [], ◌∷◌, ◌++◌, map}
use Rattle.std.specs.Prelude.{Result, Ok, Err}
use Rattle.x690.specs.Elements.{IsDerElement}
use Rattle.x690.specs.Identifiers.{IsTruncatedIdentifier}
use Rattle.x690.specs.Joined.{IsPrefixFree}
use Rattle.asn1_headers.specs.Answers.{Exactly, HasPrefix, TellsMemory}
use Rattle.asn1_headers.specs.declared.error.Err.{Err as Refusal}
use Rattle.asn1_headers.specs.declared.error.Error.{Error}
use Rattle.asn1_rs.specs.Grammar.{DerWord, NoCheck}
use Rattle.asn1_rs.specs.Laws.Lists.{list_body_one, list_by_der_exact, number_checks}
use Rattle.asn1_rs.specs.Laws.Readers.{der_elements, prefix_more}
use Rattle.asn1_rs.specs.Laws.Words.{word_one}
use Rattle.asn1_rs.specs.Lists.{HasNumber, ListOf}
use Rattle.asn1_rs.specs.Set.{HasItems, items_of}
use Rattle.asn1_rs.specs.declared.asn1_types.set.set_of.SetOf.{SetOf}
use Rattle.x509_name.specs.Attribute.{AttributeGives, AttributeValue, attribute_item, attribute_value}
use Rattle.x509_name.specs.Laws.Attribute.{attribute_item_lawful}
use Rattle.x509_name.specs.Laws.Reading.{attribute_exact, itself, same_word}
use Rattle.x509_name.specs.Laws.RelativeName.{some_joined}
use Rattle.x509_name.specs.RelativeName.{InWordOrder, IsNonEmpty, RelativeNameGives, SetReads, attributes}
use Rattle.x509_name.specs.RelativeName.{listed_values, relative_name_item, relative_name_value}
use Rattle.x509_name.specs.declared.attribute.AttributeTypeAndValue.{AttributeTypeAndValue}
use Rattle.x509_name.specs.declared.relative_name.RelativeDistinguishedName.{RelativeDistinguishedName}

-- a refusal may report out of memory
abbrev pub Memory : Refusal Error → Type 0
Memory = TellsMemory true itself

-- words of sets of attributes, with the values of these in the order of their words
abbrev SetWord : List ℕ → List AttributeValue → Type 0
SetWord = DerWord NoCheck (ListOf 17 attribute_item.Der)

-- the values of the attributes of a set in hand
abbrev set_values : SetOf AttributeTypeAndValue → List AttributeValue
set_values s = map attribute_value (items_of s)

-- One such word alone begins an input.
set_one : IsPrefixFree SetWord
set_one = word_one IsDerElement NoCheck (ListOf 17 attribute_item.Der) der_elements.one
    (list_body_one attribute_item.Der attribute_item_lawful.der_one (HasNumber 17))

-- Reading a set of attributes is exact, and they stand in the order of their words.
set_exact : (input : List ℕ) (answer : Result (List ℕ × SetOf AttributeTypeAndValue) (Refusal Error)) →
    SetReads input answer → Exactly IsTruncatedIdentifier SetWord set_values Memory input answer
set_exact = list_by_der_exact (number_checks 17) HasItems set_values AttributeGives itself attribute_item.Der
    attribute_value false IsTruncatedIdentifier (λ items s h. ap (map attribute_value) (sym h)) attribute_item_lawful.der_one
    (λ octets answer o g. attribute_exact octets answer g)

-- The word of a relative name is that of a set.
to_set : (word : List ℕ) (vs : List AttributeValue) → InWordOrder word vs → SetWord word vs
to_set word vs w = (w.0, w.1, tt, record { shape = w.3.shape.0; items = w.3.items })

-- That of a set with some attributes is that of a relative name.
from_set : (word : List ℕ) (vs : List AttributeValue) → IsNonEmpty vs → SetWord word vs → InWordOrder word vs
from_set word vs some w = (
  w.0,
  w.1,
  tt,
  record {
    shape =
        (w.3.shape, some_joined attribute_item.Der attribute_item_lawful.der_one w.0.content vs w.3.items some);
    items = w.3.items;
  },
)

-- A relative name has some attribute.
never_none : (word : List ℕ) (vs : List AttributeValue) → InWordOrder word vs → [] ≡ vs → ⊥
never_none word [] w e = w.3.shape.1 w.3.items
never_none word (v ∷ vs) w e = cc

-- Some values stand for some items.
values_some : (xs : List AttributeTypeAndValue) → IsNonEmpty xs → IsNonEmpty (map attribute_value xs)
values_some [] some e = some refl
values_some (x ∷ xs) some e = cc

-- Reading a relative name is exact, and its attributes stand in the order of their words.
pub in_word_order : (input : List ℕ) (answer : Result (List ℕ × RelativeDistinguishedName) (Refusal Error)) →
    RelativeNameGives input answer → Exactly IsTruncatedIdentifier InWordOrder listed_values Memory input answer
in_word_order input (Ok x) g =
    let front : HasPrefix SetWord input (set_values g.0) x.0 = set_exact input (Ok (x.0, g.0)) g.1 in
    let same : set_values g.0 ≡ listed_values x.1 = ap (map attribute_value) g.2 in
    record {
      word = front.word;
      fits = from_set front.word (listed_values x.1) (values_some (attributes x.1) g.3)
          (subst (SetWord front.word) same front.fits);
      is = front.is;
    }
in_word_order input (Err r) (inl g) = elim (set_exact input (Err r) g) [
  | inl m ↦ inl m
  | inr f ↦ inr (λ more s word rest vs e w. f more s word rest vs e (to_set word vs w))
]
in_word_order input (Err r) (inr (rest, set, g, none, is)) = inr (λ more s word tail vs e w.
    let front : HasPrefix SetWord input (set_values set) rest = set_exact input (Ok (rest, set)) g in
    let same = (same_word SetWord set_one (input ++ more) (set_values set) (rest ++ more)
    (prefix_more SetWord input (set_values set) rest more front) word tail vs (to_set word vs w) e).0 in
    never_none word vs w (sym (ap (map attribute_value) none) ∙ same))

-- So reading a relative name is exact.
pub relative_name_exact : (input : List ℕ) (answer : Result (List ℕ × RelativeDistinguishedName) (Refusal Error)) →
    RelativeNameGives input answer →
    Exactly IsTruncatedIdentifier relative_name_item.Der relative_name_value Memory input answer
relative_name_exact input (Ok x) g =
    let front : HasPrefix InWordOrder input (listed_values x.1) x.0 = in_word_order input (Ok x) g in
    record {
      word = front.word;
      fits = (front.fits.0, front.fits.1, tt, (listed_values x.1, refl, front.fits.3));
      is = front.is;
    }
relative_name_exact input (Err r) g = elim (in_word_order input (Err r) g) [
  | inl m ↦ inl m
  | inr f ↦ inr (λ more s word rest m e w. f more s word rest w.3.0 e (w.0, w.1, tt, w.3.2))
]
