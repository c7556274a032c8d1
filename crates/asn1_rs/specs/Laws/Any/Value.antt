-- Elements of any type are lawful.
use Rattle.std.proofs.Common.{◌≡◌, ◌∙◌, ap, sym, subst, refl, false}
use Rattle.std.specs.Prelude.{Result, Ok, Err}
use Rattle.x690.specs.Lengths.{definite, indefinite}
use Rattle.x690.specs.Elements.{Parts}
use Rattle.x690.specs.Laws.Elements.{same_parts}
use Rattle.asn1_rs.specs.declared.asn1_types.any.Any.{Any}
use Rattle.asn1_headers.specs.declared.error.Error.{Error}
use Rattle.asn1_headers.specs.declared.header.Header.{Header}
use Rattle.asn1_rs.specs.Any.{parts_of, IsTheElement, IsDefiniteOr}
use Rattle.asn1_headers.specs.Header.{identifier_of}
use Rattle.asn1_headers.specs.Length.{form_of}
use Rattle.asn1_rs.specs.Grammar.{TakesBody, Checks}
use Rattle.asn1_rs.specs.Kinds.{IsLawfulElement, IsExactCheck, IsExactConversion}
use Rattle.asn1_rs.specs.Any.Value.{ElementValue, element_of, ElementBody, ElementCheck, ElementForm, IsElementValue}
use Rattle.asn1_rs.specs.Any.Value.{any_element, ElementValue-set}
use Rattle.x690.specs.Laws.Equality.{identifier_set, octets_set}

-- The value.

-- Elements of any type are lawful.
pub element_lawful : IsLawfulElement any_element
element_lawful = record {
  one_equality = ElementValue-set identifier_set octets_set;
  body_values =
      λ p v o b. subst IsElementValue (sym b) (record { class = o.class; number = o.number; content = o.content });
  form_values =
      λ v i c f. subst IsElementValue (sym f.is) (record { class = f.class; number = f.number; content = f.octets });
  body_one = λ p v w a b. a ∙ sym b;
  one_form = λ v i j c d f g.
      let e = sym f.is ∙ g.is in
      (ap (λ (z : ElementValue). z.id) e, ap (λ (z : ElementValue). z.content) e);
  one_value = λ v w i c f g. f.is ∙ sym g.is;
  form_fits = λ v i c f. (f.class, f.number, f.octets);
  form_check = λ v i c f. (_, refl);
  form_der = λ v i c f. subst (λ (w : ElementValue). ElementForm w w.id w.content) (sym f.is)
      (record { is = refl; class = f.class; number = f.number; octets = f.octets });
  form_body = λ v i c f. f.is;
}

-- The conversion.

-- it has the parts of what it was converted from
pub the_element_parts : (any same : Any) → IsTheElement any (Ok same) → parts_of same ≡ parts_of any
the_element_parts any same (h, c) = same_parts (identifier_of same.header) (identifier_of any.header)
    (form_of same.header.length) (form_of any.header.length) same.content.now any.content.now
    (ap identifier_of h) (ap (λ (x : Header). form_of x.length) h) c

-- The conversion of an element to itself is exact.
element_body_exact : (any : Any) (answer : Result Any Error) → IsTheElement any answer →
    TakesBody ElementBody element_of false (λ (x y : Error). y ≡ x) (parts_of any) answer
element_body_exact any (Ok x) h = ap
    (λ (q : Parts). let e : ElementValue = record { id = q.id; content = q.content } in e) (the_element_parts any x h)
element_body_exact any (Err e) h = absurd h

-- It is exact, and does not allocate.
pub element_converts : IsExactConversion IsTheElement any_element
element_converts = record {
  exact = λ any answer octets h. element_body_exact any answer h;
  asks_no_memory = λ none any h. h;
}

-- The constraints.

-- The constraints ask a definite length, exactly.
element_check_exact : (p : Parts) (answer : Result (Unit {0}) Error) → IsDefiniteOr p answer →
    Checks ElementCheck p answer
element_check_exact p (Ok x) h = h
element_check_exact p (Err e) h = λ c. let k : definite c.0 ≡ indefinite = sym c.1 ∙ h.0 in cc

-- They are exact, and do not allocate.
pub element_checks : IsExactCheck IsDefiniteOr ElementCheck
element_checks = record { exact = element_check_exact; asks_no_memory = λ p h. let e = h.1 in cc }
