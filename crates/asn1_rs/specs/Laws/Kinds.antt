-- A type that is read as one element is a lawful item.
use Rattle.std.specs.Prelude.{ℕ, Bool, List, Result, Ok, Err, IfErr}
use Rattle.x690.specs.Octets.{IsOctets}
use Rattle.std.proofs.Common.{◌≡◌, refl, subst, inl}
use Rattle.x690.specs.Elements.{IsDerElement}
use Rattle.asn1_rs.specs.declared.asn1_types.any.Any.{Any}
use Rattle.asn1_headers.specs.declared.error.Err.{Err as Refusal}
use Rattle.asn1_headers.specs.declared.error.Error.{Error}
use Rattle.asn1_headers.specs.declared.error.Error.TheVariants.{OutOfMemory}
use Rattle.asn1_rs.specs.Any.{parts_of}
use Rattle.asn1_headers.specs.Answers.{Exactly, IsOther}
use Rattle.asn1_rs.specs.Grammar.{TakesBody}
use Rattle.asn1_rs.specs.Grammar.Item.{ItemGrammar, IsLawfulItem, by_inner}
use Rattle.asn1_rs.specs.Kinds.{ElementGrammar, IsLawfulElement, IsExactConversion, item_grammar, by_inner_element}
use Rattle.asn1_rs.specs.Kinds.{InnerGives}
use Rattle.asn1_rs.specs.Kinds.{InnerReads}
use Rattle.asn1_rs.specs.Kinds.Writing.{IsWrittenElement}
use Rattle.asn1_rs.specs.Laws.Readers.{der_elements}
use Rattle.asn1_rs.specs.Laws.Words.{word_one, strict_der_word}

-- Elements as items.

-- A lawful element is a lawful item.
pub lawful_item : {S : Type 0} (G : ElementGrammar S) → IsLawfulElement G → IsLawfulItem (item_grammar G)
lawful_item G l = record {
  one_equality = l.one_equality;
  der_element = λ o v w. (w.0, w.1);
  der_values = λ o v w. l.body_values w.0 v (der_elements.possible o w.0 w.1) w.3;
  body_values = l.body_values;
  form_values = l.form_values;
  der_one = word_one IsDerElement G.Check G.Body der_elements.one l.body_one;
  body_one = l.body_one;
  one_form = l.one_form;
  one_value = l.one_value;
  form_fits = l.form_fits;
  form_check = l.form_check;
  form_der = l.form_der;
  form_body = l.form_body;
  strict_der = strict_der_word G.Form G.Check G.Body l.form_check l.form_body;
}

-- What holds an item.

-- what holds one item is as lawful as that
pub lawful_by_inner : {S T : Type 0} (held : T → S) (G : ItemGrammar S) → IsLawfulItem G →
    IsLawfulItem (by_inner held G)
lawful_by_inner held G l = record {
  one_equality = l.one_equality;
  der_element = l.der_element;
  der_values = l.der_values;
  body_values = l.body_values;
  form_values = l.form_values;
  der_one = l.der_one;
  body_one = l.body_one;
  one_form = l.one_form;
  one_value = l.one_value;
  form_fits = l.form_fits;
  form_check = l.form_check;
  form_der = l.form_der;
  form_body = l.form_body;
  strict_der = l.strict_der;
}

-- a conversion that answers what holds an item is as exact as that of the item
pub inner_takes : {S T E : Type 0} (held : T → S) (G : ItemGrammar S) (gives : Any → Result S E → Type 0)
    (from : Error → E → Type 0) →
    ((any : Any) (answer : Result S E) → IsOctets any.content.now → gives any answer →
    TakesBody G.Body G.value G.allocates from (parts_of any) answer) →
    (any : Any) (answer : Result T E) → IsOctets any.content.now → InnerGives held gives any answer →
    TakesBody G.Body (λ x. G.value (held x)) G.allocates from (parts_of any) answer
inner_takes held G gives from exact any (Ok x) o h = exact any (Ok (held x)) o h
inner_takes held G gives from exact any (Err e) o h = exact any (Err e) o h

-- and so is a reader
module _ {S T E : Type 0} (held : T → S) (reads : List ℕ → Result (List ℕ × S) (Refusal E) → Type 0) where
  -- A reader that answers what holds an item is as exact as that of the item.
  pub held_reads : {V : Type 0} (IsTruncated : List ℕ → Type 0) (G : List ℕ → V → Type 0) (value : S → V)
      (memory : Refusal E → Type 0) →
      ((input : List ℕ) (answer : Result (List ℕ × S) (Refusal E)) → IsOctets input → reads input answer →
      Exactly IsTruncated G value memory input answer) →
      (input : List ℕ) (answer : Result (List ℕ × T) (Refusal E)) → IsOctets input →
      InnerReads held reads input answer → Exactly IsTruncated G (λ x. value (held x)) memory input answer
  held_reads IsTruncated G value memory exact input (Ok x) o h = exact input (Ok (x.0, held x.1)) o h
  held_reads IsTruncated G value memory exact input (Err r) o h = exact input (Err r) o h

  -- What is so of each refusal of the item's reader is so of each of its refusals.
  pub held_no_memory : (P : Refusal E → Type 0) →
      ((input : List ℕ) (answer : Result (List ℕ × S) (Refusal E)) → reads input answer → IfErr answer P) →
      (input : List ℕ) (answer : Result (List ℕ × T) (Refusal E)) → InnerReads held reads input answer →
      IfErr answer P
  held_no_memory P asks_no_memory input (Ok x) h = tt
  held_no_memory P asks_no_memory input (Err r) h = asks_no_memory input (Err r) h

-- What holds an element.

-- a refusal that is not out of memory
pub other_error : {S : Type 0} (gives : Any → Result S Error → Type 0) →
    ((any : Any) → gives any (Err OutOfMemory) → ⊥) → (any : Any) (e : Error) → gives any (Err e) →
    IsOther (λ (x y : Error). y ≡ x) e
other_error gives asks_no_memory any e g =
    inl (e, λ q. asks_no_memory any (subst (λ (x : Error). gives any (Err x)) q g), refl)

-- a type that holds one item is as lawful as that
module _ {S T : Type 0} (held : T → S) (G : ElementGrammar S) where
  -- What holds an element is as lawful as that.
  pub holding_lawful : IsLawfulElement G → IsLawfulElement (by_inner_element held G)
  holding_lawful l = record {
    one_equality = l.one_equality;
    body_values = l.body_values;
    form_values = l.form_values;
    body_one = l.body_one;
    one_form = l.one_form;
    one_value = l.one_value;
    form_fits = l.form_fits;
    form_check = l.form_check;
    form_der = l.form_der;
    form_body = l.form_body;
  }

  -- Its conversion is as exact.
  pub holding_converts : (gives : Any → Result S Error → Type 0) → IsExactConversion gives G →
      IsExactConversion (InnerGives held gives) (by_inner_element held G)
  holding_converts gives c = record { exact = exact; asks_no_memory = c.asks_no_memory }
    where
      exact : (any : Any) (answer : Result T Error) → IsOctets any.content.now → InnerGives held gives any answer →
          TakesBody G.Body (λ x. G.value (held x)) G.allocates (λ (x y : Error). y ≡ x) (parts_of any) answer
      exact = inner_takes held (item_grammar G) gives (λ x y. y ≡ x) c.exact

  -- It is written as what it holds.
  pub holding_written : (number : ℕ) (octets : S → List ℕ) (is_refused : S → Bool) →
      IsWrittenElement G number octets is_refused →
      IsWrittenElement (by_inner_element held G) number (λ x. octets (held x)) (λ x. is_refused (held x))
  holding_written number octets is_refused l = record {
    by_value = λ x y e. l.by_value (held x) (held y) e;
    identifier = l.identifier;
    form = λ x i c f. l.form (held x) i c f;
    class = l.class;
    der = λ x d. l.der (held x) d;
    accepted = λ x i c f. l.accepted (held x) i c f;
    small = l.small;
  }
