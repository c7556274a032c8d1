-- Laws of values with the header of their tag in hand.
use Rattle.std.specs.Prelude.{◌≡◌, ◌↔◌, ℕ, ◌<◌, ◌^◌, Bool, true, ◌&&◌, IsTrue, List, [], length}
use Rattle.std.proofs.Common.{arith, zero, suc, ◌∙◌, ap, sym, subst, refl}
use mathlib.Core.Logic.{∥∥₁_map}
use Rattle.x690.specs.Identifiers.{Identifier}
use Rattle.x690.specs.Elements.{Parts, ArePossible, IsDerElement}
use Rattle.x690.specs.Rules.{der_rule}
use Rattle.x690.specs.Joined.{IsPrefixFree}
use Rattle.x690.specs.Strict.{header_octets}
use Rattle.x690.specs.Laws.StrictElements.{der_allows_strict}
use Rattle.asn1_headers.specs.declared.header.Header.{Header}
use Rattle.asn1_rs.specs.Grammar.{IsOneBody, FormBodies, FormNumber, FormTakes, NoCheck, made}
use Rattle.asn1_rs.specs.Grammar.Form.{IsStrict, HasForm, WritesByValue, WritesForm}
use Rattle.asn1_rs.specs.Grammar.Item.{ItemGrammar, IsLawfulItem, ber_words}
use Rattle.asn1_headers.specs.Header.{identifier_of, is_same_identifier}
use Rattle.asn1_rs.specs.Laws.Any.Writing.{identifiers_are_same, parts_same, both_true}
use Rattle.asn1_rs.specs.Laws.Readers.{der_elements}
use Rattle.asn1_rs.specs.Laws.Tagged.{whole_front}
use Rattle.asn1_rs.specs.Laws.Tagged.Explicit.{explicit_one_form, explicit_fits, explicit_form_check, explicit_by_value}
use Rattle.asn1_rs.specs.Laws.Tagged.Explicit.{explicit_writes_form, explicit_has_form}
use Rattle.asn1_rs.specs.Laws.Tagged.Implicit.{implicit_one_form, implicit_fits, implicit_form_body}
use Rattle.asn1_rs.specs.Laws.Tagged.Implicit.{implicit_form_check, implicit_by_value, implicit_writes_form}
use Rattle.asn1_rs.specs.Laws.Tagged.Implicit.{implicit_has_form, under_possible}
use Rattle.asn1_rs.specs.Laws.Words.{word_one, strict_element, strict_apart, strict_der_word, ber_one, ber_values}
use Rattle.asn1_rs.specs.Laws.Words.{strict_ber}
use Rattle.asn1_rs.specs.Tagged.Implicit.{under}
use Rattle.asn1_rs.specs.Tagged.Headed.{HeadedBody, HeadedWhole, HeadedForm, IsBorne, UnderBody, UnderForm}
use Rattle.asn1_rs.specs.Tagged.Headed.{CheckedBody}
use Rattle.asn1_rs.specs.Tagged.Headed.{HasInnerForm, explicit_headed, implicit_headed, headed_value}
use Rattle.asn1_rs.specs.ToDer.{Writing, whole_octets}
use Rattle.asn1_rs.specs.Tagged.Writing.{explicit_under, headed_writing, implicit_under}
use Rattle.asn1_rs.specs.Laws.Forms.{strict_written, behind_header, whole_writable}
use Rattle.x690.specs.Laws.Equality.{identifier_set}
use mathlib.Core.HLevel.{Σ_set}

-- Identifiers beside values.

-- Pairs are the same where both parts are.
pair_same : {A B : Type 0} (x y : A × B) → x.0 ≡ y.0 → x.1 ≡ y.1 → x ≡ y
pair_same x y p q = ap (λ z. (z, x.1)) p ∙ ap (λ z. (y.0, z)) q

-- an identifier is told by its constructed bit, beside its class and its number
by_constructed : (i : Identifier) (b : Bool) → i.constructed ≡ b →
    i ≡ record { class = i.class; constructed = b; number = i.number }
by_constructed i b e =
    ap (λ (c : Bool). let j : Identifier = record { class = i.class; constructed = c; number = i.number } in j) e

-- two values with their headers are equal exactly where what the identifier octets say is, and the values are
pub headed_same : {V : Type 0} (g h : Header) (same : Bool) (v w : V) → IsTrue same ↔ (v ≡ w) →
    IsTrue (is_same_identifier g h && (same && true)) ↔
    ◌≡◌ {A = Identifier × V} (identifier_of g, v) (identifier_of h, w)
headed_same {V} g h same v w law = (
  λ t.
      let b = both_true (is_same_identifier g h) (same && true) t in
      pair_same (identifier_of g, v) (identifier_of h, w) (identifiers_are_same g h b.0)
      (law.0 (both_true same true b.1).0),
  λ e.
      let i : is_same_identifier g h ≡ true = parts_same g h (ap (λ (z : Identifier × V). z.0) e) in
      let c : same ≡ true = law.1 (ap (λ (z : Identifier × V). z.1) e) in
      ap (λ b. b && (same && true)) i ∙ ap (λ b. b && true) c,
)

-- Explicit tags: what is read.

module _ {V : Type 0} (G : List ℕ → V → Type 0) where
  -- Contents octets that are a word of the value begin with one.
  headed_begins : (p : Parts) (v : Identifier × V) → HeadedWhole G p v → HeadedBody G p v
  headed_begins p v b = record { id = b.id; rest = []; inner = whole_front G p.content v.1 b.inner }

  -- An element has one value with its header, where one word alone begins its contents octets.
  headed_one_body : IsPrefixFree G → IsOneBody (HeadedBody G)
  headed_one_body one p v w a b = pair_same v w (a.id ∙ sym b.id) (one.one a.inner.word b.inner.word a.rest b.rest v.1
      w.1 a.inner.fits b.inner.fits (sym a.inner.is ∙ b.inner.is)).1

  -- So has one whose contents octets are a word.
  headed_one_whole : IsPrefixFree G → IsOneBody (HeadedWhole G)
  headed_one_whole one p v w a b = headed_one_body one p v w (headed_begins p v a) (headed_begins p w b)

  -- Its identifier is one that an element can have, and the value within one of the type's.
  headed_values : (P : V → Type 0) → ((o : List ℕ) (v : V) → G o v → P v) → (p : Parts) (v : Identifier × V) →
      ArePossible p → HeadedBody G p v → IsBorne v.0 × P v.1
  headed_values P h p v a b =
      (subst IsBorne (sym b.id) (record { class = a.class; number = a.number }), h b.inner.word v.1 b.inner.fits)

  -- Strict parts have the value with its header, and nothing else.
  headed_form_whole : (Form : V → Identifier → List ℕ → Type 0) → ((v : V) (o : List ℕ) → IsStrict Form v o → G o v) →
      FormBodies (HeadedForm Form) (HeadedWhole G)
  headed_form_whole Form words = λ v i c f. record { id = f.0; inner = words v.1 c f.1.inner }

  -- They begin with the value.
  headed_form_body : (Form : V → Identifier → List ℕ → Type 0) → ((v : V) (o : List ℕ) → IsStrict Form v o → G o v) →
      FormBodies (HeadedForm Form) (HeadedBody G)
  headed_form_body Form words = λ v i c f. headed_begins (made i c) v (headed_form_whole Form words v i c f)

-- Values with the header of their explicit tag are lawful over a lawful type.
pub explicit_headed_lawful : {S T : Type 0} (identifier : T → Identifier) (inner : T → S) (G : ItemGrammar S) →
    IsLawfulItem G → IsLawfulItem (explicit_headed identifier inner G)
explicit_headed_lawful identifier inner G l = record {
  one_equality = Σ_set identifier_set (λ i. l.one_equality);
  der_element = λ o v w. (w.0, w.1);
  der_values = λ o v w. headed_values G.Der G.IsValue l.der_values w.0 v (der_elements.possible o w.0 w.1)
      (headed_begins G.Der w.0 v w.3);
  body_values = headed_values (ber_words G) G.IsValue (ber_values G l);
  form_values = λ v i c f. (
    record { class = f.1.is_class; number = f.1.is_number },
    l.form_values v.1 f.1.inner.id f.1.inner.content f.1.inner.form,
  );
  der_one = word_one IsDerElement NoCheck (HeadedWhole G.Der) der_elements.one (headed_one_whole G.Der l.der_one);
  body_one = headed_one_body (ber_words G) (ber_one G l);
  one_form = λ v i j c d f g. explicit_one_form (v.0).class (v.0).number G.Form l.one_form v.1 i j c d f.1 g.1;
  one_value = λ v w i c f g.
      pair_same v w (f.0 ∙ sym g.0) (strict_apart G.Form l.one_value v.1 w.1 c c [] [] f.1.inner g.1.inner refl).1;
  form_fits = λ v i c f. explicit_fits (v.0).class (v.0).number G.Form v.1 i c f.1;
  form_check = λ v i c f. explicit_form_check (v.0).class (v.0).number G.Form IsDerElement
      (strict_element der_rule der_allows_strict G.Form) G.Check l.form_check v.1 i c f.1;
  form_der = λ v i c f. (
    record { class = f.1.is_class; number = f.1.is_number },
    ap (λ (z : Identifier). z.constructed) (f.0 ∙ f.1.id_is),
    l.form_der v.1 f.1.inner.id f.1.inner.content f.1.inner.form,
  );
  form_body = headed_form_body (ber_words G) G.Form (strict_ber G l);
  strict_der = strict_der_word (HeadedForm G.Form) NoCheck (HeadedWhole G.Der) (λ v i c f. tt)
      (headed_form_whole G.Der G.Form l.strict_der);
}

-- Explicit tags: what is written.

-- what is written under an explicit tag is what is written under one of the header's class and number
module _ {S T V : Type 0} (identifier : T → Identifier) (inner : T → S) (value : S → V) (w : Writing S) where
  -- what is written under the header in hand
  abbrev Explicitly : Writing T
  Explicitly = headed_writing identifier inner (explicit_under w) w

  -- It follows from the header and the value.
  pub explicit_headed_by_value : WritesByValue value w → WritesByValue (headed_value identifier inner value) Explicitly
  explicit_headed_by_value law = λ x y e.
      let l = explicit_by_value (identifier x).class (identifier x).number inner value w law x y
      (ap (λ (z : Identifier × V). z.1) e) in (
        refl,
        l.1 ∙ ap
            (λ (z : Identifier × V). header_octets (z.0).class true (z.0).number (length (whole_octets w (inner y)))) e,
        l.2,
      )

  -- It is the strict parts, where a value has such.
  pub explicit_headed_writes_form : (Form : V → Identifier → List ℕ → Type 0) → WritesForm value Form w →
      WritesForm (headed_value identifier inner value) (HeadedForm Form) Explicitly
  explicit_headed_writes_form Form law = λ t i c f.
      let k = explicit_writes_form (identifier t).class (identifier t).number inner value w Form law t i c f.1 in
      let free = strict_written value Form w law (inner t) c f.1.inner in
      ((k.0.0, behind_header (w.count_refuses (inner t)) k.0.0, whole_writable w (inner t) free.0), k.1, k.2, k.3)

  -- A value in DER form under a constructed header has strict parts.
  pub explicit_headed_has_form : (Form : V → Identifier → List ℕ → Type 0) (IsDer : V → Type 0) → ((x : S) →
      IsDer (value x) → length (whole_octets w x) < 2 ^ 64 → ∥ IsStrict Form (value x) (whole_octets w x) ∥₁) →
      HasForm (headed_value identifier inner value) (λ v. IsBorne v.0 × ((v.0).constructed ≡ true) × IsDer v.1)
      (HeadedForm Form) Explicitly
  explicit_headed_has_form Form IsDer strict t d l =
      ∥∥₁_map (explicit_has_form (identifier t).class (identifier t).number inner value w Form IsDer strict t
      (d.0.class, d.0.number, d.2) l)
      (λ s. (s.0, (by_constructed (identifier t) true d.1 ∙ sym s.1.id_is, s.1)))

-- Implicit tags: what is read.

-- what one says of each of the four classes holds of a class
pub each_class : (P : ℕ → Type 0) → P 0 → P 1 → P 2 → P 3 → (class : ℕ) → class < 4 → P class
each_class P a b c d zero l = a
each_class P a b c d (suc zero) l = b
each_class P a b c d (suc (suc zero)) l = c
each_class P a b c d (suc (suc (suc zero))) l = d
each_class P a b c d (suc (suc (suc (suc n)))) l = absurd (omega arith)

module _ {V : Type 0} (own : ℕ) (Body : Parts → V → Type 0) where
  -- An element has one value with its header, where it has one by the value's own number.
  under_one_body : IsOneBody Body → IsOneBody (UnderBody own Body)
  under_one_body one p v w a b = pair_same v w (a.id ∙ sym b.id) (one (under own p) v.1 w.1 a.body b.body)

  -- Its identifier is one that an element can have, and the value within one of the type's.
  under_values : (P : V → Type 0) → own < 2 ^ 32 → ((p : Parts) (v : V) → ArePossible p → Body p v → P v) →
      (p : Parts) (v : Identifier × V) → ArePossible p → UnderBody own Body p v → IsBorne v.0 × P v.1
  under_values P small h p v a b = (
    subst IsBorne (sym b.id) (record { class = a.class; number = a.number }),
    h (under own p) v.1 (under_possible own p small a) b.body,
  )

-- lawful over a type whose strict parts are taken under each of the four classes
pub implicit_headed_lawful : {S T : Type 0} (identifier : T → Identifier) (own : ℕ) (inner : T → S)
    (G : ItemGrammar S) → IsLawfulItem G → own < 2 ^ 32 → FormNumber G.Form own →
    ((class : ℕ) → class < 4 → FormTakes G.Form G.Check G.Body class) →
    IsLawfulItem (implicit_headed identifier own inner G)
implicit_headed_lawful identifier own inner G l small numbered takes = record {
  one_equality = Σ_set identifier_set (λ i. l.one_equality);
  der_element = λ o v w. (w.0, w.1);
  der_values = λ o v w. under_values own (CheckedBody G.Check G.Body) G.IsValue small
      (λ p v a b. l.body_values p v a b.1) w.0 v (der_elements.possible o w.0 w.1) w.3;
  body_values = under_values own G.Body G.IsValue small l.body_values;
  form_values =
      λ v i c f. (record { class = f.1.is_class; number = f.1.is_number }, l.form_values v.1 f.1.own c f.1.form);
  der_one = word_one IsDerElement NoCheck (UnderBody own (CheckedBody G.Check G.Body)) der_elements.one
      (under_one_body own (CheckedBody G.Check G.Body) (λ p v w a b. l.body_one p v w a.1 b.1));
  body_one = under_one_body own G.Body l.body_one;
  one_form = λ v i j c d f g. implicit_one_form (v.0).class (v.0).number G.Form l.one_form v.1 i j c d f.1 g.1;
  one_value = λ v w i c f g.
      pair_same v w (f.0 ∙ sym g.0) (l.body_one (under own (made i c)) v.1 w.1 (body v i c f) (body w i c g));
  form_fits = λ v i c f. implicit_fits (v.0).class (v.0).number G.Form l.form_fits v.1 i c f.1;
  form_check = λ v i c f. implicit_form_check (v.0).class (v.0).number G.Form own G.Check G.Body numbered
      (takes (v.0).class f.1.is_class) v.1 i c f.1;
  form_der = λ v i c f. (
    record { class = f.1.is_class; number = f.1.is_number },
    λ j d h. ap (λ (z : Identifier). z.constructed) (f.0 ∙ f.1.id_is)
        ∙ ap (λ (z : Identifier). z.constructed) (l.one_form v.1 f.1.own j c d f.1.form h).0,
    l.form_der v.1 f.1.own c f.1.form,
  );
  form_body = λ v i c f. record { id = f.0; body = body v i c f };
  strict_der = strict_der_word (UnderForm G.Form) NoCheck (UnderBody own (CheckedBody G.Check G.Body)) (λ v i c f. tt)
      (λ v i c f. record { id = f.0; body = (check v i c f, body v i c f) });
}
  where
    body : (v : Identifier × G.Value) (i : Identifier) (c : List ℕ) → UnderForm G.Form v i c →
        G.Body (under own (made i c)) v.1
    body v i c f = (implicit_form_body (v.0).class (v.0).number G.Form own G.Check G.Body numbered
        (takes (v.0).class f.1.is_class) v.1 i c f.1).body

    check : (v : Identifier × G.Value) (i : Identifier) (c : List ℕ) → UnderForm G.Form v i c →
        G.Check (under own (made i c))
    check v i c f = (implicit_form_check (v.0).class (v.0).number G.Form own G.Check G.Body numbered
        (takes (v.0).class f.1.is_class) v.1 i c f.1).checked

-- Implicit tags: what is written.

-- what is written under an implicit tag is what is written under one of the header's class and number
module _ {S T V : Type 0} (identifier : T → Identifier) (inner : T → S) (value : S → V) (w : Writing S) where
  -- what is written under the header in hand
  abbrev Implicitly : Writing T
  Implicitly = headed_writing identifier inner (implicit_under w) w

  -- It follows from the header and the value.
  pub implicit_headed_by_value : WritesByValue value w → WritesByValue (headed_value identifier inner value) Implicitly
  implicit_headed_by_value law = λ x y e.
      let l = implicit_by_value (identifier x).class (identifier x).number inner value w law x y
      (ap (λ (z : Identifier × V). z.1) e) in (
        l.0,
        l.1 ∙ ap (λ (z : Identifier × V).
            header_octets (z.0).class (w.constructed (inner y)) (z.0).number (length (w.content (inner y)))) e,
        l.2,
      )

  -- It is the strict parts, where a value has such.
  pub implicit_headed_writes_form : (Form : V → Identifier → List ℕ → Type 0) → WritesForm value Form w →
      WritesForm (headed_value identifier inner value) (UnderForm Form) Implicitly
  implicit_headed_writes_form Form law = λ t i c f.
      let k = implicit_writes_form (identifier t).class (identifier t).number inner value w Form law t i c f.1 in
      let free = law (inner t) f.1.own c f.1.form in
      ((k.0.0, behind_header (w.count_refuses (inner t)) k.0.0, free.0.2), k.1, k.2, k.3)

  -- A value in DER form, under a header with the constructed bit of its form, has strict parts.
  pub implicit_headed_has_form : (Form : V → Identifier → List ℕ → Type 0) (IsDer : V → Type 0) →
      HasForm value IsDer Form w →
      HasForm (headed_value identifier inner value)
      (λ v. IsBorne v.0 × HasInnerForm Form (v.0).constructed v.1 × IsDer v.1) (UnderForm Form) Implicitly
  implicit_headed_has_form Form IsDer has t d l =
      ∥∥₁_map (implicit_has_form (identifier t).class (identifier t).number inner value w Form IsDer has t
      (d.0.class, d.0.number, d.2) l)
      (λ s. (
        s.0,
        (
          by_constructed (identifier t) s.1.own.constructed (d.1 s.1.own (w.content (inner t)) s.1.form)
              ∙ sym s.1.id_is,
          s.1,
        ),
      ))
