-- Words of element grammars: one alone begins an input, and strict encodings are words that are read back.
use Rattle.std.proofs.Common.{arith, ◌≡◌, ◌∙◌, ap, sym, subst, ℕ, List, ◌++◌, inl, inr}
use Rattle.std.proofs.lemmas.List.{append_cancel_left}
use Rattle.std.specs.Prelude.{Result, Ok, Err}
use Rattle.x690.specs.Identifiers.{Identifier}
use Rattle.x690.specs.Rules.{Rule, der_rule, ber_rule}
use Rattle.x690.specs.Elements.{Parts, IsDefiniteElement, IsStrictElement, AllowsStrict}
use Rattle.x690.specs.Laws.Nested.{definite_is_nested}
use Rattle.x690.specs.Laws.StrictElements.{der_allows_strict, ber_allows_strict, strict_is_definite, strict_element_one}
use Rattle.x690.specs.Laws.StrictElements.{strict_element_unique}
use Rattle.x690.specs.Joined.{IsPrefixFree}
use Rattle.asn1_headers.specs.declared.error.Err.{Err as Refusal}
use Rattle.asn1_headers.specs.Answers.{Exactly, ReadsBack}
use Rattle.asn1_rs.specs.Grammar.Form.{IsOneForm, IsOneValue, IsStrict}
use Rattle.asn1_rs.specs.Grammar.{IsOneBody, NoCheck, ElementWord, BerWord, DerWord, FormChecks, FormBodies, made}
use Rattle.asn1_headers.specs.Ber.{max_depth}
use Rattle.asn1_rs.specs.Grammar.Item.{ItemGrammar, IsLawfulItem, ber_words}
use Rattle.asn1_rs.specs.Laws.Readers.{ber_elements, none_now}
use Rattle.x690.specs.Nested.{IsElement}
use Rattle.x690.specs.Laws.Equality.{octets_set}
use mathlib.Core.HLevel.{×_prop, ⊥_prop}
use mathlib.Core.Logic.{∥∥₁_elim}

-- Words over elements.

-- words of one body, over elements of which one alone begins an input
pub word_one : {V : Type 0} (ElementOf : List ℕ → Parts → Type 0) (Check : Parts → Type 0) (Body : Parts → V → Type 0) →
    IsPrefixFree ElementOf → IsOneBody Body → IsPrefixFree (ElementWord ElementOf Check Body)
word_one ElementOf Check Body elements one = record {
  one = λ x y r s v w a b e.
      let same : (x ≡ y) × (a.0 ≡ b.0) = elements.one x y r s a.0 b.0 a.1 b.1 e in
      (same.0, one b.0 v w (subst (λ (q : Parts). Body q v) same.1 a.3) b.3);
  some = λ v a. elements.some a.0 a.1;
}

-- Strict encodings are words.

-- a strict encoding is one element of definite length by each rule that allows it
pub strict_element : {V : Type 0} (rule : Rule) → AllowsStrict rule →
    (Form : V → Identifier → List ℕ → Type 0) (v : V) (o : List ℕ) (s : IsStrict Form v o) →
    IsDefiniteElement rule o (made s.id s.content)
strict_element rule allows Form v o s = strict_is_definite rule allows o s.id s.content s.element

-- it is a word by DER where its parts meet check and body
pub strict_der_word : {V : Type 0} (Form : V → Identifier → List ℕ → Type 0) (Check : Parts → Type 0)
    (Body : Parts → V → Type 0) → FormChecks Form Check → FormBodies Form Body → (v : V) (o : List ℕ) →
    IsStrict Form v o → DerWord Check Body o v
strict_der_word Form Check Body checks bodies v o s = (
  made s.id s.content,
  strict_element der_rule der_allows_strict Form v o s,
  checks v s.id s.content s.form,
  bodies v s.id s.content s.form,
)

-- and by BER where they meet the body
pub strict_ber_word : {V : Type 0} (Form : V → Identifier → List ℕ → Type 0) (Body : Parts → V → Type 0) →
    FormBodies Form Body → (v : V) (o : List ℕ) → IsStrict Form v o → BerWord Body o v
strict_ber_word Form Body bodies v o s = (
  made s.id s.content,
  (
    1,
    definite_is_nested ber_rule max_depth o (made s.id s.content) (omega arith)
        (strict_element ber_rule ber_allows_strict Form v o s),
  ),
  tt,
  bodies v s.id s.content s.form,
)

-- Words of a lawful type.

-- Words by BER of a lawful item have values of the type, one alone begins an input,
-- and strict encodings are such words.
module _ {S : Type 0} (G : ItemGrammar S) (l : IsLawfulItem G) where
  -- A word by BER has a value of the type.
  pub ber_values : (o : List ℕ) (v : G.Value) → ber_words G o v → G.IsValue v
  ber_values o v w = l.body_values w.0 v (ber_elements.possible o w.0 w.1) w.3

  -- One word by BER alone begins an input.
  pub ber_one : IsPrefixFree (ber_words G)
  ber_one = word_one (IsElement max_depth) NoCheck G.Body ber_elements.one l.body_one

  -- A strict encoding is a word by BER.
  pub strict_ber : (v : G.Value) (o : List ℕ) → IsStrict G.Form v o → ber_words G o v
  strict_ber = strict_ber_word G.Form G.Body l.form_body

-- One strict encoding, and its reading.

-- a value has one strict encoding where it has one form
pub one_strict : {V : Type 0} (Form : V → Identifier → List ℕ → Type 0) → IsOneForm Form → (v : V) (o p : List ℕ) →
    IsStrict Form v o → IsStrict Form v p → o ≡ p
one_strict Form one v o p s t =
    let h = one v s.id t.id s.content t.content s.form t.form in
    strict_element_one o p t.id t.content (subst (λ (c : List ℕ). IsStrictElement o t.id c) h.1
    (subst (λ (i : Identifier). IsStrictElement o i s.content) h.0 s.element)) t.element

-- no other value has it, and it begins no other one
pub strict_apart : {V : Type 0} (Form : V → Identifier → List ℕ → Type 0) → IsOneValue Form →
    (v w : V) (o p r s : List ℕ) → IsStrict Form v o → IsStrict Form w p → o ++ r ≡ p ++ s → (o ≡ p) × (v ≡ w) × (r ≡ s)
strict_apart Form one v w o p r s x y e =
    let u = strict_element_unique o p r s x.id y.id x.content y.content x.element y.element e in
    let form : Form v y.id y.content =
    subst (λ (c : List ℕ). Form v y.id c) u.2 (subst (λ (i : Identifier). Form v i x.content) u.1 x.form) in
    (u.0, one v w y.id y.content form y.form, u.3)

-- the strict encoding is read back before any rest, where it is in hand
assert_read_back_valid : {T V E : Type 0} (IsTruncated : List ℕ → Type 0) (Form : V → Identifier → List ℕ → Type 0)
    (G : List ℕ → V → Type 0) (value : T → V) (memory : Refusal E → Type 0) →
    ((v : V) (o : List ℕ) → IsStrict Form v o → G o v) → IsPrefixFree G →
    (input : List ℕ) (answer : Result (List ℕ × T) (Refusal E)) → Exactly IsTruncated G value memory input answer →
    (v : V) (w rest : List ℕ) → IsStrict Form v w → input ≡ w ++ rest → ReadsBack value memory v rest answer
assert_read_back_valid IsTruncated Form G value memory word one input (Ok x) f v w rest s e =
    let same : (w ≡ f.word) × (v ≡ value x.1) =
    one.one w f.word rest x.0 v (value x.1) (word v w s) f.fits (sym e ∙ f.is) in
    (same.1, append_cancel_left w x.0 rest (ap (λ (z : List ℕ). z ++ x.0) same.0 ∙ sym f.is ∙ e))
assert_read_back_valid IsTruncated Form G value memory word one input (Err r) (inl m) v w rest s e = m
assert_read_back_valid IsTruncated Form G value memory word one input (Err r) (inr n) v w rest s e =
    absurd (none_now (IsTruncated input) r G input n w rest v e (word v w s))

-- and where there is only proof that octets are it, as of those that are written of a set
pub read_back : {T V E : Type 0} (IsTruncated : List ℕ → Type 0) (Form : V → Identifier → List ℕ → Type 0)
    (G : List ℕ → V → Type 0) (value : T → V) (memory : Refusal E → Type 0) → IsSet V →
    ((v : V) (o : List ℕ) → IsStrict Form v o → G o v) → IsPrefixFree G →
    (input : List ℕ) (answer : Result (List ℕ × T) (Refusal E)) → Exactly IsTruncated G value memory input answer →
    (v : V) (w rest : List ℕ) → ∥ IsStrict Form v w ∥₁ → input ≡ w ++ rest → ReadsBack value memory v rest answer
read_back IsTruncated Form G value memory equality word one input (Ok x) f v w rest s e =
    ∥∥₁_elim s (×_prop (equality v (value x.1)) (octets_set x.0 rest))
    (λ t. assert_read_back_valid IsTruncated Form G value memory word one input (Ok x) f v w rest t e)
read_back IsTruncated Form G value memory equality word one input (Err r) (inl m) v w rest s e = m
read_back IsTruncated Form G value memory equality word one input (Err r) (inr n) v w rest s e =
    absurd (∥∥₁_elim s ⊥_prop (λ t. none_now (IsTruncated input) r G input n w rest v e (word v w t)))
