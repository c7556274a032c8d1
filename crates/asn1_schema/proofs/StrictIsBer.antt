-- A strict word is a word by DER, and a word by DER is one by BER.
use Rattle.std.proofs.Common.{◌≡◌, sym, subst, refl, ℕ, zero, suc, ◌≤◌, inl, inr, Bool, true, false, List, [], ◌∷◌, arith}
use Rattle.x690.specs.Rules.{ber_rule}
use Rattle.x690.specs.Strict.{definite_parts}
use Rattle.x690.specs.Elements.{Parts, IsDerElement, IsDefiniteElement}
use Rattle.x690.specs.Nested.{IsElement, IsNestedElement}
use Rattle.x690.specs.Laws.StrictElements.{der_element_strict, strict_is_definite, ber_allows_strict}
use Rattle.asn1_schema.specs.declared.schema.Node.{Node}
use Rattle.asn1_schema.specs.Values.{Value}
use Rattle.asn1_schema.specs.declared.schema.Presence.TheVariants as presences
use Rattle.x690.specs.Joined.{AreWords}
use Rattle.asn1_schema.specs.Sound.{is_sound}
use Rattle.asn1_schema.specs.Grammar.{Rules, Says, Body, Word}
use Rattle.asn1_schema.proofs.OneWord.{one_word}
use Rattle.asn1_schema.specs.Rules.{der, ber, strict, IsTruth, IsStrictTruth, IsStrictInside}
use Rattle.asn1_schema.proofs.Includes.{Includes, Implies, MayStill, words_more}
use Rattle.asn1_schema.proofs.TimeTexts.{time_lax}

each_inside : (P Q : Parts → Type 0) → ((q : Parts) → P q → Q q) → (words : List (List ℕ)) →
    AreWords (λ word q. IsDerElement word q × P q) words → AreWords (λ word q. IsDerElement word q × Q q) words
each_inside P Q f [] w = tt
each_inside P Q f (x ∷ words) w = ((w.0.0, (w.0.1.0, f w.0.0 w.0.1.1)), each_inside P Q f words w.1)

inside_deeper : (d e : ℕ) (p : Parts) → d ≤ e → IsStrictInside d p → IsStrictInside e p
inside_deeper zero zero p l a = a
inside_deeper zero (suc e) p l a = inl a
inside_deeper (suc d) zero p l a = absurd (omega (arith, l))
inside_deeper (suc d) (suc e) p l (inl a) = inl a
inside_deeper (suc d) (suc e) p l (inr a) =
    let m : d ≤ e = omega (arith, l) in
    inr (a.0, each_inside (IsStrictInside d) (IsStrictInside e) (λ q w. inside_deeper d e q m w) a.0 a.1, a.2)

strict_in_der : Includes strict der
strict_in_der = record {
  element = λ o p a. a;
  truth = λ c b a. a;
  unused = λ bs a. a;
  named = λ bs a. a;
  time = λ kind o a. a;
  in_pieces = λ a. a;
  inside = inside_deeper;
  order = λ words a. tt;
  tag_order = λ ps a. a;
}

truth_lax : (c : List ℕ) (b : Bool) → IsStrictTruth c b → IsTruth c b
truth_lax c true a = (255, a, λ e. omega (arith, e))
truth_lax c false a = a

element_lax : (max : ℕ) (o : List ℕ) (p : Parts) → IsDerElement o p → IsElement (suc max) o p
unfolding IsNestedElement
element_lax max o p a =
    let whole : definite_parts p.id p.content ≡ p = λ i. record { id = p.id; form = sym a.counted i; content = p.content } in
    let d = strict_is_definite ber_rule ber_allows_strict o p.id p.content (der_element_strict o p a) in
    (1, inl (subst (λ (q : Parts). IsDefiniteElement ber_rule o q) whole d, refl))

der_in_ber : (max : ℕ) → Includes der (ber (suc max))
der_in_ber max = record {
  element = element_lax max;
  truth = truth_lax;
  unused = λ bs a. tt;
  named = λ bs a. tt;
  time = time_lax;
  in_pieces = λ a. absurd (cc);
  inside = λ d e p l a. tt;
  order = λ words a. a;
  tag_order = λ ps a. tt;
}

-- where defaults may be written, any value may
may_lax : (R S : Rules) → S.defaults_written ≡ true → (A B : Parts → Value → Type 0) → MayStill R S A B
may_lax R S w A B presences.Required o v a m = tt
may_lax R S w A B presences.Optional o v a m = tt
may_lax R S w A B (presences.Default d) o v a m = inl w

pub strict_is_der : (table : List Node) (d e t : ℕ) → d ≤ e → (o : List ℕ) (v : Value) → Word strict table d t o v →
    Word der table e t o v
strict_is_der table d e t l o v =
    words_more strict der strict_in_der table
    (λ d e l f t. may_lax strict der refl (Body strict table d t) (Body der table e t)) d e l t o v

pub der_is_ber : (table : List Node) (max d e t : ℕ) → d ≤ e → (o : List ℕ) (v : Value) → Word der table d t o v →
    Word (ber (suc max)) table e t o v
der_is_ber table max d e t l o v =
    words_more der (ber (suc max)) (der_in_ber max) table
    (λ d e l f t. may_lax der (ber (suc max)) refl (Body der table d t) (Body (ber (suc max)) table e t)) d e l t o v

der_in_der : Includes der der
der_in_der = record {
  element = λ o p a. a;
  truth = λ c b a. a;
  unused = λ bs a. a;
  named = λ bs a. a;
  time = λ kind o a. a;
  in_pieces = λ a. a;
  inside = inside_deeper;
  order = λ words a. a;
  tag_order = λ ps a. a;
}

ber_in_ber : (max : ℕ) → Includes (ber max) (ber max)
ber_in_ber max = record {
  element = λ o p a. a;
  truth = λ c b a. a;
  unused = λ bs a. a;
  named = λ bs a. a;
  time = λ kind o a. a;
  in_pieces = λ a. a;
  inside = λ d e p l a. tt;
  order = λ words a. a;
  tag_order = λ ps a. a;
}

strict_in_strict : Includes strict strict
strict_in_strict = record {
  element = λ o p a. a;
  truth = λ c b a. a;
  unused = λ bs a. a;
  named = λ bs a. a;
  time = λ kind o a. a;
  in_pieces = λ a. a;
  inside = inside_deeper;
  order = λ words a. a;
  tag_order = λ ps a. a;
}

pub der_deeper : (table : List Node) (d e t : ℕ) → d ≤ e → (o : List ℕ) (v : Value) → Word der table d t o v →
    Word der table e t o v
der_deeper table d e t l o v =
    words_more der der der_in_der table
    (λ d e l f t. may_lax der der refl (Body der table d t) (Body der table e t)) d e l t o v

pub ber_deeper : (table : List Node) (max d e t : ℕ) → d ≤ e → (o : List ℕ) (v : Value) → Word (ber max) table d t o v →
    Word (ber max) table e t o v
ber_deeper table max d e t l o v =
    words_more (ber max) (ber max) (ber_in_ber max) table
    (λ d e l f t. may_lax (ber max) (ber max) refl (Body (ber max) table d t) (Body (ber max) table e t)) d e l t o v

-- strictly, what is a default at a greater depth was one, since a value has one strict word
may_strict : (table : List Node) → is_sound table ≡ true → (d e : ℕ) →
    ((t : ℕ) → Implies (Body strict table d t) (Body strict table e t)) → (t : ℕ) →
    MayStill strict strict (Body strict table d t) (Body strict table e t)
may_strict table sound d e f t presences.Required o v a m = tt
may_strict table sound d e f t presences.Optional o v a m = tt
may_strict table sound d e f t (presences.Default x) o v a m = elim m [
  | inl w ↦ inl w
  | inr n ↦ inr (λ b.
      let same : o ≡ x.items = one_word table sound e t o x.items v
      (record { parts = a.parts; element = a.element; value = f t a.parts v a.value }) b in
      n (subst (λ (z : List ℕ). Says strict (Body strict table d t) z v) same a))
]

pub strict_deeper : (table : List Node) → is_sound table ≡ true → (d e t : ℕ) → d ≤ e → (o : List ℕ) (v : Value) →
    Word strict table d t o v → Word strict table e t o v
strict_deeper table sound d e t l o v =
    words_more strict strict strict_in_strict table (λ d e l f t. may_strict table sound d e f t) d e l t o v
