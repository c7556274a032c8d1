-- Elements that are taken out of others, and elements that ascend by their tags.
use Rattle.std.proofs.Common.{◌≡◌, ◌∙◌, ap, sym, subst, refl, ℕ, ◌<◌, arith, inl, inr, List, [], ◌∷◌, ◌++◌}
use Rattle.std.specs.Prelude.{◌⊎◌, Option, Some, None, IfSome}
use Rattle.x690.specs.Identifiers.{Identifier}
use Rattle.x690.specs.Elements.{Parts}
use Rattle.x690.specs.Joined.{IsConcatenation}
use Rattle.asn1_schema.specs.Grammar.{Takes}
use Rattle.asn1_schema.specs.Each.{Each}
use Rattle.asn1_schema.specs.Rules.{IsTagBefore, AscendBehind}

pub each_map : (P Q : Parts → Type 0) → ((p : Parts) → P p → Q p) → (es : List Parts) → Each P es → Each Q es
each_map P Q f [] a = tt
each_map P Q f (e ∷ es) a = (f e a.0, each_map P Q f es a.1)

pub each_append : (P : Parts → Type 0) (xs ys : List Parts) → Each P xs → Each P ys → Each P (xs ++ ys)
each_append P [] ys a b = b
each_append P (x ∷ xs) ys a b = (a.0, each_append P xs ys a.1 b)

put_in : (P : Parts → Type 0) (front back : List Parts) (e : Parts) → P e → Each P (front ++ back) →
    Each P (front ++ e ∷ back)
put_in P [] back e h a = (h, a)
put_in P (x ∷ front) back e h a = (a.0, put_in P front back e h a.1)

take_out : (P : Parts → Type 0) (front back : List Parts) (e : Parts) → Each P (front ++ e ∷ back) →
    P e × Each P (front ++ back)
take_out P [] back e a = (a.0, a.1)
take_out P (x ∷ front) back e a = let u = take_out P front back e a.1 in (u.0, (a.0, u.1))

-- what holds of the one and of the others
pub each_put : (P : Parts → Type 0) (es : List Parts) (e : Parts) (others : List Parts) → Takes es e others → P e →
    Each P others → Each P es
each_put P es e others t h a =
    subst (Each P) (sym t.is) (put_in P t.front t.back e h (subst (Each P) t.rest a))

-- what holds of all
pub each_left : (P : Parts → Type 0) (es : List Parts) (e : Parts) (others : List Parts) → Takes es e others →
    Each P es → P e × Each P others
each_left P es e others t a =
    let u = take_out P t.front t.back e (subst (Each P) t.is a) in
    (u.0, subst (Each P) (sym t.rest) u.1)

two_places : (front back : List Parts) (e : Parts) (first last : List Parts) (h : Parts) →
    front ++ e ∷ back ≡ first ++ h ∷ last →
    ((e ≡ h) × (front ++ back ≡ first ++ last)) ⊎ ((others : List Parts) × Takes (first ++ last) e others)
two_places [] back e [] last h s = inl (cc, cc)
two_places [] back e (x ∷ first) last h s =
    let same : x ≡ e = cc in
    inr (
      first ++ last,
      record {
        front = [];
        back = first ++ last;
        is = ap (λ (z : Parts). z ∷ (first ++ last)) same;
        rest = refl;
      },
    )
two_places (x ∷ front) back e [] last h s =
    let there : last ≡ front ++ e ∷ back = cc in
    inr (front ++ back, record { front = front; back = back; is = there; rest = refl })
two_places (x ∷ front) back e (y ∷ first) last h s =
    let same : x ≡ y = cc in
    let there : front ++ e ∷ back ≡ first ++ h ∷ last = cc in
    elim (two_places front back e first last h there) [
      | inl u ↦ let others = u.1 in inl (u.0, cc)
      | inr u ↦ let t = u.1 in inr (
        y ∷ u.0,
        record {
          front = y ∷ t.front;
          back = t.back;
          is = ap (λ (z : List Parts). y ∷ z) t.is;
          rest = ap (λ (z : List Parts). y ∷ z) t.rest;
        },
      )
    ]

-- one that is taken out is the other one, or one of the others
pub elsewhere : (es : List Parts) (e h : Parts) (others left : List Parts) → Takes es e others → Takes es h left →
    ((e ≡ h) × (others ≡ left)) ⊎ ((rest : List Parts) × Takes left e rest)
elsewhere es e h others left t u =
    elim (two_places t.front t.back e u.front u.back h (sym t.is ∙ u.is)) [
      | inl s ↦ inl (s.0, t.rest ∙ (s.1 ∙ sym u.rest))
      | inr s ↦ inr (s.0, subst (λ (z : List Parts). Takes z e s.0) (sym u.rest) s.1)
    ]

-- the one with a property is taken out where none of the others has it
pub one_taken : (P : Parts → Type 0) (es : List Parts) (e h : Parts) (others left : List Parts) → Takes es e others →
    Takes es h left → P e → Each (λ p. P p → ⊥) left → (e ≡ h) × (others ≡ left)
one_taken P es e h others left t u has none = elim (elsewhere es e h others left t u) [
  | inl s ↦ s
  | inr s ↦ absurd ((each_left (λ p. P p → ⊥) left e s.0 s.1 none).0 has)
]

pub tags_onward : (i j k : Identifier) → IsTagBefore i j → IsTagBefore j k → IsTagBefore i k
tags_onward i j k (inl a) (inl b) = inl (omega (arith, a, b))
tags_onward i j k (inl a) (inr b) = let s = b.0 in inl (omega (arith, a, s))
tags_onward i j k (inr a) (inl b) = let s = a.0 in inl (omega (arith, b, s))
tags_onward i j k (inr a) (inr b) = let m = a.1 in let n = b.1 in inr (a.0 ∙ b.0, omega (arith, m, n))

pub not_each_before : (i j : Identifier) → IsTagBefore i j → IsTagBefore j i → ⊥
not_each_before i j (inl a) (inl b) = omega (arith, a, b)
not_each_before i j (inl a) (inr b) = let s = b.0 in omega (arith, a, s)
not_each_before i j (inr a) (inl b) = let s = a.0 in omega (arith, b, s)
not_each_before i j (inr a) (inr b) = let m = a.1 in let n = b.1 in omega (arith, m, n)

further_last : (last : Option Identifier) (i j : Identifier) → IfSome last (λ l. IsTagBefore l i) → IsTagBefore i j →
    IfSome last (λ l. IsTagBefore l j)
further_last None i j a b = tt
further_last (Some l) i j a b = tags_onward l i j a b

-- Others ascend where all do.
without : (last : Option Identifier) (front back : List Parts) (e : Parts) → AscendBehind last (front ++ e ∷ back) →
    AscendBehind last (front ++ back)
without last [] [] e a = tt
without last [] (x ∷ back) e a = (further_last last e.id x.id a.0 a.1.0, a.1.1)
without last (x ∷ front) back e a = (a.0, without (Some x.id) front back e a.1)

pub ascend_left : (last : Option Identifier) (es : List Parts) (e : Parts) (others : List Parts) → Takes es e others →
    AscendBehind last es → AscendBehind last others
ascend_left last es e others t a =
    subst (AscendBehind last) (sym t.rest) (without last t.front t.back e (subst (AscendBehind last) t.is a))

pub all_behind : (i : Identifier) (front back : List Parts) (e : Parts) → AscendBehind (Some i) (front ++ e ∷ back) →
    IsTagBefore i e.id
all_behind i [] back e a = a.0
all_behind i (x ∷ front) back e a = tags_onward i x.id e.id a.0 (all_behind x.id front back e a.1)

one_place : (last : Option Identifier) (front back first rest : List Parts) (e : Parts) → front ++ back ≡ first ++ rest →
    AscendBehind last (front ++ e ∷ back) → AscendBehind last (first ++ e ∷ rest) →
    front ++ e ∷ back ≡ first ++ e ∷ rest
one_place last [] back [] rest e s a b = ap (λ (z : List Parts). e ∷ z) s
one_place last [] [] (y ∷ first) rest e s a b = absurd (cc)
one_place last [] (x ∷ back) (y ∷ first) rest e s a b =
    let same : x ≡ y = cc in
    absurd (not_each_before e.id y.id (subst (λ (z : Parts). IsTagBefore e.id z.id) same a.1.0)
    (all_behind y.id first rest e b.1))
one_place last (x ∷ front) back [] [] e s a b = absurd (cc)
one_place last (x ∷ front) back [] (y ∷ rest) e s a b =
    let same : y ≡ x = cc in
    absurd (not_each_before e.id x.id (subst (λ (z : Parts). IsTagBefore e.id z.id) same b.1.0)
    (all_behind x.id front back e a.1))
one_place last (x ∷ front) back (y ∷ first) rest e s a b =
    let same : x ≡ y = cc in
    let there : front ++ back ≡ first ++ rest = cc in
    let others = one_place (Some y.id) front back first rest e there
    (subst (λ (z : Parts). AscendBehind (Some z.id) (front ++ e ∷ back)) same a.1) b.1 in
    cc

-- An element has one place among others so that all ascend.
pub one_put : (es us : List Parts) (e : Parts) (others left : List Parts) → others ≡ left → Takes es e others →
    Takes us e left → AscendBehind None es → AscendBehind None us → es ≡ us
one_put es us e others left s t u a b =
    let same = one_place None t.front t.back u.front u.back e (sym t.rest ∙ (s ∙ u.rest))
    (subst (AscendBehind None) t.is a) (subst (AscendBehind None) u.is b) in
    t.is ∙ (same ∙ sym u.is)

-- each element has its word
pub each_joined : (G : List ℕ → Parts → Type 0) (P : Parts → Type 0) → ((o : List ℕ) (p : Parts) → G o p → P p) →
    (octets : List ℕ) (es : List Parts) → IsConcatenation G octets es → Each P es
each_joined G P f octets [] j = tt
each_joined G P f octets (e ∷ es) j = (f j.0 e j.2, each_joined G P f j.1 es j.4)
