-- Strings say one value.
use Rattle.std.proofs.Common.{◌≡◌, ◌∙◌, ap, sym, subst, refl, ℕ, zero, suc, inl, inr, Bool, true, false, List, ◌∷◌, length}
use Rattle.x690.specs.Joined.{IsPrefixFree}
use Rattle.x690.specs.Laws.Joined.{joined_same}
use Rattle.x690.specs.Elements.{Parts}
use Rattle.asn1_schema.specs.Values.{joined}
use Rattle.asn1_schema.specs.Grammar.{Rules, Says, StringOf, IsString, IsUniversal, bits_in, of_octets, of_bits}
use Rattle.asn1_schema.proofs.SameParts.{same_ends}

-- what the laws of values ask of a set of rules
pub record AreLawfulRules (R : Rules) : Type 0 where
  pub one : IsPrefixFree R.ElementOf
  pub truth : (c : List ℕ) (a b : Bool) → R.Truth c a → R.Truth c b → a ≡ b

-- an element has one value
abbrev pub HasOneValue : {V : Type 0} → (Parts → V → Type 0) → Type 0
HasOneValue {V} Sub = (p : Parts) (v w : V) → Sub p v → Sub p w → v ≡ w

-- then words are told apart
pub says_front : {V : Type 0} (R : Rules) → AreLawfulRules R → (Sub : Parts → V → Type 0) → HasOneValue Sub →
    IsPrefixFree (Says R Sub)
says_front {V} R lawful Sub one = record {
  one = λ x y r s v w a b e.
      let u = lawful.one.one x y r s a.parts b.parts a.element b.element e in
      (u.0, one b.parts v w (subst (λ (z : Parts). Sub z v) u.1 a.value) b.value);
  some = λ v a. lawful.one.some a.parts a.element;
}

-- contents octets say one value
abbrev pub HasOneContent : {A : Type 0} → StringOf A → Type 0
HasOneContent {A} S = (c : List ℕ) (xs ys : List A) → S.Content c xs → S.Content c ys → xs ≡ ys

not_both_forms : (b : Bool) → b ≡ false → b ≡ true → ⊥
not_both_forms true e f = absurd (cc)
not_both_forms false e f = absurd (cc)

-- so a string has one value
pub string_one : {A : Type 0} (R : Rules) → AreLawfulRules R → (S : StringOf A) → HasOneContent S → (depth : ℕ) →
    HasOneValue (IsString R S depth)
string_one R lawful S one zero p xs ys a b = absurd a
string_one R lawful S one (suc depth) p xs ys (inl a) (inl b) = one p.content xs ys a.1 b.1
string_one R lawful S one (suc depth) p xs ys (inl a) (inr b) = absurd (not_both_forms p.id.constructed a.0 b.1)
string_one R lawful S one (suc depth) p xs ys (inr a) (inl b) = absurd (not_both_forms p.id.constructed b.0 a.1)
string_one {A} R lawful S one (suc depth) p xs ys (inr a) (inr b) =
    let front = says_front R lawful (λ q zs. IsUniversal S.number q.id × IsString R S depth q zs)
    (λ q zs us c d. string_one R lawful S one depth q zs us c.1 d.1) in
    let same : a.2 ≡ b.2 = joined_same (Says R (λ q zs. IsUniversal S.number q.id × IsString R S depth q zs)) front
    p.content p.content a.2 b.2 refl a.5 b.5 in
    a.3 ∙ (ap joined same ∙ sym b.3)

pub one_octets : HasOneContent of_octets
one_octets c xs ys a b = a ∙ sym b

pub one_bits : (R : Rules) → HasOneContent (of_bits R)
one_bits R c xs ys a b =
    let e : length a.unused ∷ a.octets ≡ length b.unused ∷ b.octets = sym a.is ∙ b.is in
    let l : length a.unused ≡ length b.unused = cc in
    let o : a.octets ≡ b.octets = cc in
    (same_ends xs ys a.unused b.unused l (sym a.bits ∙ (ap bits_in o ∙ b.bits))).0
