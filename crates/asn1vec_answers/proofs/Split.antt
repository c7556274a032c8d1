-- A line is split in one way.
use Rattle.std.proofs.Common.{◌≡◌, ◌≢◌, ℕ, List, [], ◌∷◌, ◌++◌, refl, sym, ap, ◌∙◌, subst, arith}
use Rattle.std.specs.List.{AllByRecursion, All}
use Rattle.std.proofs.lemmas.List.Elements.{recursion_from_All}
use Rattle.asn1vec_answers.specs.declared.request.Rule.{Rule}
use Rattle.asn1vec_answers.specs.declared.request.Rule.TheVariants.{Ber, Der}
use Rattle.asn1vec_answers.specs.Request.{IsRequest, IsOtherForm, StandsFor, BeginsWithRule}
use Rattle.asn1vec_answers.proofs.Hexadecimal.{one_meaning}

abbrev HasNoSpace : List ℕ → Type 0
HasNoSpace text = AllByRecursion (λ x. x ≢ 32) text

abbrev first : List ℕ → ℕ
first [] = 0
first (x ∷ xs) = x

-- a line begins with one rule
pub one_rule : (line rest other : List ℕ) (a b : Rule) → BeginsWithRule line a rest → BeginsWithRule line b other →
    (a ≡ b) × (rest ≡ other)
one_rule line rest other Ber Ber h k = (refl, let e = sym h ∙ k in cc)
one_rule line rest other Ber Der h k = absurd (omega (arith, ap first (sym h ∙ k)))
one_rule line rest other Der Ber h k = absurd (omega (arith, ap first (sym h ∙ k)))
one_rule line rest other Der Der h k = (refl, let e = sym h ∙ k in cc)

-- a word has no space
no_space : (word a b : List ℕ) → HasNoSpace word → word ≡ a ++ 32 ∷ b → ⊥
no_space [] [] b w e = absurd (cc)
no_space [] (x ∷ a) b w e = absurd (cc)
no_space (y ∷ word) [] b (n, w) e = n (cc)
no_space (y ∷ word) (x ∷ a) b (n, w) e = no_space word a b w (cc)

-- a text has one first word
one_word : (a b c d : List ℕ) → HasNoSpace a → HasNoSpace c → a ++ 32 ∷ b ≡ c ++ 32 ∷ d → (a ≡ c) × (b ≡ d)
one_word [] b [] d v w e = (refl, cc)
one_word [] b (y ∷ c) d v (n, w) e = absurd (n (cc))
one_word (x ∷ a) b [] d (n, v) w e = absurd (n (cc))
one_word (x ∷ a) b (y ∷ c) d (n, v) (m, w) e =
    let r = one_word a b c d v w (cc) in
    let first : x ≡ y = cc in
    (cc, r.1)

-- no request is in a line whose part after the rule has no space
pub without_space : (line rest : List ℕ) (a : Rule) → BeginsWithRule line a rest → All (λ x. x ≢ 32) rest →
    IsOtherForm line
without_space line rest a begins spaceless rule name octets r =
    let same = one_rule line rest (name ++ 32 ∷ r.digits) a rule begins r.parts in
    no_space rest name r.digits (recursion_from_All _ _ spaceless) same.1

-- nor in one whose digits stand for no octets
pub without_octets : (line rest word digits : List ℕ) (a : Rule) → BeginsWithRule line a rest →
    rest ≡ word ++ 32 ∷ digits → All (λ x. x ≢ 32) word → ((octets : List ℕ) → StandsFor octets digits → ⊥) →
    IsOtherForm line
without_octets line rest word digits a begins split spaceless none rule name octets r =
    let same = one_rule line rest (name ++ 32 ∷ r.digits) a rule begins r.parts in
    let parts = one_word word digits name r.digits (recursion_from_All _ _ spaceless)
    (recursion_from_All _ _ r.one_word) (sym split ∙ same.1) in
    none octets (subst (StandsFor octets) (sym parts.1) r.stands)

-- a line asks for one thing
pub requests_same : (line name other octets others : List ℕ) (rule second : Rule) → IsRequest line rule name octets →
    IsRequest line second other others → (rule ≡ second) × (name ≡ other) × (octets ≡ others)
requests_same line name other octets others rule second r s =
    let begins = one_rule line (name ++ 32 ∷ r.digits) (other ++ 32 ∷ s.digits) rule second r.parts s.parts in
    let parts = one_word name r.digits other s.digits (recursion_from_All _ _ r.one_word)
    (recursion_from_All _ _ s.one_word) begins.1 in
    (begins.0, parts.0, one_meaning octets others s.digits (subst (StandsFor octets) parts.1 r.stands) s.stands)
