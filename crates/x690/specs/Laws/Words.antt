-- Elements as words, and strict elements as encodings.
use Rattle.std.proofs.Common.{◌≡◌, ℕ, List, [], arith, subst}
use Rattle.x690.specs.Identifiers.{Identifier}
use Rattle.x690.specs.Rules.{Rule, ber_rule}
use Rattle.x690.specs.Elements.{IsDefiniteElement, IsStrictElement}
use Rattle.x690.specs.Strict.{definite_parts}
use Rattle.x690.specs.Nested.{IsElement}
use Rattle.x690.specs.Joined.{IsPrefixFree}
use Rattle.x690.specs.Collections.{AreEncodings, IsStrictOf, IsStrictWith}
use Rattle.x690.specs.Laws.Elements.{definite_element_unique, definite_element_two}
use Rattle.x690.specs.Laws.Nested.{nested_element_unique, nested_element_two}
use Rattle.x690.specs.Laws.StrictElements.{ber_allows_strict, strict_is_definite, strict_element_one}
use Rattle.x690.specs.Laws.StrictElements.{strict_element_unique}

-- One element of definite length alone begins an input.
pub definite_words : (rule : Rule) → IsPrefixFree (IsDefiniteElement rule)
definite_words rule = record {
  one = λ x y r s p q a b e. let u = definite_element_unique rule rule x y r s p q a b e in (u.0, u.1);
  some = λ p a. let l = definite_element_two rule [] p a in absurd (omega (arith, l));
}

-- So of an element by BER.
pub nested_words : (depth : ℕ) → IsPrefixFree (IsElement depth)
nested_words depth = record {
  one = λ x y r s p q a b e. let u = nested_element_unique depth x y r s p q a.0 b.0 a.1 b.1 e in (u.0, u.1);
  some = λ p a. let l = nested_element_two depth [] p a.0 a.1 in absurd (omega (arith, l));
}

strict_some : (i : Identifier) (c : List ℕ) → IsStrictElement [] i c → ⊥
strict_some i c a =
    let l = definite_element_two ber_rule [] (definite_parts i c)
    (strict_is_definite ber_rule ber_allows_strict [] i c a) in
    omega (arith, l)

-- Strict elements are encodings.
pub strict_encodings : AreEncodings IsStrictOf
strict_encodings = record {
  one_string = λ v o p s t. strict_element_one o p v.0 v.1 s t;
  words = record {
    one = λ x y r s v w a b e.
        let u = strict_element_unique x y r s v.0 w.0 v.1 w.1 a b e in
        (u.0, λ k. (u.1 k, u.2 k));
    some = λ v a. strict_some v.0 v.1 a;
  };
}

-- where a value has one content, and a content one value, the strict elements of contents are encodings
pub content_encodings : {M : Type 0} (id : Identifier) (Content : M → List ℕ → Type 0) →
    ((m : M) (c d : List ℕ) → Content m c → Content m d → c ≡ d) →
    ((m n : M) (c : List ℕ) → Content m c → Content n c → m ≡ n) → AreEncodings (IsStrictWith id Content)
content_encodings id Content one_content one_value = record {
  one_string = λ m o p s t. strict_element_one o p id t.0
      (subst (λ (c : List ℕ). IsStrictElement o id c) (one_content m s.0 t.0 s.1 t.1) s.2) t.2;
  words = record {
    one = λ x y r s m n a b e.
        let u = strict_element_unique x y r s id id a.0 b.0 a.2 b.2 e in
        (u.0, one_value m n b.0 (subst (Content m) u.2 a.1) b.1);
    some = λ m a. strict_some id a.0 a.2;
  };
}
