-- Truth values are lawful leaves.
use Rattle.std.specs.Prelude.{◌≡◌, ◌<◌, ℕ, Bool, true, false, [], ◌∷◌, ◌↔◌, IsTrue, nat_eq}
use Rattle.std.proofs.Math.Bool.{beq}
use Rattle.std.specs.Cmp.{booleans_Decides}
use Rattle.std.proofs.Common.{◌∙◌, ap, sym, subst, refl, inl, inr, arith, lit<, eqb-true, eq-eqb}
use Rattle.x690.specs.Octets.{IsOctets}
use Rattle.x690.specs.Laws.Octets.{below_octets}
use Rattle.asn1_rs.specs.Checks.{IsCheck, has_content}
use Rattle.x690.specs.Strict.{header_octets, identifier_octets, length_octets}
use Rattle.asn1_rs.specs.Leaf.{IsLawfulLeaf, leaf_element}
use Rattle.asn1_rs.specs.declared.asn1_types.boolean.Boolean.{Boolean}
use Rattle.asn1_rs.specs.Boolean.{boolean_number, boolean_leaf, bool_leaf, truth_octet, says_true, IsStrictTruthOctet}
use Rattle.asn1_rs.specs.Boolean.{IsOtherTruth, truth_constraints, truth_octets, truth_writing}
use Rattle.asn1_rs.specs.Laws.Checks.{check_is, before_is, has_length_is, has_content_is}
use Rattle.asn1_rs.specs.Laws.Leaf.{leaf_written}
use Rattle.asn1_rs.specs.Grammar.Item.{IsLawfulWriting}
use Rattle.asn1_rs.specs.Kinds.{item_grammar}
use Rattle.asn1_rs.specs.Laws.Forms.{universal_lawful_writing}
use native.Mathlib.Nat.{ℕ_set}
use Rattle.std.proofs.Math.Bool.{Bool-set}

-- The constraints.

-- A number below 256 is an octet.
one_octet : (n : ℕ) → n < 256 → IsOctets (n ∷ [])
one_octet n h = below_octets (n ∷ []) (h, tt)

-- no octet is strict and not
truth_apart : (octet : ℕ) → IsStrictTruthOctet octet → IsOtherTruth octet → ⊥
truth_apart octet (inl a) b = b.0 a
truth_apart octet (inr a) b = b.1 a

-- The constraints of a truth value are a check.
truth_constraints_are : IsCheck truth_constraints
truth_constraints_are = before_is has_content _ has_content_is (check_is _ _ _ (λ p. truth_apart _) (λ p e. cc))

-- The laws.

-- the strict octet of what a strict octet says is that octet
pub strict_truth : (octet : ℕ) → IsStrictTruthOctet octet → truth_octet (says_true octet) ≡ octet
strict_truth octet (inl a) = rw a refl
strict_truth octet (inr a) = rw a refl

-- `Boolean` is lawful.
pub boolean_lawful : IsLawfulLeaf boolean_leaf
boolean_lawful = record {
  one_equality = ℕ_set;
  small = lit< tt;
  checks = has_length_is 1;
  constraints = truth_constraints_are;
  one_value = λ c v w a b. let e : v ∷ [] ≡ w ∷ [] = sym a ∙ b in cc;
  says_value = λ p v o m s. subst IsOctets s o.content 0;
  der_value = λ v d. small v d;
  der_octets =
      λ v d. one_octet (truth_octet (says_true v)) (subst (λ (n : ℕ). n < 256) (sym (strict_truth v d)) (small v d));
  der_says = λ v d. ap (λ (n : ℕ). n ∷ []) (strict_truth v d);
  der_checks = λ k v d. (refl, refl);
  der_constraints = λ k v d. ((λ e. cc), subst IsStrictTruthOctet (sym (strict_truth v d)) d);
}
  where
    small : (v : ℕ) → IsStrictTruthOctet v → v < 256
    small v (inl e) = omega (arith, e)
    small v (inr e) = omega (arith, e)

-- `bool` is lawful.
pub bool_lawful : IsLawfulLeaf bool_leaf
bool_lawful = record {
  one_equality = Bool-set;
  small = lit< tt;
  checks = has_length_is 1;
  constraints = truth_constraints_are;
  one_value = λ c v w a b. same v w a.0 b.0 a.2 b.2 (sym a.1 ∙ b.1);
  says_value = λ p v o m s. tt;
  der_value = λ v d. tt;
  der_octets = λ v d. octets v;
  der_says = λ v d. says v;
  der_checks = λ k v d. (refl, refl);
  der_constraints = λ k v d. ((λ e. cc), strict v);
}
  where
    same : (v w : Bool) (m n : ℕ) → v ≡ says_true m → w ≡ says_true n → m ∷ [] ≡ n ∷ [] → v ≡ w
    same v w m n a b e = let f : m ≡ n = cc in a ∙ ap says_true f ∙ sym b

    octets : (v : Bool) → IsOctets (truth_octet v ∷ [])
    octets true = one_octet 255 (lit< tt)
    octets false = one_octet 0 (lit< tt)

    says : (v : Bool) → (octet : ℕ) × (truth_octet v ∷ [] ≡ octet ∷ []) × (v ≡ says_true octet)
    says true = (255, refl, refl)
    says false = (0, refl, refl)

    strict : (v : Bool) → IsStrictTruthOctet (truth_octet v)
    strict true = inr refl
    strict false = inl refl

-- Equality.

-- truth values are equal where they are the same
pub bool_equal : (x y : Bool) → IsTrue (beq x y) ↔ (x ≡ y)
bool_equal x y = booleans_Decides x y

-- Two of `Boolean` are equal exactly where their octets are.
pub boolean_equal : (x y : Boolean) → IsTrue (nat_eq x.value y.value) ↔ (x.value ≡ y.value)
boolean_equal x y = (λ h. eqb-true x.value y.value h, λ e. eq-eqb x.value y.value e)

-- Writing.

-- a truth value with its octet is written as one contents octet
pub boolean_lawful_writing : IsLawfulWriting (item_grammar (leaf_element boolean_leaf)) truth_writing
unfolding header_octets identifier_octets length_octets
boolean_lawful_writing = universal_lawful_writing (leaf_element boolean_leaf) boolean_number truth_octets (λ _. false)
    (leaf_written boolean_leaf boolean_lawful) (λ _ _. ⊥)
