-- Laws of the numbers of signed integers.
use Rattle.std.specs.Prelude.{ℤ, IsTrue, ◌↔◌}
use Rattle.std.specs.Cmp.{signed_Decides}
use Rattle.std.proofs.Common.{◌≡◌, ◌∙◌, sym, ℕ, List, int_eq}
use Rattle.x690.specs.Octets.{IsOctets}
use Rattle.x690.specs.Digits.{twos_complement_value}
use Rattle.x690.specs.Signed.{IsSigned}
use Rattle.asn1_headers.specs.declared.error.Error.{Error}
use Rattle.asn1_rs.specs.Traits.{OfParts}
use Rattle.asn1_rs.specs.Integer.{SignedRefuses, SignedGives, integer_element}
use Rattle.asn1_rs.specs.Kinds.{IsExactConversion}
use Rattle.asn1_rs.specs.Laws.Integer.{integer_converts}

-- a number that is refused is not held
pub signed_refused : (size : ℕ) (c : List ℕ) (e : Error) → IsOctets c → SignedRefuses size c e →
    IsSigned size (twos_complement_value c) → ⊥
signed_refused size c e o h s = h.0 s

-- the conversion to an integer of so many octets
pub signed_converts : (size : ℕ) →
    IsExactConversion (OfParts (SignedGives size)) (integer_element (λ (n : ℤ). n) (IsSigned size))
signed_converts size =
    integer_converts (IsSigned size) (λ n. n) (SignedRefuses size) (signed_refused size) (λ c h. let e = h.1 in cc)

-- it has one refusal
pub one_signed_refusal : (size : ℕ) (c : List ℕ) (e f : Error) → SignedRefuses size c e → SignedRefuses size c f → e ≡ f
one_signed_refusal size c e f h k = h.1 ∙ sym k.1

-- Integers with a sign are equal exactly where they are the same.
pub signed_equal : (x y : ℤ) → IsTrue (int_eq x y) ↔ (x ≡ y)
signed_equal x y = signed_Decides x y
