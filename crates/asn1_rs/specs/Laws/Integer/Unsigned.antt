-- Laws of the numbers of unsigned integers.
use Rattle.std.specs.Prelude.{IsTrue, nat_eq, ◌↔◌, pos}
use Rattle.std.proofs.Common.{arith, ◌≡◌, ◌∙◌, ap, sym, refl, ℕ, List, eqb-true, eq-eqb}
use Rattle.x690.specs.Octets.{IsOctets}
use Rattle.x690.specs.Digits.{base_256_value, twos_complement_value}
use Rattle.x690.specs.Laws.Integers.{unsigned_value, negative_value}
use Rattle.asn1_headers.specs.declared.error.Error.{Error}
use Rattle.asn1_headers.specs.declared.error.Error.TheVariants.{IntegerNegative, IntegerTooLarge}
use Rattle.asn1_rs.specs.Traits.{OfParts}
use Rattle.asn1_rs.specs.Integer.{IsUnsigned, UnsignedRefuses, UnsignedGives, integer_element}
use Rattle.asn1_rs.specs.Kinds.{IsExactConversion}
use Rattle.asn1_rs.specs.Laws.Integer.{integer_converts}

-- a number that is refused is not held
pub unsigned_refused : (size : ℕ) (c : List ℕ) (e : Error) → IsOctets c → UnsignedRefuses size c e →
    IsUnsigned size (twos_complement_value c) → ⊥
unsigned_refused size c IntegerNegative o h u = negative_value c u.0 o h u.1
unsigned_refused size c IntegerTooLarge o h u =
    let same : pos (base_256_value c) ≡ pos u.0 = sym (unsigned_value c h.0) ∙ u.1 in
    let number : base_256_value c ≡ u.0 = cc in
    omega (arith, h.1, number, u.2)
unsigned_refused size c _ o h u = h

-- the conversion to a natural number of so many octets
pub unsigned_converts : (size : ℕ) →
    IsExactConversion (OfParts (UnsignedGives size)) (integer_element pos (IsUnsigned size))
unsigned_converts size =
    integer_converts (IsUnsigned size) pos (UnsignedRefuses size) (unsigned_refused size) (λ c h. h)

-- it has one refusal
pub one_unsigned_refusal : (size : ℕ) (c : List ℕ) (e f : Error) → UnsignedRefuses size c e →
    UnsignedRefuses size c f → e ≡ f
one_unsigned_refusal size c IntegerNegative IntegerNegative h k = refl
one_unsigned_refusal size c IntegerNegative IntegerTooLarge h k = absurd (omega (arith, h, k.0))
one_unsigned_refusal size c IntegerTooLarge IntegerNegative h k = absurd (omega (arith, h.0, k))
one_unsigned_refusal size c IntegerTooLarge IntegerTooLarge h k = refl
one_unsigned_refusal size c IntegerNegative _ h k = absurd k
one_unsigned_refusal size c IntegerTooLarge _ h k = absurd k
one_unsigned_refusal size c _ f h k = absurd h

-- natural numbers are the same where the integers are
pub unsigned_equal : (x y : ℕ) → IsTrue (nat_eq x y) ↔ (pos x ≡ pos y)
unsigned_equal x y = (λ h. ap pos (eqb-true x y h), λ e. eq-eqb x y (same x y e))
  where
    same : (x y : ℕ) → pos x ≡ pos y → x ≡ y
    same x y e = cc
