-- Bit strings are lawful leaves.
use Rattle.std.specs.Prelude.{◌≡◌, ℕ, ◌+◌, ◌-◌, ◌*◌, ◌/◌, ◌%◌, ◌<◌, ◌≤◌, List, ◌∷◌, length, get_or, ◌↔◌, ◌⊎◌, IsTrue}
use Rattle.std.specs.Prelude.{nat_eq, ◌&&◌}
use Rattle.std.specs.Bool.{Decides}
use Rattle.std.specs.Cmp.{unsigned_Decides}
use Rattle.std.specs.Cmp.Lexicographic.{pointwise, pointwise_decides}
use Rattle.std.specs.Int.{bit_at, w8, trailing_zeros}
use Rattle.std.specs.Int.Count.{trailing_of_zero}
use Rattle.std.proofs.Common.{◌∙◌, ap, sym, subst, refl, lit<, arith, zero, suc, inl, inr}
use Rattle.std.proofs.lemmas.Bool.{cases_lt, and_parts, and_from}
use Rattle.std.proofs.lemmas.List.{get_or_past}
use Rattle.std.proofs.lemmas.Nat.Bits.{bit_at-trailing_zeros, bit_at-zero}
use Rattle.x690.specs.Octets.{IsOctets}
use Rattle.asn1_rs.specs.declared.asn1_types.bit_string.BitString.{BitString}
use Rattle.asn1_rs.specs.Checks.{IsCheck, is_primitive, has_content}
use Rattle.asn1_rs.specs.Leaf.{IsLawfulLeaf}
use Rattle.asn1_rs.specs.BitString.{Bits, Bits-set, bit_of, bits_of_content, bits_of_string, data_of, HasZeroUnused}
use Rattle.asn1_rs.specs.BitString.{AreStrictBits}
use Rattle.asn1_rs.specs.BitString.{bit_string_constraints, bit_string_leaf}
use Rattle.asn1_rs.specs.Laws.Checks.{before_is, has_content_is, is_primitive_is, content_check_is}
use Rattle.x690.specs.Laws.Equality.{octets_set}
use native.Mathlib.Nat.{ℕ_set}

-- The unused bits.

-- the bits below the lowest one that is set
low_bit : (octet j : ℕ) → octet < 256 → j < trailing_zeros w8 octet → bit_at octet j ≡ 0
low_bit zero j h k = bit_at-zero j
low_bit (suc n) j h k = (bit_at-trailing_zeros w8 (suc n) (omega arith) h).2 j k

-- the lowest bit that is set, where it is one of the seven lowest
lowest_bit : (octet : ℕ) → octet < 256 → trailing_zeros w8 octet < 7 → bit_at octet (trailing_zeros w8 octet) ≡ 1
lowest_bit zero h k = absurd (omega (arith, trailing_of_zero 8))
lowest_bit (suc n) h k = (bit_at-trailing_zeros w8 (suc n) (omega arith) h).1

-- the last octet, where there is one
abbrev last_octet : List ℕ → ℕ
last_octet octets = get_or octets (length octets - 1) 0

-- a bit of the last octet, by its place from the end
last_bit : (octets : List ℕ) (j : ℕ) → 0 < length octets → j < 8 →
    bit_of octets (8 * length octets - 1 - j) ≡ bit_at (last_octet octets) j
last_bit octets j some h =
    let i = 8 * length octets - 1 - j in
    let octet : i / 8 ≡ length octets - 1 = omega arith in
    let place : 7 - i % 8 ≡ j = omega arith in
    ap (λ (k : ℕ). bit_at (get_or octets k 0) (7 - i % 8)) octet ∙ ap (bit_at (last_octet octets)) place

module _ (unused : ℕ) (octets : List ℕ) (some : 0 < length octets) (few : unused ≤ 7)
    (small : last_octet octets < 256) where
  -- Where the last octet ends with as many zeros, an unused bit is zero.
  bit_is_zero : unused ≤ trailing_zeros w8 (last_octet octets) → (i : ℕ) → 8 * length octets ≤ i + unused →
      (i < 8 * length octets) ⊎ (8 * length octets ≤ i) → bit_of octets i ≡ 0
  bit_is_zero zeros i s (inl h) =
      let j = 8 * length octets - 1 - i in
      let place : i ≡ 8 * length octets - 1 - j = omega arith in
      ap (bit_of octets) place ∙ last_bit octets j some (omega arith)
      ∙ low_bit (last_octet octets) j small (omega arith)
  bit_is_zero zeros i s (inr h) =
      ap (λ (octet : ℕ). bit_at octet (7 - i % 8)) (get_or_past octets (i / 8) 0 (omega arith))
      ∙ bit_at-zero (7 - i % 8)

  -- Where the unused bits are zero, the last octet ends with as many zeros.
  ends_with_zeros : HasZeroUnused (record { unused = unused; octets = octets }) →
      (trailing_zeros w8 (last_octet octets) < unused) ⊎ (unused ≤ trailing_zeros w8 (last_octet octets)) →
      unused ≤ trailing_zeros w8 (last_octet octets)
  ends_with_zeros is_zero (inl h) =
      let least = trailing_zeros w8 (last_octet octets) in
      let set : bit_at (last_octet octets) least ≡ 1 = lowest_bit (last_octet octets) small (omega arith) in
      let clear : bit_at (last_octet octets) least ≡ 0 =
      sym (last_bit octets least some (omega arith)) ∙ is_zero (8 * length octets - 1 - least) (omega arith) in
      absurd (omega (arith, set, clear))
  ends_with_zeros is_zero (inr h) = h

  -- the unused bits are zero exactly where the last octet ends with so many zeros
  pub zero_unused : HasZeroUnused (record { unused = unused; octets = octets }) ↔
      (unused ≤ trailing_zeros w8 (last_octet octets))
  zero_unused = (
    λ is_zero. ends_with_zeros is_zero (cases_lt _ _),
    λ zeros i s. bit_is_zero zeros i s (cases_lt i (8 * length octets)),
  )

-- The laws.

-- a count of unused bits and then octets
counted_octets : (n : ℕ) (c : List ℕ) → n < 256 → IsOctets c → IsOctets (n ∷ c)
counted_octets n c h o zero = h
counted_octets n c h o (suc k) = o k

-- The constraints of a bit string are a check.
constraints_are : IsCheck bit_string_constraints
constraints_are = before_is is_primitive _ is_primitive_is
    (before_is has_content _ has_content_is
    (before_is _ _ (content_check_is _ _ (λ e. cc)) (content_check_is _ _ (λ e. cc))))

-- Bit strings are lawful.
pub bit_string_lawful : IsLawfulLeaf bit_string_leaf
bit_string_lawful = record {
  one_equality = Bits-set ℕ_set octets_set;
  small = lit< tt;
  checks = has_content_is;
  constraints = constraints_are;
  one_value = λ c v w a b. ap bits_of_content (sym a ∙ b);
  says_value = λ p v o m s. let octets = subst IsOctets s o.content in (octets 0, λ k. octets (suc k));
  der_value = λ v d. (few v d, d.octets);
  der_octets = λ v d. counted_octets v.unused v.octets (few v d) d.octets;
  der_says = λ v d. refl;
  der_checks = λ k v d. λ e. cc;
  der_constraints = λ k v d. (refl, ((λ e. cc), (d.empty, d.padded)));
}
  where
    few : (v : Bits) → AreStrictBits v → v.unused < 256
    few v d = let h = d.padded.0 in omega arith

-- bit strings are equal where their counts and their octets are
pub bit_string_equal : (x y : BitString) →
    IsTrue (nat_eq x.unused_bits y.unused_bits && pointwise nat_eq (data_of x) (data_of y)) ↔
    (bits_of_string x ≡ bits_of_string y)
bit_string_equal x y = (to, from)
  where
    octets : Decides (pointwise nat_eq (data_of x) (data_of y)) (data_of x ≡ data_of y)
    octets = pointwise_decides unsigned_Decides (data_of x) (data_of y)

    to : IsTrue (nat_eq x.unused_bits y.unused_bits && pointwise nat_eq (data_of x) (data_of y)) →
        bits_of_string x ≡ bits_of_string y
    to h =
        let both = and_parts (nat_eq x.unused_bits y.unused_bits) (pointwise nat_eq (data_of x) (data_of y)) h in
        let octets : x.unused_bits ∷ data_of x ≡ y.unused_bits ∷ data_of y =
        ap (λ (n : ℕ). n ∷ data_of x) ((unsigned_Decides x.unused_bits y.unused_bits).0 both.0)
        ∙ ap (λ (c : List ℕ). y.unused_bits ∷ c) (octets.0 both.1) in
        ap bits_of_content octets

    from : bits_of_string x ≡ bits_of_string y →
        IsTrue (nat_eq x.unused_bits y.unused_bits && pointwise nat_eq (data_of x) (data_of y))
    from e = and_from _ _ ((unsigned_Decides x.unused_bits y.unused_bits).1 (ap (λ (v : Bits). v.unused) e))
        (octets.1 (ap (λ (v : Bits). v.octets) e))
