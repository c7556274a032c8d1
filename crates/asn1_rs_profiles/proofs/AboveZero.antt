-- Which contents octets say no integer above 0.
use Rattle.std.proofs.Common.{◌≡◌, ◌≤◌, ℕ, ℤ, pos, negsuc, false, refl, List, get_or}
use Rattle.std.specs.Prelude.{int_lt}
use Rattle.x690.specs.Octets.{IsOctets}
use Rattle.x690.specs.Digits.{twos_complement_value}
use Rattle.x690.specs.Laws.Integers.{negative_value}
use Rattle.asn1_rs_profiles.specs.Refined.Ready.{is_positive}

-- what is no natural number is not above 0
not_above : (z : ℤ) → ((n : ℕ) → z ≡ pos n → ⊥) → int_lt (pos 0) z ≡ false
not_above (pos n) none = absurd (none n refl)
not_above (negsuc n) none = refl

-- where the first bit is set, the integer is below 0
pub negative_not_positive : (octets : List ℕ) → IsOctets octets → 128 ≤ get_or octets 0 0 → is_positive octets ≡ false
negative_not_positive octets o high =
    not_above (twos_complement_value octets) (λ n. negative_value octets n o high)
