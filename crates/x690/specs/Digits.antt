-- What octets say as numbers (X.690 8.1.2.4.2, 8.1.3.5, 8.3.2, 8.3.3).
use Rattle.std.specs.Prelude.{ℕ, ◌+◌, ◌*◌, ◌%◌, ◌^◌, List, [], ◌∷◌, length, map, ℤ, pos, ◌-ℤ◌, nat_lt, if◌then◌else◌}

-- the sum of the digits times powers of the base, where the last digit has weight 1
abbrev pub weighted_sum : ℕ → List ℕ → ℕ
weighted_sum base [] = 0
weighted_sum base (digit ∷ digits) = digit * base ^ length digits + weighted_sum base digits

-- the number that octets say as digits of base 256
abbrev pub base_256_value : List ℕ → ℕ
base_256_value octets = weighted_sum 256 octets

-- what bits 7 to 1 of an octet say
abbrev pub low_seven_bits : ℕ → ℕ
low_seven_bits octet = octet % 128

-- the low seven bits of each octet are its digit
abbrev pub base_128_value : List ℕ → ℕ
base_128_value octets = weighted_sum 128 (map low_seven_bits octets)

-- two's complement: where the first bit is set, 256 to the number of octets is taken off
abbrev pub twos_complement_value : List ℕ → ℤ
twos_complement_value [] = pos 0
twos_complement_value (first ∷ others) =
    if nat_lt first 128 then pos (base_256_value (first ∷ others))
    else pos (base_256_value (first ∷ others)) -ℤ pos (256 ^ length (first ∷ others))
