-- Laws of octet strings.
pub mod Order
pub mod Padded
use Rattle.std.proofs.Common.{ℕ, zero, suc, ◌<◌, List, [], ◌∷◌, ◌++◌, arith}
use Rattle.std.specs.Int.Digits.{AllBelowBase}
use Rattle.x690.specs.Octets.{IsOctets}

-- Octets are digits of base 256.
pub octets_below : (o : List ℕ) → IsOctets o → AllBelowBase 256 o
octets_below [] h = tt
octets_below (x ∷ o) h = (h 0, octets_below o (λ k. h (suc k)))

-- Digits of base 256 are octets.
pub below_octets : (o : List ℕ) → AllBelowBase 256 o → IsOctets o
below_octets [] h k = omega arith
below_octets (x ∷ o) h zero = h.0
below_octets (x ∷ o) h (suc k) = below_octets o h.1 k

-- Octets behind octets are octets.
pub octets_append : (x y : List ℕ) → IsOctets x → IsOctets y → IsOctets (x ++ y)
octets_append [] y a b = b
octets_append (d ∷ x) y a b = both (a 0) (octets_append x y (λ k. a (suc k)) b)
  where
    both : d < 256 → IsOctets (x ++ y) → IsOctets (d ∷ x ++ y)
    both h t zero = h
    both h t (suc k) = t k

-- What octets begin with is octets.
pub octets_front : (x y : List ℕ) → IsOctets (x ++ y) → IsOctets x
octets_front [] y h k = omega arith
octets_front (d ∷ x) y h zero = h 0
octets_front (d ∷ x) y h (suc k) = octets_front x y (λ j. h (suc j)) k

-- What octets end with is octets.
pub octets_back : (x y : List ℕ) → IsOctets (x ++ y) → IsOctets y
octets_back [] y h = h
octets_back (d ∷ x) y h = octets_back x y (λ j. h (suc j))
