-- What is shown of octets at the place where an element departs.
use Rattle.std.specs.Prelude.{◌≡◌, ℕ, Bool, List, [], ◌∷◌, ◌++◌, ◌⊎◌, take, length, codes, flat_map, nat_lt, if◌then◌else◌}
use Rattle.hex.specs.Hex.{encode_lower}
use Rattle.x690.specs.Elements.{Parts, IsDerElement}
use Rattle.x690.specs.Faults.{Fault, DerElementFault}

-- the octets of the element by DER that begins these; or all, where they have a fault there
abbrev pub IsFirstElement : List ℕ → List ℕ → Type 0
IsFirstElement octets word =
    ((rest : List ℕ) × (parts : Parts) × (octets ≡ word ++ rest) × IsDerElement word parts) ⊎
    ((fault : Fault) × DerElementFault octets fault × (word ≡ octets))

-- octets in hexadecimal, with a space between
abbrev pub more_octets_text : List ℕ → List ℕ
more_octets_text octets = flat_map (λ octet. codes " " ++ encode_lower (octet ∷ [])) octets

abbrev pub spaced_text : List ℕ → List ℕ
spaced_text [] = []
spaced_text (octet ∷ octets) = encode_lower (octet ∷ []) ++ more_octets_text octets

-- a mark where there are more octets
abbrev pub mark_text : Bool → List ℕ
mark_text is_truncated = if is_truncated then codes " .." else []

-- 24 octets at most, and the mark
abbrev pub standing_text : List ℕ → List ℕ
standing_text [] = codes "nothing"
standing_text (octet ∷ octets) =
    spaced_text (take 24 (octet ∷ octets)) ++ mark_text (nat_lt 24 (length (octet ∷ octets)))
