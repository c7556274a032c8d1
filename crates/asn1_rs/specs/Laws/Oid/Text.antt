-- The texts of object identifiers, piece by piece.
use Rattle.std.specs.Prelude.{◌≡◌, ℕ, ◌<◌, ◌^◌, Bool, true, false, List, [], ◌∷◌, ◌++◌, length, map, nat_lt, decimal}
use Rattle.std.specs.Prelude.{if◌then◌else◌}
use Rattle.std.specs.List.{All, flat_map, join_with_byte}
use Rattle.std.proofs.Common.{ap, refl, sym, append-nil, drop, get_or, ◌+◌, add-one, drop-cons, arith}
use Rattle.std.proofs.lemmas.Bool.{false≢true}
use Rattle.std.proofs.lemmas.Bool.Decides.{nat_tests}
use Rattle.std.proofs.lemmas.List.Sums.{AllPass-from_list_all, list_all-from_AllPass}
use Rattle.x690.specs.Arcs.{arcs_of, arcs_text}
use Rattle.asn1_rs.specs.Oid.Text.{hex_octet, hex_text, are_small, id_text}

-- Texts piece by piece.

-- what stands behind the first of joined texts
abbrev pub behind_first : ℕ → List (List ℕ) → List ℕ
behind_first byte texts = flat_map (λ text. byte ∷ text) texts

-- Joined texts are the first of them, and what stands behind it.
pub joined_behind : (byte : ℕ) (text : List ℕ) (texts : List (List ℕ)) →
    join_with_byte byte (text ∷ texts) ≡ text ++ behind_first byte texts
joined_behind byte text [] = sym (append-nil text)
joined_behind byte text (next ∷ texts) = ap (λ (more : List ℕ). text ++ (byte ∷ more)) (joined_behind byte next texts)

-- behind the first arc
abbrev pub pointed : List ℕ → List ℕ
pointed arcs = behind_first 46 (map decimal arcs)

-- The text of arcs is the first arc, and the others behind points.
pub arcs_pointed : (arc : ℕ) (arcs : List ℕ) → arcs_text (arc ∷ arcs) ≡ decimal arc ++ pointed arcs
arcs_pointed arc arcs = joined_behind 46 (decimal arc) (map decimal arcs)

-- behind the first octet
abbrev pub spaced : List ℕ → List ℕ
spaced octets = behind_first 32 (map hex_octet octets)

-- The text of octets is the first octet, and the others behind spaces.
pub octets_spaced : (octet : ℕ) (octets : List ℕ) → hex_text (octet ∷ octets) ≡ hex_octet octet ++ spaced octets
octets_spaced octet octets = joined_behind 32 (hex_octet octet) (map hex_octet octets)

-- The text of octets from a place on is the octet there, and then the others.
pub spaced_at : (octets : List ℕ) (i : ℕ) → i < length octets →
    spaced (drop i octets) ≡ (32 ∷ hex_octet (get_or octets i 0)) ++ spaced (drop (i + 1) octets)
spaced_at octets i within = rw (add-one i) (ap spaced (drop-cons octets i 0 within))

-- Which text it is.

-- where each arc is small the text is that of the arcs, and else that of the octets
pub small_tested : (arcs : List ℕ) → All (λ arc. arc < 2 ^ 64) arcs → are_small arcs ≡ true
small_tested arcs a =
    list_all-from_AllPass (λ arc. nat_lt arc (2 ^ 64)) arcs (λ k d h. let less = a k d h in grind (arith, nat_tests))

-- Arcs that the test calls small are below 2^64.
pub tested_small : (arcs : List ℕ) → are_small arcs ≡ true → All (λ arc. arc < 2 ^ 64) arcs
tested_small arcs e =
    let passed = AllPass-from_list_all (λ arc. nat_lt arc (2 ^ 64)) arcs e in
    λ k d h.
    let test = passed k d h in
    grind (arith, nat_tests)

-- Where the test holds the first text is taken.
choice_small : (small : Bool) (x y : List ℕ) → small ≡ true → (if small then x else y) ≡ x
choice_small true x y e = refl
choice_small false x y e = absurd (false≢true e)

-- Where it does not hold the second is.
choice_great : (small : Bool) (x y : List ℕ) → (small ≡ true → ⊥) → (if small then x else y) ≡ y
choice_great true x y n = absurd (n refl)
choice_great false x y n = refl

-- Where each arc is below 2^64 the text is that of the arcs.
pub text_of_arcs : (relative : Bool) (octets : List ℕ) → All (λ arc. arc < 2 ^ 64) (arcs_of relative octets) →
    id_text relative octets ≡ arcs_text (arcs_of relative octets)
text_of_arcs relative octets a = choice_small (are_small (arcs_of relative octets))
    (arcs_text (arcs_of relative octets)) (hex_text octets) (small_tested (arcs_of relative octets) a)

-- Where an arc is not, the text is that of the octets.
pub text_of_octets : (relative : Bool) (octets : List ℕ) → (All (λ arc. arc < 2 ^ 64) (arcs_of relative octets) → ⊥) →
    id_text relative octets ≡ hex_text octets
text_of_octets relative octets n =
    choice_great (are_small (arcs_of relative octets)) (arcs_text (arcs_of relative octets)) (hex_text octets)
    (λ e. n (tested_small (arcs_of relative octets) e))
