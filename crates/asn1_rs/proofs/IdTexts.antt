-- The texts of identifiers: their length, and that each octet is a character of ASCII.
use Rattle.std.proofs.Common.{◌≡◌, ℕ, suc, ◌+◌, ◌*◌, ◌/◌, ◌%◌, ◌^◌, ◌<◌, ◌≤◌, Bool, true, false, List, [], ◌∷◌}
use Rattle.std.proofs.Common.{length, decimal, IsAscii, refl, ap, sym, subst, arith, length-append, if◌then◌else◌}
use Rattle.std.specs.List.{All}
use Rattle.std.specs.Fmt.{digit_glyph}
use Rattle.std.proofs.lemmas.Bool.Decides.{nat_tests}
use Rattle.std.proofs.lemmas.Fmt.{IsAscii-decimal}
use Rattle.std.proofs.lemmas.Str.{IsAscii-append}
use Rattle.std.proofs.lemmas.Str.Ascii.{IsAscii-nil, IsAscii-cons}
use Rattle.x690.specs.Arcs.{arcs_of, arcs_text}
use Rattle.x690.specs.Octets.{IsOctets}
use Rattle.x690.specs.Laws.Arcs.TextLengths.{short_texts}
use Rattle.asn1_rs.specs.Oid.Text.{hex_octet, hex_text, are_small, id_text}
use Rattle.asn1_rs.specs.Laws.Oid.Text.{pointed, spaced, arcs_pointed, octets_spaced, tested_small}

abbrev AreSmall : List ℕ → Type 0
AreSmall arcs = All (λ arc. arc < 2 ^ 64) arcs

choose : (P : List ℕ → Type 0) (small : Bool) (x y : List ℕ) → (small ≡ true → P x) → P y →
    P (if small then x else y)
choose P true x y f g = f refl
choose P false x y f g = g

-- what is so of the text of arcs and of that of octets is so of the text
either_text : (P : List ℕ → Type 0) (relative : Bool) (octets : List ℕ) →
    (AreSmall (arcs_of relative octets) → P (arcs_text (arcs_of relative octets))) → P (hex_text octets) →
    P (id_text relative octets)
either_text P relative octets f g =
    choose P (are_small (arcs_of relative octets)) (arcs_text (arcs_of relative octets)) (hex_text octets)
    (λ e. f (tested_small (arcs_of relative octets) e)) g

-- Lengths.

spaced_length : (octets : List ℕ) → length (spaced octets) ≡ 3 * length octets
spaced_length [] = refl
spaced_length (octet ∷ octets) = omega (arith, spaced_length octets)

hex_length : (octets : List ℕ) → length (hex_text octets) ≤ 3 * length octets
hex_length [] = omega arith
hex_length (octet ∷ octets) =
    omega (
      arith,
      ap length (octets_spaced octet octets),
      length-append (hex_octet octet) (spaced octets),
      spaced_length octets,
    )

-- room enough for each text
pub text_fits : (relative : Bool) (octets : List ℕ) → length (id_text relative octets) ≤ 4 * length octets + 2
text_fits relative octets =
    either_text (λ text. length text ≤ 4 * length octets + 2) relative octets (short_texts relative octets)
    (omega (arith, hex_length octets))

-- Characters.

glyph_ascii : (n : ℕ) → n < 16 → digit_glyph false n < 128
glyph_ascii n small = grind (arith, nat_tests)

hex_octet_ascii : (octet : ℕ) → octet < 256 → IsAscii (hex_octet octet)
hex_octet_ascii octet small =
    IsAscii-cons (digit_glyph false (octet / 16)) (digit_glyph false (octet % 16) ∷ [])
    (glyph_ascii (octet / 16) (omega arith))
    (IsAscii-cons (digit_glyph false (octet % 16)) [] (glyph_ascii (octet % 16) (omega arith)) IsAscii-nil)

spaced_ascii : (octets : List ℕ) → IsOctets octets → IsAscii (spaced octets)
spaced_ascii [] are = IsAscii-nil
spaced_ascii (octet ∷ octets) are =
    IsAscii-append (32 ∷ hex_octet octet) (spaced octets)
    (IsAscii-cons 32 (hex_octet octet) (omega arith) (hex_octet_ascii octet (are 0)))
    (spaced_ascii octets (λ k. are (suc k)))

hex_ascii : (octets : List ℕ) → IsOctets octets → IsAscii (hex_text octets)
hex_ascii [] are = IsAscii-nil
hex_ascii (octet ∷ octets) are =
    subst IsAscii (sym (octets_spaced octet octets))
    (IsAscii-append (hex_octet octet) (spaced octets) (hex_octet_ascii octet (are 0))
    (spaced_ascii octets (λ k. are (suc k))))

pointed_ascii : (arcs : List ℕ) → AreSmall arcs → IsAscii (pointed arcs)
pointed_ascii [] small = IsAscii-nil
pointed_ascii (arc ∷ arcs) small =
    IsAscii-append (46 ∷ decimal arc) (pointed arcs)
    (IsAscii-cons 46 (decimal arc) (omega arith) (IsAscii-decimal arc (small 0 0 (omega arith))))
    (pointed_ascii arcs (λ k d h. small (suc k) d (omega arith)))

arcs_ascii : (arcs : List ℕ) → AreSmall arcs → IsAscii (arcs_text arcs)
arcs_ascii [] small = IsAscii-nil
arcs_ascii (arc ∷ arcs) small =
    subst IsAscii (sym (arcs_pointed arc arcs))
    (IsAscii-append (decimal arc) (pointed arcs) (IsAscii-decimal arc (small 0 0 (omega arith)))
    (pointed_ascii arcs (λ k d h. small (suc k) d (omega arith))))

pub text_ascii : (relative : Bool) (octets : List ℕ) → IsOctets octets → IsAscii (id_text relative octets)
text_ascii relative octets are =
    either_text IsAscii relative octets (arcs_ascii (arcs_of relative octets)) (hex_ascii octets are)
