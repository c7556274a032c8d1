-- Characters of strings as they are shown, from the front.
use Rattle.std.proofs.Common.{◌≡◌, ℕ, zero, suc, ◌<◌, ◌-◌, List, [], ◌∷◌, ◌++◌, length, drop, arith, ap, refl}
use Rattle.std.proofs.Common.{encode_utf8}
use Rattle.std.proofs.lemmas.List.{drop_at, length-append}
use Rattle.x690.specs.Characters.{utf16_octets_of, ucs4_octets_of}
use Rattle.asn1_engine.specs.declared.texts.Coding.{Coding}
use Rattle.asn1_engine.specs.declared.texts.Coding.TheVariants.{Utf8, Ascii, Utf16, Ucs4}
use Rattle.asn1_engine.specs.Texts.{BeginsByCoding, Shows, ShowsFirst}

-- what is left behind a character is the end of the octets
pub left_behind : (coding : Coding) (octets rest : List ℕ) (c : ℕ) → BeginsByCoding coding octets c rest →
    drop (length octets - length rest) octets ≡ rest
left_behind coding octets rest c b = at_end (front coding b)
  where
    at_end : ((xs : List ℕ) × (octets ≡ xs ++ rest)) → drop (length octets - length rest) octets ≡ rest
    at_end (xs, e) = rw e (drop_at xs rest (length (xs ++ rest) - length rest) (omega (arith, length-append xs rest)))

    front : (kind : Coding) → BeginsByCoding kind octets c rest → (xs : List ℕ) × (octets ≡ xs ++ rest)
    front Utf8 h = (encode_utf8 c, h.is)
    front Ascii h = (c ∷ [], h.1)
    front Utf16 h = (utf16_octets_of c, h.is)
    front Ucs4 h = (ucs4_octets_of c, h.is)

-- one more in front
pub shows_more : (coding : Coding) (width : ℕ) (octets first rest more left : List ℕ) → 0 < length octets →
    ShowsFirst coding octets first rest → Shows coding width rest more left →
    Shows coding (suc width) octets (first ++ more) left
shows_more coding width [] first rest more left some f s = absurd (omega (arith, some))
shows_more coding width (o ∷ os) first rest more left some f s = (first, more, rest, f, s, refl)

-- no more, where the width or the octets end
pub shows_no_more : (coding : Coding) (octets : List ℕ) → Shows coding zero octets [] octets
shows_no_more coding octets = (refl, refl)

pub shows_nothing : (coding : Coding) (width : ℕ) (octets : List ℕ) → octets ≡ [] → Shows coding width octets [] octets
shows_nothing coding zero octets e = (refl, refl)
shows_nothing coding (suc width) [] e = (refl, refl)
shows_nothing coding (suc width) (o ∷ os) e = absurd (let none = ap length e in omega (arith, none))
