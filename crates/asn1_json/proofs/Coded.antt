-- The octets of texts in the code of their type.
use Rattle.std.proofs.Common.{◌≡◌, ◌∙◌, ap, sym, refl, subst, ℕ, ◌<◌, List, [], ◌∷◌, ◌++◌, length, get_or, encode_utf8_all, IsUtf8, Result, Ok, Err, Option, Some, None, MatchOption, arith}
use Rattle.std.specs.Prelude.{IfOk, IfSome}
use Rattle.std.specs.declared.vec.Vec.{Vec}
use Rattle.std.specs.declared.alloc.Global.{Global}
use Rattle.std.specs.Str.{chars}
use Rattle.std.proofs.lemmas.Str.{scalars-chars, encodes-chars, chars_from_encodes}
use Rattle.x690.specs.Octets.{IsOctets}
use Rattle.x690.specs.Laws.Octets.{below_octets, octets_append}
use Rattle.x690.specs.Characters.{utf16_octets, ucs4_octets}
use Rattle.asn1_schema.specs.declared.schema.TextKind.{TextKind}
use Rattle.asn1_schema.specs.declared.schema.TextKind.TheVariants as texts
use Rattle.asn1_json.specs.DenotedLeaves.{DenotesText}
use Rattle.asn1_json.specs.Found.{FindsOnly}

module _ (s o : List ℕ) (u : IsUtf8 s) where
  -- the one text in UTF-16, and in UCS-4
  pub bmp_text : o ≡ utf16_octets (chars s) → DenotesText texts.Bmp s o
  bmp_text e = (chars s, (scalars-chars s u, e), sym (encodes-chars s u))

  pub bmp_only : o ≡ utf16_octets (chars s) → (x : List ℕ) → DenotesText texts.Bmp s x → x ≡ o
  bmp_only e x d = d.1.1 ∙ ap utf16_octets (chars_from_encodes d.0 s u (sym d.2)) ∙ sym e

  pub universal_text : o ≡ ucs4_octets (chars s) → DenotesText texts.Universal s o
  universal_text e = (chars s, (scalars-chars s u, e), sym (encodes-chars s u))

  pub universal_only : o ≡ ucs4_octets (chars s) → (x : List ℕ) → DenotesText texts.Universal s x → x ≡ o
  universal_only e x d = d.1.1 ∙ ap ucs4_octets (chars_from_encodes d.0 s u (sym d.2)) ∙ sym e

-- a text spells its characters
spelt : (s o : List ℕ) → IsUtf8 s → o ≡ chars s → s ≡ encode_utf8_all o
spelt s o u e = sym (encodes-chars s u) ∙ ap encode_utf8_all (sym e)

spelt_chars : (s x : List ℕ) → IsUtf8 s → s ≡ encode_utf8_all x → x ≡ chars s
spelt_chars s x u e = chars_from_encodes x s u (sym e)

-- of all other types the octets are the numbers of the characters
other_text : (kind : TextKind) (s o : List ℕ) → (kind ≡ texts.Utf8 → ⊥) → (kind ≡ texts.Bmp → ⊥) → (kind ≡ texts.Universal → ⊥) →
    IsOctets o → s ≡ encode_utf8_all o → DenotesText kind s o
other_text texts.Utf8 s o a b c d e = absurd (a refl)
other_text texts.Bmp s o a b c d e = absurd (b refl)
other_text texts.Universal s o a b c d e = absurd (c refl)
other_text texts.Numeric s o a b c d e = (d, e)
other_text texts.Printable s o a b c d e = (d, e)
other_text texts.Teletex s o a b c d e = (d, e)
other_text texts.Videotex s o a b c d e = (d, e)
other_text texts.Ia5 s o a b c d e = (d, e)
other_text texts.Graphic s o a b c d e = (d, e)
other_text texts.Visible s o a b c d e = (d, e)
other_text texts.General s o a b c d e = (d, e)
other_text texts.Descriptor s o a b c d e = (d, e)

other_octets : (kind : TextKind) (s o : List ℕ) → (kind ≡ texts.Utf8 → ⊥) → (kind ≡ texts.Bmp → ⊥) → (kind ≡ texts.Universal → ⊥) →
    DenotesText kind s o → IsOctets o × (s ≡ encode_utf8_all o)
other_octets texts.Utf8 s o a b c d = absurd (a refl)
other_octets texts.Bmp s o a b c d = absurd (b refl)
other_octets texts.Universal s o a b c d = absurd (c refl)
other_octets texts.Numeric s o a b c d = d
other_octets texts.Printable s o a b c d = d
other_octets texts.Teletex s o a b c d = d
other_octets texts.Videotex s o a b c d = d
other_octets texts.Ia5 s o a b c d = d
other_octets texts.Graphic s o a b c d = d
other_octets texts.Visible s o a b c d = d
other_octets texts.General s o a b c d = d
other_octets texts.Descriptor s o a b c d = d

pub if_text : {E : Type 0} (kind : TextKind) (s : List ℕ) (r : Result (Option (Vec ℕ Global)) E) → (kind ≡ texts.Utf8 → ⊥) →
    (kind ≡ texts.Bmp → ⊥) → (kind ≡ texts.Universal → ⊥) →
    IfOk r (FindsOnly (λ octets. octets.items) (λ o. IsOctets o × (s ≡ encode_utf8_all o))) →
    IfOk r (FindsOnly (λ octets. octets.items) (DenotesText kind s))
if_text kind s (Ok (Some v)) a b c d = (
  other_text kind s v.items a b c d.0.0 d.0.1,
  (λ x f. d.1 x (other_octets kind s x a b c f)),
)
if_text kind s (Ok None) a b c d = λ x f. d x (other_octets kind s x a b c f)
if_text kind s (Err x) a b c d = tt

-- octets that are the numbers of the characters of a text
pub numbers_found : {E : Type 0} (s : List ℕ) (r : Result (Option (Vec ℕ Global)) E) → IsUtf8 s →
    IfOk r (λ found. IfSome found (λ octets. IsOctets octets.items)) →
    IfOk r (λ found. MatchOption found (IsOctets (chars s) → ⊥) (λ octets. octets.items ≡ chars s)) →
    IfOk r (FindsOnly (λ octets. octets.items) (λ o. IsOctets o × (s ≡ encode_utf8_all o)))
numbers_found s (Ok (Some v)) u d e = ((d, spelt s v.items u e), (λ x f. spelt_chars s x u f.1 ∙ sym e))
numbers_found s (Ok None) u d e = λ x f. e (subst IsOctets (spelt_chars s x u f.1) f.0)
numbers_found s (Err x) u d e = tt

-- the character behind others
at_end : (xs : List ℕ) (c : ℕ) (ys : List ℕ) → get_or (xs ++ c ∷ ys) (length xs) 0 ≡ c
at_end [] c ys = refl
at_end (x ∷ xs) c ys = at_end xs c ys

pub too_large : (all xs : List ℕ) (c : ℕ) (ys : List ℕ) → xs ++ c ∷ ys ≡ all → 255 < c → IsOctets all → ⊥
too_large all xs c ys e big o =
    let at : get_or all (length xs) 0 ≡ c = ap (λ (l : List ℕ). get_or l (length xs) 0) (sym e) ∙ at_end xs c ys in
    omega (arith, at, big, o (length xs))

-- one octet more
pub octets_more : (xs : List ℕ) (c : ℕ) → IsOctets xs → c < 256 → IsOctets (xs ++ c ∷ [])
octets_more xs c o h = octets_append xs (c ∷ []) o (below_octets (c ∷ []) (h, tt))
