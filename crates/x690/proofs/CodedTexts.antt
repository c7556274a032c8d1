-- Characters read one after the other from octets in a code of characters, and written so.
use Rattle.std.proofs.Common.{◌≡◌, ℕ, ◌+◌, ◌-◌, ◌*◌, ◌<◌, ◌≤◌, true, List, [], ◌∷◌, ◌++◌, length, length-append}
use Rattle.std.proofs.Common.{append_assoc, append-nil, encode_utf8_all, refl, ap, ap₂, sym, ◌∙◌, arith, subst}
use Rattle.std.proofs.Common.{take, drop, length-take-le}
use Rattle.std.proofs.lemmas.List.{take-append-drop, take_at, drop_at, drop-drop}
use Rattle.std.proofs.Math.Seq.{take-append-add}
use Rattle.std.specs.Char.{encode_utf8, IsScalar}
use Rattle.std.specs.Str.{IsUtf8, all_scalars, chars}
use Rattle.std.proofs.lemmas.Bool.{and_parts}
use Rattle.std.proofs.lemmas.List.Concat.{flat_map-append}
use Rattle.std.proofs.lemmas.Str.{encodes-append, chars_past_char, chars-append, chars-nil, IsCharBoundary-from_take}
use Rattle.std.proofs.lemmas.Str.{IsUtf8-drop}
use lib.Utf8.{scalar}
use Rattle.x690.specs.Octets.{BeginsWith}
use Rattle.x690.specs.Characters.{code_of, Codes, BeginsWithCharacter, IsCharacterCode}
use Rattle.x690.specs.Laws.Characters.{character_some}

-- the characters that were read from the octets, before the rest
pub record AreRead (octets_of : ℕ → List ℕ) (octets cs rest : List ℕ) : Type 0 where
  pub scalars : all_scalars cs ≡ true
  pub is : BeginsWith octets (code_of octets_of cs) rest

scalars_more : (cs : List ℕ) (c : ℕ) → all_scalars cs ≡ true → IsScalar c → all_scalars (cs ++ c ∷ []) ≡ true
scalars_more [] c h s = grind arith
scalars_more (x ∷ cs) c h s = let p = and_parts (scalar x) (all_scalars cs) h in rw (p.0, scalars_more cs c p.1 s)

pub utf8_more : (cs : List ℕ) (c : ℕ) → encode_utf8_all (cs ++ c ∷ []) ≡ encode_utf8_all cs ++ encode_utf8 c
utf8_more cs c =
    encodes-append cs (c ∷ []) ∙ ap (λ (xs : List ℕ). encode_utf8_all cs ++ xs) (append-nil (encode_utf8 c))

pub utf8_len_more : (cs : List ℕ) (c : ℕ) →
    length (encode_utf8_all (cs ++ c ∷ [])) ≡ length (encode_utf8_all cs) + length (encode_utf8 c)
utf8_len_more cs c = ap length (utf8_more cs c) ∙ length-append (encode_utf8_all cs) (encode_utf8 c)

-- the characters of a text that ends with one, which stands behind a text
pub chars_before_char : (text front : List ℕ) (c : ℕ) → IsUtf8 text → IsUtf8 front → text ≡ front ++ encode_utf8 c →
    chars text ≡ chars front ++ c ∷ []
chars_before_char text front c u v e =
    let n = length front in
    let within : n ≤ length text = omega (arith, length-append front (encode_utf8 c), ap length e) in
    let truncated = IsCharBoundary-from_take text n u within
    (subst IsUtf8 (sym (ap (take n) e ∙ take_at front (encode_utf8 c) n refl)) v) in
    let alone : IsUtf8 (encode_utf8 c) =
    subst IsUtf8 (ap (drop n) e ∙ drop_at front (encode_utf8 c) n refl) (IsUtf8-drop text n u truncated) in
    ap chars e ∙ chars-append front (encode_utf8 c) v ∙ ap (λ cs. chars front ++ cs)
    (chars_past_char (encode_utf8 c) [] c alone (sym (append-nil (encode_utf8 c))) ∙ ap (λ cs. c ∷ cs) chars-nil)

-- what is the same behind a place is so behind a later one
pub same_behind : (xs ys : List ℕ) (n k m : ℕ) → m ≡ n + k → drop n xs ≡ drop n ys → drop m xs ≡ drop m ys
same_behind xs ys n k m e h =
    ap (λ i. drop i xs) e ∙ sym (drop-drop k n xs) ∙ ap (drop k) h ∙ drop-drop k n ys ∙ ap (λ i. drop i ys) (sym e)

-- a piece before a place, where what stands behind it stays
pub put_before_place : (old new piece : List ℕ) (from at : ℕ) → at ≡ from + length piece → at ≤ length old →
    take at new ≡ take from old ++ piece → drop at new ≡ drop at old → drop from new ≡ piece ++ drop at old
put_before_place old new piece from at e within put kept =
    ap (drop from) (sym (take-append-drop at new) ∙ ap₂ (λ (xs ys : List ℕ). xs ++ ys) put kept
    ∙ append_assoc (take from old) piece (drop at old))
    ∙ drop_at (take from old) (piece ++ drop at old) from (length-take-le from old (omega (arith, e, within)))

module _ (octets_of : ℕ → List ℕ) (is : IsCharacterCode octets_of) where
  pub code_more : (cs : List ℕ) (c : ℕ) → code_of octets_of (cs ++ c ∷ []) ≡ code_of octets_of cs ++ octets_of c
  code_more cs c = flat_map-append octets_of cs (c ∷ [])
      ∙ ap (λ (xs : List ℕ). code_of octets_of cs ++ xs) (append-nil (octets_of c))

  pub no_characters_read : (octets : List ℕ) → AreRead octets_of octets [] octets
  no_characters_read octets = record { scalars = refl; is = refl }

  pub one_more_read : (octets cs rest others : List ℕ) (c : ℕ) → AreRead octets_of octets cs rest →
      BeginsWithCharacter octets_of rest c others → AreRead octets_of octets (cs ++ c ∷ []) others
  one_more_read octets cs rest others c r b = record {
    scalars = scalars_more cs c r.scalars b.scalar;
    is = r.is ∙ ap (λ (xs : List ℕ). code_of octets_of cs ++ xs) b.is
        ∙ sym (append_assoc (code_of octets_of cs) (octets_of c) others)
        ∙ ap (λ (xs : List ℕ). xs ++ others) (sym (code_more cs c));
  }

  pub all_read : (octets cs : List ℕ) → AreRead octets_of octets cs [] → Codes (code_of octets_of) octets cs
  all_read octets cs r = (r.scalars, r.is ∙ append-nil (code_of octets_of cs))

  -- a text of all octets goes on behind them
  pub rest_read : (cs ds rest : List ℕ) → all_scalars cs ≡ true → all_scalars ds ≡ true →
      code_of octets_of ds ≡ code_of octets_of cs ++ rest →
      (more : List ℕ) × Codes (code_of octets_of) rest more × (ds ≡ cs ++ more)
  rest_read [] ds rest s t e = (ds, (t, sym e), refl)
  rest_read (c ∷ cs) [] rest s t e =
      let l = ap length (e ∙ append_assoc (octets_of c) (code_of octets_of cs) rest) in
      absurd
      (omega (arith, l, character_some octets_of is c, length-append (octets_of c) (code_of octets_of cs ++ rest)))
  rest_read (c ∷ cs) (d ∷ ds) rest s t e =
      let p = and_parts (scalar c) (all_scalars cs) s in
      let q = and_parts (scalar d) (all_scalars ds) t in
      let o = is.one d c (code_of octets_of ds) (code_of octets_of cs ++ rest) q.0 p.0
      (e ∙ append_assoc (octets_of c) (code_of octets_of cs) rest) in
      let m = rest_read cs ds rest p.1 q.1 o.1 in
      (m.0, m.1, ap₂ (λ (x : ℕ) (xs : List ℕ). x ∷ xs) o.0 m.2)

  -- and where no character begins the rest, there is none
  pub none_left : (octets cs rest : List ℕ) → AreRead octets_of octets cs rest →
      ((c : ℕ) (others : List ℕ) → BeginsWithCharacter octets_of rest c others → ⊥) → (ds : List ℕ) →
      Codes (code_of octets_of) octets ds → (rest ≡ []) × (ds ≡ cs)
  none_left octets cs rest r none ds t =
      let m = rest_read cs ds rest r.scalars t.0 (sym t.1 ∙ r.is) in
      let n = by_more m.0 m.1 in
      (n.0, m.2 ∙ ap (λ (xs : List ℕ). cs ++ xs) n.1 ∙ append-nil cs)
    where
      by_more : (more : List ℕ) → Codes (code_of octets_of) rest more → (rest ≡ []) × (more ≡ [])
      by_more [] h = (h.1, refl)
      by_more (c ∷ more) h = absurd (none c (code_of octets_of more) (record {
        scalar = (and_parts (scalar c) (all_scalars more) h.0).0;
        is = h.1;
      }))

  pub text_utf8 : (cs : List ℕ) → 2 * length (encode_utf8_all cs) ≤ 3 * length (code_of octets_of cs)
  text_utf8 [] = omega arith
  text_utf8 (c ∷ cs) = omega (
    arith,
    is.utf8 c,
    text_utf8 cs,
    length-append (encode_utf8 c) (encode_utf8_all cs),
    length-append (octets_of c) (code_of octets_of cs),
  )

  -- octets of which characters were read are no fewer than two thirds of their UTF-8
  pub read_utf8 : (octets cs rest : List ℕ) → AreRead octets_of octets cs rest →
      2 * length (encode_utf8_all cs) ≤ 3 * length octets
  read_utf8 octets cs rest r = omega (arith, text_utf8 cs, ap length r.is, length-append (code_of octets_of cs) rest)

  pub begun_shorter : (octets rest : List ℕ) (c : ℕ) → BeginsWithCharacter octets_of octets c rest →
      length rest < length octets
  begun_shorter octets rest c b =
      omega (arith, character_some octets_of is c, ap length b.is, length-append (octets_of c) rest)

  -- the first character of a text, and then the others
  pub code_past : (text rest : List ℕ) (c : ℕ) → IsUtf8 text → text ≡ encode_utf8 c ++ rest →
      code_of octets_of (chars text) ≡ octets_of c ++ code_of octets_of (chars rest)
  code_past text rest c u e = ap (code_of octets_of) (chars_past_char text rest c u e)

  pub code_len_past : (text rest : List ℕ) (c : ℕ) → IsUtf8 text → text ≡ encode_utf8 c ++ rest →
      length (code_of octets_of (chars text)) ≡ length (octets_of c) + length (code_of octets_of (chars rest))
  code_len_past text rest c u e =
      ap length (code_past text rest c u e) ∙ length-append (octets_of c) (code_of octets_of (chars rest))

  -- the last character of what is left of a text, put before the octets of those behind it
  pub code_before : (text rest others : List ℕ) (c : ℕ) (old new : List ℕ) (from at end : ℕ) →
      code_of octets_of (chars text) ≡ code_of octets_of (chars rest) ++ take (end - at) (drop at old) →
      chars rest ≡ chars others ++ c ∷ [] → at ≡ from + length (octets_of c) → at ≤ end →
      drop from new ≡ octets_of c ++ drop at old →
      code_of octets_of (chars text) ≡ code_of octets_of (chars others) ++ take (end - from) (drop from new)
  code_before text rest others c old new from at end begun last e within put =
      let before = code_of octets_of (chars others) in
      let behind = take (end - at) (drop at old) in
      let room : end - from ≡ length (octets_of c) + (end - at) = omega (arith, e, within) in
      let more : take (end - from) (drop from new) ≡ octets_of c ++ behind = ap (take (end - from)) put
      ∙ ap (λ n. take n (octets_of c ++ drop at old)) room ∙ take-append-add (octets_of c) (drop at old) (end - at) in
      begun ∙ ap (λ (xs : List ℕ). xs ++ behind) (ap (code_of octets_of) last ∙ code_more (chars others) c)
      ∙ append_assoc before (octets_of c) behind ∙ ap (λ (xs : List ℕ). before ++ xs) (sym more)
