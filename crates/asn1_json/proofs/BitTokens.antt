-- The tokens of a bit string, one by one.
use Rattle.std.proofs.Common.{◌≡◌, ◌∙◌, ap, ℕ, Bool, List, [], ◌∷◌, ◌++◌, append_assoc, length, codes}
use Rattle.hex.specs.Hex.{encode_lower}
use Rattle.json.specs.Token.{Token, begin_object, end_object, key, string, number}
use Rattle.asn1_words.specs.Words.{number_text}
use Rattle.asn1_json.specs.Leaves.{bits_tokens, octets_of_bits}

before : (old new : List Token) (t : Token) (ts : List Token) → new ≡ old ++ t ∷ [] → new ++ ts ≡ old ++ t ∷ ts
before old new t ts e = ap (λ (x : List Token). x ++ ts) e ∙ append_assoc old (t ∷ []) ts

pub bits_written : (w0 w1 w2 w3 w4 w5 : List Token) (octets digits : List ℕ) (bs : List Bool) →
    octets ≡ octets_of_bits bs → digits ≡ number_text (length bs) → w1 ≡ w0 ++ begin_object ∷ [] →
    w2 ≡ w1 ++ key (codes "value") ∷ [] → w3 ≡ w2 ++ string (encode_lower octets) ∷ [] →
    w4 ≡ w3 ++ key (codes "length") ∷ [] → w5 ≡ w4 ++ number digits ∷ [] → w5 ++ end_object ∷ [] ≡ w0 ++ bits_tokens bs
bits_written w0 w1 w2 w3 w4 w5 octets digits bs is counted p1 p2 p3 p4 p5 =
    let last : List Token = number digits ∷ end_object ∷ [] in
    let behind : List Token = key (codes "length") ∷ last in
    let more : List Token = string (encode_lower octets) ∷ behind in
    before w4 w5 (number digits) (end_object ∷ []) p5 ∙ before w3 w4 (key (codes "length")) last p4
    ∙ before w2 w3 (string (encode_lower octets)) behind p3 ∙ before w1 w2 (key (codes "value")) more p2
    ∙ before w0 w1 begin_object (key (codes "value") ∷ more) p1
    ∙ ap (λ (o : List ℕ). w0 ++ begin_object ∷ key (codes "value") ∷ string (encode_lower o) ∷ behind) is
    ∙ ap (λ (d : List ℕ). w0 ++ begin_object ∷ key (codes "value") ∷ string (encode_lower (octets_of_bits bs)) ∷
    key (codes "length") ∷ number d ∷ end_object ∷ []) counted
