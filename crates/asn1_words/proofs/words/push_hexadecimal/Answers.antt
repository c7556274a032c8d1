use Rattle.std.proofs.Common.{◌≡◌, ℕ, ◌+◌, ◌/◌, ◌%◌, List, [], ◌∷◌, ◌++◌, drop, get_or, ap, sym, refl, ◌∙◌, arith}
use Rattle.std.proofs.Common.{append_assoc, slice_index}
use Rattle.std.proofs.lemmas.List.{drop_more, drop_all, append-nil}
use Rattle.hex.specs.Hex.{encode_lower, encode_with, lower_digits}
use Rattle.asn1_words.proofs.words.push_hexadecimal.Goals as goal

first_encoded : (octet : ℕ) (octets : List ℕ) → encode_lower (octet ∷ octets) ≡
    slice_index lower_digits (octet / 16) ∷ slice_index lower_digits (octet % 16) ∷ encode_lower octets
unfolding encode_with
first_encoded octet octets = refl

none_encoded : encode_lower [] ≡ []
unfolding encode_with
none_encoded = refl

-- two digits more, and those of the octets behind
two_more : (text start all rest : List ℕ) (high low : ℕ) → text ++ (high ∷ low ∷ rest) ≡ start ++ all →
    ((text ++ high ∷ []) ++ low ∷ []) ++ rest ≡ start ++ all
two_more text start all rest high low e =
    append_assoc (text ++ high ∷ []) (low ∷ []) rest ∙ append_assoc text (high ∷ []) (low ∷ rest) ∙ e

pub loop-octet-preserved : goal.loop-octet-preserved
loop-octet-preserved c =
    let octet : ℕ = get_or c.args.octets.now c.loop-octet.octet-index 0 in
    let behind : List ℕ = drop (c.loop-octet.octet-index + 1) c.args.octets.now in
    let more : drop c.loop-octet.octet-index c.args.octets.now ≡ octet ∷ behind =
    drop_more c.args.octets.now c.loop-octet.octet-index 0 (omega arith) in
    let step : c.loop-octet.text.items ++ (slice_index lower_digits (octet / 16) ∷ slice_index lower_digits (octet % 16) ∷ encode_lower behind) ≡
    c.args.text.now.items ++ encode_lower c.args.octets.now =
    ap (λ l. c.loop-octet.text.items ++ l) (sym (first_encoded octet behind))
    ∙ ap (λ l. c.loop-octet.text.items ++ encode_lower l) (sym more) ∙ c.loop-octet.invariant in
    let both : c.push-in-loop-octet.new.self.items ≡ (c.loop-octet.text.items ++ slice_index lower_digits (octet / 16) ∷ []) ++ slice_index lower_digits (octet % 16) ∷ [] =
    c.in_ok-push-2.ensures.items ∙ rw (c.in_ok-push.ensures.items, c.from.ensures, c.from-in-loop-octet.ensures) refl in
    ap (λ l. l ++ encode_lower behind) both
    ∙ two_more c.loop-octet.text.items c.args.text.now.items (encode_lower c.args.octets.now) (encode_lower behind) _ _ step

pub returns : goal.returns
returns c =
    sym (append-nil c.loop-octet.text.items)
    ∙ ap (λ l. c.loop-octet.text.items ++ l) (sym none_encoded ∙ ap encode_lower (sym (drop_all c.loop-octet.octet-index c.args.octets.now (omega arith))))
    ∙ c.loop-octet.invariant
