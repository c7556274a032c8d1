use Rattle.std.proofs.Common.{◌≡◌, ℕ, ◌<◌, List, [], ◌++◌, length, get_or, take, drop, take-append-drop, append_assoc}
use Rattle.std.proofs.Common.{◌∷◌, refl, arith, ap, sym, ◌∙◌, encode_utf8}
use Rattle.std.proofs.Math.ListN.{get_or-append}
use Rattle.std.proofs.lemmas.Bool.{eqb-true}
use Rattle.std.proofs.lemmas.Str.{length-encode, len_utf8_bounds}
use Rattle.std.proofs.lemmas.List.{length-append, take_at}
use Rattle.asn1_engine.proofs.texts.first_of_utf8.Goals as goal

some_octets : (c : ℕ) → 0 < length (encode_utf8 c)
some_octets c = omega (arith, length-encode c, (len_utf8_bounds c).0)

-- the first octet is that of the character
first_octet : (octets rest : List ℕ) (c : ℕ) → octets ≡ encode_utf8 c ++ rest →
    get_or (encode_utf8 c) 0 0 ≡ get_or octets 0 0
first_octet octets rest c e =
    sym (get_or-append (encode_utf8 c) rest 0 0 (some_octets c)) ∙ ap (λ l. get_or l 0 0) (sym e)

-- nothing follows a character that has all the octets
none_more : (front : List ℕ) (more : List ℕ) → length (front ++ more) ≡ length front → more ≡ []
none_more front [] e = refl
none_more front (o ∷ os) e = absurd (omega (arith, e, length-append front (o ∷ os)))

pub returns-then-is_empty-clause-none : goal.returns-then-is_empty-clause-none
returns-then-is_empty-clause-none c = λ x rest b.
    let none : length c.args.octets.now ≡ 0 = eqb-true _ _ (sym c.if-is_empty.ensures) in
    absurd (omega (arith, none, some_octets x, ap length b.is, length-append (encode_utf8 x) rest))

pub returns-then-octets-len-clause-none : goal.returns-then-octets-len-clause-none
returns-then-octets-len-clause-none c = λ x rest b.
    let len = c.len_of_utf8-len.ensures.len x b.scalar (first_octet c.args.octets.now rest x b.is) in
    absurd (omega (arith, len, ap length b.is, length-append (encode_utf8 x) rest))

pub returns-in-Some-clause-some : goal.returns-in-Some-clause-some
returns-in-Some-clause-some c =
    let s = c.in-Some.ensures.some in
    let x : ℕ = c.in-Some.character in
    let more = s.1.0 in
    let front = c.split_at.result.0.now in
    let behind = c.split_at.result.1.now in
    let whole : c.args.octets.now ≡ front ++ behind =
    sym (take-append-drop c.len_of_utf8-len.result c.args.octets.now)
    ∙ ap (λ l. l ++ drop c.len_of_utf8-len.result c.args.octets.now) (sym c.split_at.ensures.front)
    ∙ ap (λ l. front ++ l) (sym c.split_at.ensures.back) in
    let all : c.args.octets.now ≡ encode_utf8 x ++ (more ++ behind) =
    whole ∙ ap (λ l. l ++ behind) s.1.1 ∙ append_assoc (encode_utf8 x) more behind in
    let len = c.len_of_utf8-len.ensures.len x s.0 (first_octet c.args.octets.now (more ++ behind) x all) in
    let same : length (encode_utf8 x ++ more) ≡ length (encode_utf8 x) =
    ap length (sym s.1.1) ∙ c.split_at.ensures.front_len ∙ sym len in
    let none : more ≡ [] = none_more (encode_utf8 x) more same in
    record { scalar = s.0; is = all ∙ ap (λ l. encode_utf8 x ++ (l ++ behind)) none }

pub returns-in-None-clause-none : goal.returns-in-None-clause-none
returns-in-None-clause-none c = λ x rest b.
    let len = c.len_of_utf8-len.ensures.len x b.scalar (first_octet c.args.octets.now rest x b.is) in
    let front : c.split_at.result.0.now ≡ encode_utf8 x =
    c.split_at.ensures.front ∙ ap (take c.len_of_utf8-len.result) b.is
    ∙ take_at (encode_utf8 x) rest c.len_of_utf8-len.result len in
    c.in-None.ensures.none x b.scalar front
