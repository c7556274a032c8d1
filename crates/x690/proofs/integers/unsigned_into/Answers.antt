use Rattle.std.proofs.Common.{ℕ, ◌≡◌, ◌+◌, ◌-◌, ◌≤◌, List, [], ◌∷◌, take, drop, set, length, ap, sym, ◌∙◌, arith}
use Rattle.std.proofs.lemmas.List.{take_all}
use Rattle.std.specs.Int.{bytes_high_first}
use Rattle.x690.specs.Integers.{unsigned_octets}
use Rattle.x690.specs.Laws.Integers.Unsigned.{unsigned_octets_some}
use Rattle.x690.proofs.Bytes.{length-bytes, last_bytes, octet_more, bytes_are_octets}
use Rattle.x690.proofs.integers.unsigned_into.Goals as goal

-- all but the first
first_put : (out digits : List ℕ) → length digits ≡ 16 → length out ≡ 17 → drop (17 - length digits) out ≡ digits →
    set out 0 0 ≡ 0 ∷ digits
first_put [] digits l long e = absurd (omega arith)
first_put (first ∷ others) digits l long e =
    let one : 17 - length digits ≡ 1 = omega arith in
    let rest : others ≡ digits = ap (λ (i : ℕ). drop i (first ∷ others)) (sym one) ∙ e in
    ap (λ (ys : List ℕ). 0 ∷ ys) rest

-- the last of 16 bytes
last_digits : (n k : ℕ) (digits : List ℕ) → k ≤ 16 → digits ≡ bytes_high_first 16 n → k ≡ length (unsigned_octets n) →
    take (16 - (16 - k)) (drop (16 - k) digits) ≡ unsigned_octets n
last_digits n k digits h e l =
    let s : 16 - k + k ≡ 16 = omega arith in
    let whole : digits ≡ bytes_high_first (16 - k + k) n = e ∙ ap (λ (i : ℕ). bytes_high_first i n) (sym s) in
    let lasts : drop (16 - k) digits ≡ bytes_high_first k n = ap (drop (16 - k)) whole ∙ last_bytes k (16 - k) n in
    let all : take (16 - (16 - k)) (drop (16 - k) digits) ≡ drop (16 - k) digits =
    take_all (16 - (16 - k)) (drop (16 - k) digits) (omega (arith, ap length lasts, length-bytes k n)) in
    all ∙ lasts ∙ bytes_are_octets k n (sym l)

pub returns-then-count-eq17-clause-octets : goal.returns-then-count-eq17-clause-octets
returns-then-count-eq17-clause-octets c =
    let bytes = c.to_be_bytes-digits in
    first_put c.put_at_end.new.out bytes.result (omega (arith, ap length bytes.ensures, length-bytes 16 c.args.n))
    c.put_at_end.array_long c.put_at_end.ensures.octets
    ∙ ap (λ (ys : List ℕ). 0 ∷ ys) bytes.ensures
    ∙ octet_more 15 c.args.n (omega arith) (sym c.unsigned_octets_count-count.ensures.count ∙ c.if-count-eq17.true)

pub returns-clause-octets : goal.returns-clause-octets
returns-clause-octets c =
    let count = c.unsigned_octets_count-count in
    let digits = last_digits c.args.n count.result c.to_be_bytes-digits.result
    (omega (arith, count.ensures.few)) c.to_be_bytes-digits.ensures count.ensures.count in
    let l : length (take (16 - (16 - count.result)) (drop (16 - count.result) c.to_be_bytes-digits.result)) ≡
    count.result = ap length digits ∙ sym count.ensures.count in
    ap (λ (i : ℕ). drop (17 - i) c.put_at_end-2.new.out) (sym l) ∙ c.put_at_end-2.ensures.octets ∙ digits

pub returns-clause-within : goal.returns-clause-within
returns-clause-within c = omega (arith, c.unsigned_octets_count-count.ensures.count, unsigned_octets_some c.args.n)
