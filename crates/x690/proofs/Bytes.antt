-- Numbers as so many bytes, the highest first.
use Rattle.std.proofs.Common.{◌≡◌, ℕ, zero, suc, ◌+◌, ◌-◌, ◌*◌, ◌/◌, ◌%◌, ◌^◌, ◌<◌, ◌≤◌, ◌⊎◌, inl, inr, List, [], ◌∷◌}
use Rattle.std.proofs.Common.{◌++◌, length, map, take, drop, ℤ, pos, negsuc, false, refl, sym, ap, ◌∙◌, arith, lit≤}
use Rattle.std.proofs.Common.{append_assoc, append-nil, zero-add}
use Rattle.std.proofs.lemmas.Int.{ints}
use Rattle.std.specs.Int.{byte_at, bytes_high_first}
use Rattle.std.proofs.Math.Nat.{pow-zero, pow-suc, pow-le-pow_right, div-div-eq-div-mul, div-eq_of_lt}
use Rattle.std.proofs.lemmas.Nat.{pow-add, mod-pow-add}
use Rattle.std.proofs.lemmas.Bool.{cases_lt}
use Rattle.std.proofs.lemmas.Bool.Decides.{nat_tests}
use Rattle.std.proofs.lemmas.List.{take_at, map_push}
use Rattle.x690.specs.Integers.{unsigned_octets}
use Rattle.x690.specs.Signed.{complement, signed_octets, IsSigned}
use Rattle.x690.specs.Strict.{identifier_octets, length_octets, header_octets}
use Rattle.x690.specs.Laws.Integers.Unsigned.{unsigned_octets_some, unsigned_octets_low, unsigned_octets_step}
use Rattle.x690.specs.Laws.Integers.Unsigned.{unsigned_octets_count_step}
use Rattle.x690.specs.Laws.Signed.{signed_octets_few, signed_octets_fit, signed_octets_length}
use Rattle.x690.proofs.Writes.{both_fronts}

pub pow_256 : (c : ℕ) → 256 ^ c ≡ 2 ^ (8 * c)
pow_256 zero = refl
pow_256 (suc c) =
    let e : 8 * suc c ≡ 8 * c + 8 = omega arith in
    pow-suc 256 c ∙ omega (arith, pow_256 c, pow-add 2 (8 * c) 8) ∙ ap (λ (k : ℕ). 2 ^ k) (sym e)

-- how many octets a number has, by how many bits it has
pub octets_of_bits : (m n : ℕ) → n < 2 ^ m → 2 ^ m ≤ 2 * n + 1 → length (unsigned_octets n) ≡ m / 8 + 1
octets_of_bits m n below above =
    let count = signed_octets_length (pos n) n (inl refl) in
    let most : 2 ^ m ≤ 2 ^ (8 * (m / 8) + 7) = pow-le-pow_right {n = 2} (lit≤ tt) {i = m} (omega arith) in
    let high = pow_256 (m / 8) in
    let seven = pow-add 2 (8 * (m / 8)) 7 in
    let same : m / 8 + 1 - 1 ≡ m / 8 = omega arith in
    let power = ap (λ (k : ℕ). 256 ^ k) same in
    let fits : IsSigned (m / 8 + 1) (pos n) =
    record { least = omega (arith, ints); most = omega (arith, ints, most, high, seven, power) } in
    let few = signed_octets_few (pos n) (m / 8 + 1) (omega arith) fits in
    elim (cases_lt (length (unsigned_octets n)) (m / 8 + 1)) [
      | inr h ↦ omega (arith, few, count)
      | inl h ↦
          let some = unsigned_octets_some n in
          let less = (signed_octets_fit (pos n) (m / 8) (omega (arith, count))).most in
          let low = pow_256 (m / 8 - 1) in
          let split : 8 * (m / 8) ≡ 8 * (m / 8 - 1) + 8 = omega arith in
          let eight = ap (λ (k : ℕ). 2 ^ k) split ∙ pow-add 2 (8 * (m / 8 - 1)) 8 in
          let least : 2 ^ (8 * (m / 8)) ≤ 2 ^ m = pow-le-pow_right {n = 2} (lit≤ tt) (omega arith) in
          absurd (omega (arith, ints, less, low, eight, least))
    ]

-- byte i + 1 of a number is byte i of its 256th
byte_of_quotient : (i n : ℕ) → byte_at (suc i) n ≡ byte_at i (n / 256)
byte_of_quotient zero n = omega arith
byte_of_quotient (suc i) n =
    let e : 256 ^ suc (suc i) ≡ 256 * 256 ^ suc i = omega (arith, pow-suc 256 (suc i)) in
    ap (λ (k : ℕ). n / k % 256) e ∙ ap (λ (k : ℕ). k % 256) (sym (div-div-eq-div-mul n 256 (256 ^ suc i)))

pub bytes_push : (k n : ℕ) → bytes_high_first (suc k) n ≡ bytes_high_first k (n / 256) ++ (n % 256) ∷ []
bytes_push zero n = refl
bytes_push (suc k) n = let e = byte_of_quotient k n in let r = bytes_push k n in cc

pub length-bytes : (k n : ℕ) → length (bytes_high_first k n) ≡ k
length-bytes zero n = refl
length-bytes (suc k) n = ap suc (length-bytes k n)

-- the bytes of a number that fits, behind those of another
pub bytes_joined : (a b x y : ℕ) → y < 256 ^ b →
    bytes_high_first (a + b) (x * 256 ^ b + y) ≡ bytes_high_first a x ++ bytes_high_first b y
bytes_joined a zero x y h =
    let n : x * 256 ^ 0 + y ≡ x = omega (arith, pow-zero 256) in
    let l : a + 0 ≡ a = omega arith in
    ap (λ (k : ℕ). bytes_high_first k (x * 256 ^ 0 + y)) l ∙ ap (bytes_high_first a) n
    ∙ sym (append-nil (bytes_high_first a x))
bytes_joined a (suc b) x y h =
    let p = pow-suc 256 b in
    let l : a + suc b ≡ suc (a + b) = omega arith in
    let w : x * 256 ^ suc b ≡ x * 256 ^ b * 256 = ap (λ (k : ℕ). x * k) p ∙ omega arith in
    let q : (x * 256 ^ suc b + y) / 256 ≡ x * 256 ^ b + y / 256 = omega (arith, w) in
    let r : (x * 256 ^ suc b + y) % 256 ≡ y % 256 = omega (arith, w) in
    ap (λ (k : ℕ). bytes_high_first k (x * 256 ^ suc b + y)) l
    ∙ bytes_push (a + b) (x * 256 ^ suc b + y)
    ∙ ap (λ (k : ℕ). bytes_high_first (a + b) k ++ ((x * 256 ^ suc b + y) % 256) ∷ []) q
    ∙ ap (λ (k : ℕ). bytes_high_first (a + b) (x * 256 ^ b + y / 256) ++ k ∷ []) r
    ∙ ap (λ (ys : List ℕ). ys ++ (y % 256) ∷ []) (bytes_joined a b x (y / 256) (omega (arith, p)))
    ∙ append_assoc (bytes_high_first a x) (bytes_high_first b (y / 256)) ((y % 256) ∷ [])
    ∙ ap (λ (ys : List ℕ). bytes_high_first a x ++ ys) (sym (bytes_push b y))

-- what a number has above its k bytes does not matter
pub bytes_mod : (k n : ℕ) → bytes_high_first k (n % 2 ^ (8 * k)) ≡ bytes_high_first k n
bytes_mod zero n = refl
bytes_mod (suc k) n =
    let l : 8 * suc k ≡ 8 * k + 8 = omega arith in
    let m = ap (λ (j : ℕ). n % 2 ^ j) l ∙ mod-pow-add n (8 * k) 8 in
    let q : (n % 2 ^ (8 * suc k)) / 256 ≡ (n / 256) % 2 ^ (8 * k) = omega (arith, m) in
    let r : (n % 2 ^ (8 * suc k)) % 256 ≡ n % 256 = omega (arith, m) in
    bytes_push k (n % 2 ^ (8 * suc k))
    ∙ ap (λ (j : ℕ). bytes_high_first k j ++ ((n % 2 ^ (8 * suc k)) % 256) ∷ []) q
    ∙ ap (λ (j : ℕ). bytes_high_first k ((n / 256) % 2 ^ (8 * k)) ++ j ∷ []) r
    ∙ ap (λ (ys : List ℕ). ys ++ (n % 256) ∷ []) (bytes_mod k (n / 256))
    ∙ sym (bytes_push k n)

-- each bit turned over
pub bytes_complement : (k j n : ℕ) → n < 256 ^ (k + j) →
    bytes_high_first k (256 ^ (k + j) - 1 - n) ≡ map complement (bytes_high_first k n)
bytes_complement zero j n h = refl
bytes_complement (suc k) j n h =
    let l : suc k + j ≡ suc (k + j) = omega arith in
    let p = ap (λ (i : ℕ). 256 ^ i) l ∙ pow-suc 256 (k + j) in
    let q : (256 ^ (suc k + j) - 1 - n) / 256 ≡ 256 ^ (k + j) - 1 - n / 256 = omega (arith, p) in
    let r : (256 ^ (suc k + j) - 1 - n) % 256 ≡ complement (n % 256) = omega (arith, p) in
    bytes_push k (256 ^ (suc k + j) - 1 - n)
    ∙ ap (λ (i : ℕ). bytes_high_first k i ++ ((256 ^ (suc k + j) - 1 - n) % 256) ∷ []) q
    ∙ ap (λ (i : ℕ). bytes_high_first k (256 ^ (k + j) - 1 - n / 256) ++ i ∷ []) r
    ∙ ap (λ (ys : List ℕ). ys ++ complement (n % 256) ∷ []) (bytes_complement k j (n / 256) (omega (arith, p)))
    ∙ sym (map_push complement (bytes_high_first k (n / 256)) (n % 256))
    ∙ ap (map complement) (sym (bytes_push k n))

-- as many bytes as it has octets are the octets of a natural number
pub bytes_are_octets : (k n : ℕ) → length (unsigned_octets n) ≡ k → bytes_high_first k n ≡ unsigned_octets n
bytes_are_octets zero n h = absurd (omega (arith, unsigned_octets_some n))
bytes_are_octets (suc k) n h = elim (cases_lt n 128) [
  | inl l ↦
      let e : k ≡ 0 = omega (arith, ap length (unsigned_octets_low n l)) in
      let r : n % 256 ≡ n = omega arith in
      ap (λ (j : ℕ). bytes_high_first (suc j) n) e ∙ ap (λ (j : ℕ). j ∷ []) r ∙ sym (unsigned_octets_low n l)
  | inr l ↦
      let c : length (unsigned_octets (n / 256)) ≡ k = omega (arith, unsigned_octets_count_step n l) in
      bytes_push k n ∙ ap (λ (ys : List ℕ). ys ++ (n % 256) ∷ []) (bytes_are_octets k (n / 256) c)
      ∙ sym (unsigned_octets_step n l)
]

-- the last of them
pub last_bytes : (k j n : ℕ) → drop j (bytes_high_first (j + k) n) ≡ bytes_high_first k n
last_bytes k zero n = ap (λ (i : ℕ). bytes_high_first i n) (zero-add k)
last_bytes k (suc j) n =
    let l : suc j + k ≡ suc (j + k) = omega arith in
    ap (λ (i : ℕ). drop (suc j) (bytes_high_first i n)) l ∙ last_bytes k j n

-- where they are one more than the bytes of the number, the first is 0
pub octet_more : (k n : ℕ) → n < 256 ^ suc k → length (unsigned_octets n) ≡ suc (suc k) →
    0 ∷ bytes_high_first (suc k) n ≡ unsigned_octets n
octet_more k n h l =
    let none : byte_at (suc k) n ≡ 0 = ap (λ (i : ℕ). i % 256) (div-eq_of_lt h) in
    ap (λ (i : ℕ). i ∷ bytes_high_first (suc k) n) (sym none) ∙ bytes_are_octets (suc (suc k)) n l

-- a number that is put above others is their highest bytes
highest : (t k n : ℕ) → k ≤ t →
    take k (bytes_high_first t ((n * 2 ^ (8 * (t - k))) % 2 ^ (8 * t))) ≡ bytes_high_first k n
highest t k n h =
    let l : t ≡ k + (t - k) = omega arith in
    let v : n * 2 ^ (8 * (t - k)) ≡ n * 256 ^ (t - k) + 0 =
    omega (arith, ap (λ (p : ℕ). n * p) (sym (pow_256 (t - k)))) in
    let some : 0 < 256 ^ (t - k) = pow-le-pow_right {n = 256} (lit≤ tt) {i = 0} (omega arith) in
    ap (take k) (
    bytes_mod t (n * 2 ^ (8 * (t - k)))
    ∙ ap (bytes_high_first t) v
    ∙ ap (λ (s : ℕ). bytes_high_first s (n * 256 ^ (t - k) + 0)) l
    ∙ bytes_joined k (t - k) n 0 some
    )
    ∙ take_at (bytes_high_first k n) (bytes_high_first (t - k) 0) k (length-bytes k n)

-- the octets of an integer are the highest bytes of a word, where those of a negative one are turned over
pub octets_are_highest : (n : ℤ) (turned word k : ℕ) → turned < 2 ^ 64 → ((n ≡ pos turned) × (word ≡ turned)) ⊎
    ((n ≡ negsuc turned) × (word ≡ 2 ^ 64 - 1 - turned)) → k ≡ length (unsigned_octets turned) → k ≤ 8 →
    take k (bytes_high_first 8 ((word * 2 ^ (8 * (8 - k))) % 2 ^ 64)) ≡ signed_octets n
unfolding signed_octets
octets_are_highest n turned word k fits (inl (e, w)) l few =
    highest 8 k word few ∙ ap (bytes_high_first k) w ∙ bytes_are_octets k turned (sym l) ∙ ap signed_octets (sym e)
octets_are_highest n turned word k fits (inr (e, w)) l few =
    let s : k + (8 - k) ≡ 8 = omega arith in
    let p : 256 ^ (k + (8 - k)) ≡ 2 ^ 64 = ap (λ (i : ℕ). 256 ^ i) s in
    let v : word ≡ 256 ^ (k + (8 - k)) - 1 - turned = omega (arith, w, p) in
    highest 8 k word few ∙ ap (bytes_high_first k) v ∙ bytes_complement k (8 - k) turned (omega (arith, p))
    ∙ ap (map complement) (bytes_are_octets k turned (sym l)) ∙ ap signed_octets (sym e)

-- a header of two octets
short_header : (number n : ℕ) → number < 31 → n < 128 → header_octets 0 false number n ≡ number ∷ n ∷ []
unfolding header_octets identifier_octets length_octets
short_header number n h l = grind (arith, nat_tests)

-- and behind it the octets of an integer
pub element_bytes : (number k content : ℕ) (n : ℤ) → number < 31 → k ≤ 8 → content < 2 ^ 64 →
    k ≡ length (signed_octets n) → take k (bytes_high_first 8 content) ≡ signed_octets n →
    take (2 + k) (bytes_high_first 16 ((256 * number + k) * 2 ^ 112 % 2 ^ 128 + content * 2 ^ 48 % 2 ^ 128)) ≡
    header_octets 0 false number (length (signed_octets n)) ++ signed_octets n
element_bytes number k content n low few fits l e =
    let header : ℕ = 256 * number + k in
    let low_part : content * 256 ^ 6 + 0 < 256 ^ 14 = omega arith in
    let v : (256 * number + k) * 2 ^ 112 % 2 ^ 128 + content * 2 ^ 48 % 2 ^ 128 ≡
    header * 256 ^ 14 + (content * 256 ^ 6 + 0) = omega arith in
    let first : header / 256 % 256 ≡ number = omega arith in
    let second : header % 256 ≡ k = omega arith in
    ap (λ (i : ℕ). take (2 + k) (bytes_high_first 16 i)) v
    ∙ ap (take (2 + k)) (bytes_joined 2 14 header (content * 256 ^ 6 + 0) low_part)
    ∙ ap (λ (ys : List ℕ). take (2 + k) (bytes_high_first 2 header ++ ys)) (bytes_joined 8 6 content 0 (omega arith))
    ∙ both_fronts 2 k (bytes_high_first 2 header) (bytes_high_first 8 content) (bytes_high_first 6 0) refl
    (omega (arith, length-bytes 8 content))
    ∙ ap (λ (ys : List ℕ). bytes_high_first 2 header ++ ys) e
    ∙ ap (λ (i : ℕ). i ∷ header % 256 ∷ signed_octets n) first
    ∙ ap (λ (i : ℕ). number ∷ i ∷ signed_octets n) second
    ∙ ap (λ (ys : List ℕ). ys ++ signed_octets n) (sym (short_header number k low (omega arith)))
    ∙ ap (λ (i : ℕ). header_octets 0 false number i ++ signed_octets n) l
