-- Two lengths that begin one input are the same.
use Rattle.std.proofs.Common.{◌≡◌, ℕ, zero, suc, ◌+◌, ◌-◌, ◌<◌, ◌≤◌, List, [], ◌∷◌, ◌++◌, length, get_or, take, drop}
use Rattle.std.proofs.Common.{refl, sym, ap, ◌∙◌, arith, subst, inl, inr, take-append-drop}
use Rattle.std.proofs.lemmas.List.{take_at, take_rest, drop_more, length-take-le, append_cancel_left}
use Rattle.x690.specs.Octets.{IsOctets}
use Rattle.x690.specs.Digits.{base_256_value}
use Rattle.x690.specs.Lengths.{IsLength, IsLongLength, LengthForm, definite, indefinite, IsLengthForm}

-- fronts of one list that are as long
pub same_front : (a b x y : List ℕ) → length a ≡ length b → a ++ x ≡ b ++ y → a ≡ b
same_front a b x y l h = sym (take_at a x (length a) refl) ∙ ap (take (length a)) h ∙ take_at b y (length a) (sym l)

long_unique : (o q x y : List ℕ) (m n : ℕ) → IsLongLength o m → IsLongLength q n → o ++ x ≡ q ++ y → (o ≡ q) × (m ≡ n)
long_unique [] q x y m n i j h = absurd i
long_unique (k ∷ os) [] x y m n i j h = absurd j
long_unique (k ∷ os) (l ∷ ps) x y m n i j h =
    let s : k ≡ l = cc in
    let t : os ++ x ≡ ps ++ y = cc in
    let e = same_front os ps x y (omega (arith, i.2, j.2)) t in
    let u = ap base_256_value e in
    let o : k ∷ os ≡ l ∷ ps = cc in
    (o, sym i.4 ∙ u ∙ j.4)

-- the first octet of a short length, and of a long one
long_first : (o x y : List ℕ) (m n : ℕ) → m < 128 → IsLongLength o n → (m ∷ []) ++ x ≡ o ++ y → ⊥
long_first [] x y m n p j h = j
long_first (k ∷ os) x y m n p j h = let s : m ≡ k = cc in omega (arith, j.2)

-- Two octets that begin one input are the same.
pub same_octet : (m n : ℕ) (x y : List ℕ) → (m ∷ []) ++ x ≡ (n ∷ []) ++ y → m ≡ n
same_octet m n x y h = cc

length_same : (o q x y : List ℕ) (m n : ℕ) → IsLength o m → IsLength q n → o ++ x ≡ q ++ y → (o ≡ q) × (m ≡ n)
length_same o q x y m n (inl i) (inl j) h =
    let s = same_octet m n x y (ap (λ (ys : List ℕ). ys ++ x) (sym i.1) ∙ h ∙ ap (λ (ys : List ℕ). ys ++ y) j.1) in
    let t : o ≡ q = cc in
    (t, s)
length_same o q x y m n (inl i) (inr j) h =
    absurd (long_first q x y m n i.0 j (ap (λ (ys : List ℕ). ys ++ x) (sym i.1) ∙ h))
length_same o q x y m n (inr i) (inl j) h =
    absurd (long_first o y x n m j.0 i (ap (λ (ys : List ℕ). ys ++ y) (sym j.1) ∙ sym h))
length_same o q x y m n (inr i) (inr j) h = long_unique o q x y m n i j h

-- no length begins with 80
pub length_not_80 : (o x y : List ℕ) (n : ℕ) → IsLength o n → o ++ x ≡ (128 ∷ []) ++ y → ⊥
length_not_80 o x y n (inl i) h =
    let s = same_octet n 128 x y (ap (λ (ys : List ℕ). ys ++ x) (sym i.1) ∙ h) in
    omega (arith, i.0)
length_not_80 [] x y n (inr i) h = i
length_not_80 (k ∷ os) x y n (inr i) h = let s : k ≡ 128 = cc in omega (arith, i.0, i.2)

form_same : (o q x y : List ℕ) (f g : LengthForm) → IsLengthForm o f → IsLengthForm q g → o ++ x ≡ q ++ y →
    (o ≡ q) × (f ≡ g)
form_same o q x y (definite m) (definite n) i j h =
    let u = length_same o q x y m n i j h in
    (u.0, ap (λ k. definite k) u.1)
form_same o q x y (definite m) indefinite i j h = absurd (length_not_80 o x y m i (h ∙ ap (λ (ys : List ℕ). ys ++ y) j))
form_same o q x y indefinite (definite n) i j h =
    absurd (length_not_80 q y x n j (sym h ∙ ap (λ (ys : List ℕ). ys ++ x) i))
form_same o q x y indefinite indefinite i j h = (i ∙ sym j, refl)

-- Length octets, or 80 for the indefinite form, that begin one input are the same and say the same,
-- and the same follows.
pub length_form_unique : (o q x y : List ℕ) (f g : LengthForm) → IsLengthForm o f → IsLengthForm q g → o ++ x ≡ q ++ y →
    (o ≡ q) × (f ≡ g) × (x ≡ y)
length_form_unique o q x y f g i j h =
    let u = form_same o q x y f g i j h in
    (u.0, u.1, append_cancel_left q x y (ap (λ (ys : List ℕ). ys ++ x) (sym u.0) ∙ h))

-- the octets after the first
pub first_split : (octets rest : List ℕ) → 1 ≤ length octets → rest ≡ take (length octets - 1) (drop 1 octets) →
    octets ≡ get_or octets 0 0 ∷ rest
first_split octets rest h e =
    drop_more octets 0 0 h ∙ ap (λ (ys : List ℕ). get_or octets 0 0 ∷ ys) (sym (take_rest octets 1) ∙ sym e)

-- the octets that the first one counts, and those behind them
pub long_split : (octets rest front back : List ℕ) (count : ℕ) → 1 ≤ length octets →
    rest ≡ take (length octets - 1) (drop 1 octets) → front ≡ take count rest → back ≡ drop count rest →
    count ≤ length rest → get_or octets 0 0 ≡ 128 + count →
    (length front ≡ count) × (octets ≡ (128 + length front) ∷ (front ++ back))
long_split octets rest front back count h e f g w k =
    let l : length front ≡ count = ap length f ∙ length-take-le count rest w in
    let s : front ++ back ≡ rest = ap (λ (ys : List ℕ). ys ++ back) f ∙ ap (λ (ys : List ℕ). take count rest ++ ys) g
    ∙ take-append-drop count rest in
    let z : get_or octets 0 0 ≡ 128 + length front = omega arith in
    (l, first_split octets rest h e ∙ ap (λ n. n ∷ rest) z ∙ ap (λ (ys : List ℕ). (128 + length front) ∷ ys) (sym s))

-- no length is empty
pub length_form_some : (o : List ℕ) (form : LengthForm) → IsLengthForm o form → 1 ≤ length o
length_form_some (l ∷ ds) form i = omega arith
length_form_some [] (definite n) (inl i) = let e = ap length i.1 in omega arith
length_form_some [] (definite n) (inr i) = absurd i
length_form_some [] indefinite i = let e = ap length i in omega arith

one_octet : (m : ℕ) → m < 256 → IsOctets (m ∷ [])
one_octet m h zero = h
one_octet m h (suc k) = omega arith

long_is_octets : (o : List ℕ) (n : ℕ) → IsLongLength o n → IsOctets o
long_is_octets [] n l k = absurd l
long_is_octets (first ∷ others) n l zero = omega (arith, l.1, l.2)
long_is_octets (first ∷ others) n l (suc k) = l.3 k

-- length octets are octets
pub length_is_octets : (o : List ℕ) (n : ℕ) → IsLength o n → IsOctets o
length_is_octets o n (inl i) = subst IsOctets (sym i.1) (one_octet n (omega (arith, i.0)))
length_is_octets o n (inr i) = long_is_octets o n i

-- Length octets are octets.
pub length_form_is_octets : (o : List ℕ) (form : LengthForm) → IsLengthForm o form → IsOctets o
length_form_is_octets o (definite n) i = length_is_octets o n i
length_form_is_octets o indefinite i = subst IsOctets (sym i) (one_octet 128 (omega arith))
