-- Unused bits.
use Rattle.std.proofs.Common.{◌≡◌, ◌≢◌, ◌∙◌, ap, sym, subst, refl, ℕ, zero, suc, ◌+◌, ◌-◌, ◌*◌, ◌<◌, ◌≤◌, Bool, false, List, [], ◌∷◌, ◌++◌, length, arith, append_assoc, take, drop, append-nil}
use Rattle.std.specs.Prelude.{◌/◌, ◌%◌, nat_eq, replicate}
use Rattle.std.proofs.Math.Seq.{drop-append-add}
use Rattle.std.proofs.lemmas.List.{drop-append-le, drop_all, replicate_more, length-drop, length-append, take-append-drop, drop_at}
use Rattle.x690.specs.Octets.{IsOctets}
use Rattle.asn1_schema.specs.declared.coding.Coding.{Coding}
use Rattle.asn1_schema.specs.declared.coding.Coding.TheVariants as codings
use Rattle.asn1_schema.specs.Grammar.{IsBitContent, digits_2, bits_in}
use Rattle.asn1_schema.specs.Reading.{rules_of}
use Rattle.asn1_schema.specs.Bits.{LowZero, MayBeUnused}
use Rattle.asn1_schema.proofs.BitContents.{digits_length, bits_length}
use Rattle.asn1_schema.proofs.SameParts.{same_last}

pub low_next : (u n : ℕ) → u ≢ 0 → (LowZero u n → (n % 2 ≡ 0) × LowZero (u - 1) (n / 2)) ×
    ((n % 2 ≡ 0) → LowZero (u - 1) (n / 2) → LowZero u n)
low_next zero n some = absurd (some refl)
low_next (suc u) n some =
    let e : suc u - 1 ≡ u = omega arith in
    (λ a. (a.0, subst (λ (z : ℕ). LowZero z (n / 2)) (sym e) a.1), λ a b. (a, subst (λ (z : ℕ). LowZero z (n / 2)) e b))

pub low_none : (u n : ℕ) → u ≡ 0 → LowZero u n
low_none zero n e = tt
low_none (suc u) n e = absurd (omega (arith, e))

even : (m : ℕ) → m < 2 → nat_eq m 1 ≡ false → m ≡ 0
even zero l e = refl
even (suc zero) l e = absurd (cc)
even (suc (suc m)) l e = absurd (omega (arith, l))

next_zeros : (u : ℕ) → replicate u false ++ false ∷ [] ≡ replicate (suc u) false
next_zeros u =
    let e : u + 1 ≡ suc u = omega arith in
    replicate_more u false ∙ ap (λ (z : ℕ). replicate z false) e

next_low : (u w n : ℕ) → u ≤ w → drop (suc w - suc u) (digits_2 (suc w) n) ≡
    drop (w - u) (digits_2 w (n / 2)) ++ nat_eq (n % 2) 1 ∷ []
next_low u w n l =
    let k : suc w - suc u ≡ w - u = omega arith in
    let d = digits_length w (n / 2) in
    ap (λ (i : ℕ). drop i (digits_2 (suc w) n)) k ∙
    drop-append-le (w - u) (digits_2 w (n / 2)) (nat_eq (n % 2) 1 ∷ []) (omega (arith, d))

low_zeros : (u w n : ℕ) → u ≤ w → LowZero u n → drop (w - u) (digits_2 w n) ≡ replicate u false
low_zeros zero w n l z = let d = digits_length w n in drop_all (w - 0) (digits_2 w n) (omega (arith, d))
low_zeros (suc u) zero n l z = absurd (omega (arith, l))
low_zeros (suc u) (suc w) n l z =
    let b : nat_eq (n % 2) 1 ≡ false = ap (λ (m : ℕ). nat_eq m 1) z.0 in
    next_low u w n (omega (arith, l))
    ∙ (ap (λ (xs : List Bool). xs ++ nat_eq (n % 2) 1 ∷ []) (low_zeros u w (n / 2) (omega (arith, l)) z.1)
    ∙ (ap (λ (x : Bool). replicate u false ++ x ∷ []) b ∙ next_zeros u))

zeros_low : (u w n : ℕ) → u ≤ w → drop (w - u) (digits_2 w n) ≡ replicate u false → LowZero u n
zeros_low zero w n l e = tt
zeros_low (suc u) zero n l e = absurd (omega (arith, l))
zeros_low (suc u) (suc w) n l e =
    let p = same_last (drop (w - u) (digits_2 w (n / 2))) (replicate u false) (nat_eq (n % 2) 1) false
    (sym (next_low u w n (omega (arith, l))) ∙ (e ∙ sym (next_zeros u))) in
    (even (n % 2) (omega arith) p.1, zeros_low u w (n / 2) (omega (arith, l)) p.0)

pub bits_append : (xs ys : List ℕ) → bits_in (xs ++ ys) ≡ bits_in xs ++ bits_in ys
bits_append [] ys = refl
bits_append (x ∷ xs) ys = ap (λ (z : List Bool). digits_2 8 x ++ z) (bits_append xs ys) ∙
    sym (append_assoc (digits_2 8 x) (bits_in xs) (bits_in ys))

-- the last bits of octets are those of the last octet
last_octet : (o init : List ℕ) (last u : ℕ) → o ≡ init ++ last ∷ [] → u ≤ 7 →
    drop (8 * length o - u) (bits_in o) ≡ drop (8 - u) (digits_2 8 last)
last_octet o init last u e l =
    let n = ap length e ∙ length-append init (last ∷ []) in
    let b = bits_length init in
    let k : 8 * length o - u ≡ length (bits_in init) + (8 - u) = omega (arith, n, b, l) in
    ap (λ (i : ℕ). drop i (bits_in o)) k ∙ (ap (λ (z : List ℕ). drop (length (bits_in init) + (8 - u)) (bits_in z)) e
    ∙ (ap (drop (length (bits_in init) + (8 - u))) (bits_append init (last ∷ []))
    ∙ (drop-append-add (bits_in init) (digits_2 8 last ++ []) (8 - u) ∙ ap (drop (8 - u)) (append-nil (digits_2 8 last)))))

unused_length : (o : List ℕ) (u : ℕ) → u ≤ 8 * length o → length (drop (8 * length o - u) (bits_in o)) ≡ u
unused_length o u l =
    let b = bits_length o in
    let d = length-drop (8 * length o - u) (bits_in o) in
    omega (arith, b, d, l)

pub der_may : (o init : List ℕ) (last u : ℕ) → o ≡ init ++ last ∷ [] → u ≤ 7 → LowZero u last → MayBeUnused codings.Der u o
der_may o init last u e l z =
    let n = ap length e ∙ length-append init (last ∷ []) in
    let m : u ≤ 8 * length o = omega (arith, n, l) in (
      l,
      m,
      last_octet o init last u e l ∙ (low_zeros u 8 last (omega (arith, l)) z
          ∙ ap (λ (i : ℕ). replicate i false) (sym (unused_length o u m))),
    )

pub der_may_of : (o init : List ℕ) (last u : ℕ) → o ≡ init ++ last ∷ [] → MayBeUnused codings.Der u o → LowZero u last
der_may_of o init last u e a =
    let l = a.0 in
    zeros_low u 8 last (omega (arith, l)) (sym (last_octet o init last u e a.0) ∙ (a.2
    ∙ ap (λ (i : ℕ). replicate i false) (unused_length o u a.1)))

pub none_may : (e : Coding) (o : List ℕ) (u : ℕ) → u ≡ 0 → MayBeUnused e u o
none_may e o u z =
    let b = bits_length o in
    let d : drop (8 * length o - u) (bits_in o) ≡ [] = drop_all (8 * length o - u) (bits_in o) (omega (arith, b, z)) in
    (omega (arith, z), omega (arith, z), by_coding e d)
  where
    by_coding : (e : Coding) → drop (8 * length o - u) (bits_in o) ≡ [] →
        (rules_of e).Unused (drop (8 * length o - u) (bits_in o))
    by_coding codings.Der d = d ∙ sym (ap (λ (xs : List Bool). replicate (length xs) false) d)
    by_coding (codings.Ber max) d = tt

pub ber_may : (max : ℕ) (o : List ℕ) (u : ℕ) → u ≤ 7 → o ≢ [] → MayBeUnused (codings.Ber max) u o
ber_may max [] u l some = absurd (some refl)
ber_may max (x ∷ o) u l some = (l, omega (arith, l), tt)

-- the contents octets say the other bits
pub bits_made : (e : Coding) (u : ℕ) (o : List ℕ) → IsOctets o → MayBeUnused e u o →
    IsBitContent (rules_of e) (u ∷ o) (take (8 * length o - u) (bits_in o))
bits_made e u o octets a =
    let n = unused_length o u a.1 in
    let few = a.0 in
    record {
      unused = drop (8 * length o - u) (bits_in o);
      octets = o;
      are_octets = octets;
      few = omega (arith, n, few);
      is = ap (λ (i : ℕ). i ∷ o) (sym n);
      bits = sym (take-append-drop (8 * length o - u) (bits_in o));
      allowed = a.2;
    }

pub bits_of : (e : Coding) (u : ℕ) (o : List ℕ) (bs : List Bool) → IsBitContent (rules_of e) (u ∷ o) bs → MayBeUnused e u o
bits_of e u o bs a =
    let eq = a.is in
    let few = a.few in
    let first : u ≡ length a.unused = cc in
    let rest : o ≡ a.octets = cc in
    let all : bits_in o ≡ bs ++ a.unused = ap bits_in rest ∙ a.bits in
    let l = ap length all ∙ length-append bs a.unused in
    let b = bits_length o in
    let n : length bs ≡ 8 * length o - u = omega (arith, l, b, first) in (
      omega (arith, first, few),
      omega (arith, l, b, first),
      subst (rules_of e).Unused (sym (ap (drop (8 * length o - u)) all ∙ drop_at bs a.unused (8 * length o - u) n)) a.allowed,
    )
