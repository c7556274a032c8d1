-- The size of a string in pieces is that of what they join to.
use Rattle.std.proofs.Common.{◌≡◌, ◌∙◌, ap, sym, refl, ℕ, ◌+◌, List, [], ◌∷◌, ◌++◌, length, arith, length-append}
use Rattle.std.specs.Prelude.{pos, Bool, true, false, Some, map, nat_le, ◌&&◌, not}
use Rattle.asn1_schema.specs.declared.schema.TextKind.{TextKind}
use Rattle.asn1_schema.specs.declared.schema.TextKind.TheVariants as texts
use Rattle.asn1_schema.specs.Values.{bits, leaf, joined, leads, characters, measure}
use Rattle.asn1_schema.specs.Tape.{Sort, of_octets, of_text, of_time, string, leaf_mark}
use Rattle.asn1_schema.specs.Sizes.{text_units, size_of_text, all_units, all_bits, pieces_measure}

pub other_units : (kind : TextKind) (o : List ℕ) → (kind ≡ texts.Utf8 → ⊥) → length o ≡ text_units kind o
other_units texts.Utf8 o n = absurd (n refl)
other_units _ o n = refl

pub other_size : (kind : TextKind) (n : ℕ) → (kind ≡ texts.Bmp → ⊥) → (kind ≡ texts.Universal → ⊥) → n ≡ size_of_text kind n
other_size texts.Bmp n a b = absurd (a refl)
other_size texts.Universal n a b = absurd (b refl)
other_size _ n a b = refl

pub characters_are : (kind : TextKind) (o : List ℕ) → size_of_text kind (text_units kind o) ≡ characters kind o
characters_are texts.Utf8 o = refl
characters_are texts.Bmp o = refl
characters_are texts.Universal o = refl
characters_are _ o = refl

leads_append : (xs ys : List ℕ) → leads (xs ++ ys) ≡ leads xs + leads ys
leads_append [] ys = omega arith
leads_append (x ∷ xs) ys = by_lead (nat_le 128 x && not (nat_le 192 x)) refl (leads_append xs ys)
  where
    by_lead : (b : Bool) → (nat_le 128 x && not (nat_le 192 x)) ≡ b → leads (xs ++ ys) ≡ leads xs + leads ys →
        leads (x ∷ (xs ++ ys)) ≡ leads (x ∷ xs) + leads ys
    by_lead true e h = rw e h
    by_lead false e h = rw e (omega (arith, h))

units_append : (kind : TextKind) (xs ys : List ℕ) → text_units kind (xs ++ ys) ≡ text_units kind xs + text_units kind ys
units_append texts.Utf8 xs ys = leads_append xs ys
units_append _ xs ys = length-append xs ys

units_empty : (kind : TextKind) → text_units kind [] ≡ 0
units_empty texts.Utf8 = refl
units_empty _ = refl

text_joined : (kind : TextKind) (os : List (List ℕ)) →
    all_units (map (λ y. leaf_mark (string (of_text kind) y)) os) ≡ text_units kind (joined os)
text_joined kind [] = sym (units_empty kind)
text_joined kind (o ∷ os) =
    ap (λ (n : ℕ). text_units kind o + n) (text_joined kind os) ∙ sym (units_append kind o (joined os))

octets_joined : (os : List (List ℕ)) → all_units (map (λ y. leaf_mark (string of_octets y)) os) ≡ length (joined os)
octets_joined [] = refl
octets_joined (o ∷ os) = ap (λ (n : ℕ). length o + n) (octets_joined os) ∙ sym (length-append o (joined os))

bits_joined : (bs : List (List Bool)) → all_bits (map (λ y. leaf_mark (bits y)) bs) ≡ length (joined bs)
bits_joined [] = refl
bits_joined (b ∷ bs) = ap (λ (n : ℕ). length b + n) (bits_joined bs) ∙ sym (length-append b (joined bs))

pub measure_joined : (s : Sort) (o : List ℕ) (os : List (List ℕ)) →
    pieces_measure (map (λ y. leaf_mark (string s y)) (o ∷ os)) ≡ measure (leaf (string s (joined (o ∷ os))))
measure_joined of_octets o os = ap (λ (n : ℕ). Some (pos n)) (octets_joined (o ∷ os))
measure_joined (of_text kind) o os = ap (λ (n : ℕ). Some (pos (size_of_text kind n))) (text_joined kind (o ∷ os))
    ∙ ap (λ (n : ℕ). Some (pos n)) (characters_are kind (joined (o ∷ os)))
measure_joined (of_time kind) o os = refl

pub measure_of_bits : (b : List Bool) (bs : List (List Bool)) →
    pieces_measure (map (λ y. leaf_mark (bits y)) (b ∷ bs)) ≡ measure (leaf (bits (joined (b ∷ bs))))
measure_of_bits b bs = ap (λ (n : ℕ). Some (pos n)) (bits_joined (b ∷ bs))
