-- Octets of bits give the bits back.
use Rattle.std.proofs.Common.{◌≡◌, ◌∙◌, ap, sym, refl, subst, ℕ, zero, suc, ◌+◌, ◌-◌, ◌*◌, ◌/◌, ◌%◌, ◌<◌, ◌≤◌, Bool, true, false, List, [], ◌∷◌, ◌++◌, length, take, drop, get_or, nat_eq, arith}
use Rattle.x690.specs.Identifiers.{bit}
use Rattle.json.specs.Json.{Members}
use Rattle.asn1_words.specs.Words.{number_text}
use Rattle.asn1_schema.specs.Grammar.{bits_in, digits_2}
use Rattle.asn1_json.specs.Leaves.{number_of_bits, octets_from, octets_of_bits}
use Rattle.asn1_json.specs.DenotedLeaves.{DenotesBits, IsHexadecimal}
use Rattle.asn1_json.specs.Numerals.{numeral_value}
use Rattle.asn1_json.proofs.MadeLeaves.{same_numeral, same_text}
use Rattle.asn1_json.proofs.OctetsOfBits.{bit_more}
use Rattle.asn1_json.proofs.SaidNumbers.{text_value}

-- so many bits, filled with zeros
abbrev padded : ℕ → List Bool → List Bool
padded zero bs = []
padded (suc n) [] = false ∷ padded n []
padded (suc n) (b ∷ bs) = b ∷ padded n bs

padded_more : (n : ℕ) (bs : List Bool) → padded n bs ++ get_or bs n false ∷ [] ≡ padded (suc n) bs
padded_more zero [] = refl
padded_more zero (b ∷ bs) = refl
padded_more (suc n) [] = ap (λ (l : List Bool). false ∷ l) (padded_more n [])
padded_more (suc n) (b ∷ bs) = ap (λ (l : List Bool). b ∷ l) (padded_more n bs)

low_bit : (n : ℕ) (b : Bool) → nat_eq ((n * 2 + bit b) % 2) 1 ≡ b
low_bit n true = let e : (n * 2 + 1) % 2 ≡ 1 = omega arith in ap (λ m. nat_eq m 1) e
low_bit n false = let e : (n * 2 + 0) % 2 ≡ 0 = omega arith in ap (λ m. nat_eq m 1) e

high_bits : (n : ℕ) (b : Bool) → (n * 2 + bit b) / 2 ≡ n
high_bits n true = omega arith
high_bits n false = omega arith

-- the digits of a number of bits are these
digits_back : (n : ℕ) (bs : List Bool) → digits_2 n (number_of_bits n bs) ≡ padded n bs
digits_back zero bs = refl
digits_back (suc n) bs =
    let m : ℕ = number_of_bits n bs in
    let b : Bool = get_or bs n false in
    ap (λ k. digits_2 (suc n) k) (bit_more n bs)
    ∙ ap (λ k. digits_2 n k ++ nat_eq ((m * 2 + bit b) % 2) 1 ∷ []) (high_bits m b)
    ∙ ap (λ c. digits_2 n m ++ c ∷ []) (low_bit m b)
    ∙ ap (λ (l : List Bool). l ++ b ∷ []) (digits_back n bs) ∙ padded_more n bs

abbrev no_bits : List Bool
no_bits = []

drop_none : (k : ℕ) → drop k no_bits ≡ no_bits
drop_none zero = refl
drop_none (suc k) = refl

padded_both : (m n : ℕ) (bs : List Bool) → padded m bs ++ padded n (drop m bs) ≡ padded (m + n) bs
padded_both zero n bs = let e : n ≡ 0 + n = omega arith in ap (λ k. padded k bs) e
padded_both (suc m) n [] =
    let e : suc (m + n) ≡ suc m + n = omega arith in
    ap (λ (l : List Bool). false ∷ l) (ap (λ (l : List Bool). padded m [] ++ padded n l) (sym (drop_none m)) ∙ padded_both m n [])
    ∙ ap (λ k. padded k []) e
padded_both (suc m) n (b ∷ bs) =
    let e : suc (m + n) ≡ suc m + n = omega arith in
    ap (λ (l : List Bool). b ∷ l) (padded_both m n bs) ∙ ap (λ k. padded k (b ∷ bs)) e

from_back : (count : ℕ) (bs : List Bool) → bits_in (octets_from count bs) ≡ padded (8 * count) bs
from_back zero bs = refl
from_back (suc count) bs =
    let e : 8 + 8 * count ≡ 8 * suc count = omega arith in
    ap (λ (l : List Bool). l ++ bits_in (octets_from count (drop 8 bs))) (digits_back 8 bs)
    ∙ ap (λ (l : List Bool). padded 8 bs ++ l) (from_back count (drop 8 bs))
    ∙ padded_both 8 (8 * count) bs ∙ ap (λ k. padded k bs) e

front_back : (n : ℕ) (bs : List Bool) → length bs ≤ n → take (length bs) (padded n bs) ≡ bs
front_back n [] le = refl
front_back zero (b ∷ bs) le = absurd (omega (arith, le))
front_back (suc n) (b ∷ bs) le = ap (λ (l : List Bool). b ∷ l) (front_back n bs (omega (arith, le)))

pub bits_back : (bs : List Bool) → take (length bs) (bits_in (octets_of_bits bs)) ≡ bs
bits_back bs =
    let count : ℕ = (length bs + 7) / 8 in
    let le : length bs ≤ 8 * count = omega arith in
    ap (λ (l : List Bool). take (length bs) l) (from_back count bs) ∙ front_back (8 * count) bs le

from_length : (count : ℕ) (bs : List Bool) → length (octets_from count bs) ≡ count
from_length zero bs = refl
from_length (suc count) bs = ap suc (from_length count (drop 8 bs))

-- bits are told by their octets and their number
pub same_bits : (bs cs : List Bool) → octets_of_bits bs ≡ octets_of_bits cs → length bs ≡ length cs → bs ≡ cs
same_bits bs cs e l = sym (bits_back bs) ∙ ap (λ n. take n (bits_in (octets_of_bits bs))) l
    ∙ ap (λ (o : List ℕ). take (length cs) (bits_in o)) e ∙ bits_back cs

pub same_number : (m n : ℕ) → number_text m ≡ number_text n → m ≡ n
same_number m n e = sym (text_value m) ∙ ap numeral_value e ∙ text_value n

-- of octets that bits fill seven bits at most are unused
pub few_unused : (o : List ℕ) (bs : List Bool) → o ≡ octets_of_bits bs → (8 * length o - length bs < 8) × (length bs ≤ 8 * length o)
few_unused o bs e =
    let l : length o ≡ (length bs + 7) / 8 = ap (λ (x : List ℕ). length x) e ∙ from_length ((length bs + 7) / 8) bs in
    (omega (arith, l), omega (arith, l))

module _ (ms : Members) (bs cs : List Bool) (d : DenotesBits ms bs) (e : DenotesBits ms cs) where
  texts : d.text ≡ e.text
  texts = let f = sym d.value ∙ e.value in same_text d.text e.text (cc (f))

  octets : octets_of_bits bs ≡ octets_of_bits cs
  octets = let f = sym d.octets ∙ subst (λ (t : List ℕ). IsHexadecimal t (octets_of_bits cs)) (sym texts) e.octets in cc (f)

  lengths : length bs ≡ length cs
  lengths = let f = sym d.length ∙ e.length in
      same_number (length bs) (length cs) (same_numeral (number_text (length bs)) (number_text (length cs)) (cc (f)))

  -- an object denotes one bit string
  pub one_bits : bs ≡ cs
  one_bits = same_bits bs cs octets lengths
