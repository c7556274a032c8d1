-- Strict texts of times are texts of times.
use Rattle.std.proofs.Common.{◌≡◌, refl, inl, inr, ap, arith, List, ℕ, ◌≤◌, [], ◌∷◌, ◌++◌, length, length-append}
use Rattle.std.proofs.lemmas.Bool.Decides.{nat_tests}
use Rattle.std.proofs.lemmas.List.Folds.{list_all-append}
use Rattle.std.specs.Char.{is_ascii_digit}
use Rattle.x690.specs.Sets.{AllIn}
use Rattle.x690.specs.Times.{digits, z_text, IsStrictFraction}
use Rattle.asn1_schema.specs.declared.schema.TimeKind.{TimeKind}
use Rattle.asn1_schema.specs.declared.schema.TimeKind.TheVariants as times
use Rattle.asn1_schema.specs.Rules.{IsStrictTime, IsTime, IsFraction}

some_octets : (octets : List ℕ) (last : ℕ) → octets ++ last ∷ [] ≡ [] → ⊥
some_octets octets last e =
    let n : length (octets ++ last ∷ []) ≡ 0 = ap (λ (o : List ℕ). length o) e in
    let l = length-append octets (last ∷ []) in
    omega (arith, n, l)

all_digits : (octets : List ℕ) (last : ℕ) → AllIn is_ascii_digit octets → 49 ≤ last → last ≤ 57 →
    AllIn is_ascii_digit (octets ++ last ∷ [])
all_digits octets last all low high =
    let one : AllIn is_ascii_digit (last ∷ []) = grind (arith, nat_tests, low, high) in
    rw (list_all-append, all) one

fraction_lax : (o : List ℕ) → IsStrictFraction o → IsFraction o
fraction_lax o a = elim a [
  | inl none ↦ inl none
  | inr d ↦ inr (46, d.0 ++ d.1 ∷ [], inl refl, some_octets d.0 d.1, all_digits d.0 d.1 d.2 d.3 d.4, d.5)
]

pub time_lax : (kind : TimeKind) (o : List ℕ) → IsStrictTime kind o → IsTime kind o
time_lax times.Utc o a =
    let m = a.0 in (m, digits 2 m.second, z_text, a.2, a.1.range, inr refl, inl (refl, a.1.zone), a.3)
time_lax times.Generalized o a =
    let m = a.0 in (
      m,
      digits 2 m.minute ++ digits 2 m.second,
      a.1,
      z_text,
      a.3,
      a.2.range,
      inr (inr refl),
      fraction_lax a.1 a.4,
      inl (inr (inl (refl, a.2.zone))),
      a.5,
    )
