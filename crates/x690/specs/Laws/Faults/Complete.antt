-- Octets that no identifier, no length, no header or no element by DER begins have a fault.
use Rattle.std.proofs.Common.{◌≡◌, ◌≢◌, ℕ, zero, suc, ◌+◌, ◌-◌, ◌*◌, ◌/◌, ◌%◌, ◌^◌, ◌<◌, ◌≤◌, Bool, true, false, List}
use Rattle.std.proofs.Common.{[], ◌∷◌, ◌++◌, length, take, drop, refl, sym, ap, ◌∙◌, arith, subst, inl, inr, ◌⊎◌}
use Rattle.std.proofs.Common.{append_assoc, take-append-drop}
use Rattle.std.proofs.lemmas.Bool.{cases_lt}
use Rattle.std.proofs.lemmas.List.{length-take, length-take-le}
use Rattle.x690.specs.Octets.{IsOctets}
use Rattle.x690.specs.Digits.{base_128_value, base_256_value}
use Rattle.x690.specs.Identifiers.{Identifier, IsIdentifier, AreTagDigits, bit}
use Rattle.x690.specs.Lengths.{LengthForm, definite, indefinite, IsLengthForm}
use Rattle.x690.specs.Rules.{Rule, der_rule, allows_form}
use Rattle.x690.specs.Elements.{IsHeader, IsDerElement, BeginsWithHeader, BeginsWithElement}
use Rattle.x690.specs.Faults.{missing, tag_fault, length_fault, rule_fault, identifier_violation, violation_of}
use Rattle.x690.specs.Faults.{IdentifierFault, LengthFault, HeaderFault, DerElementFault, HasFault}
use Rattle.x690.specs.Laws.Octets.{octets_front, octets_back}
use Rattle.x690.specs.Laws.Identifiers.{tag_digits_unique, no_identifier}
use Rattle.x690.specs.Laws.Headers.{der_header_definite}

-- the digits of a tag number, so many at most, begin the octets
abbrev BeginsWithDigits : ℕ → List ℕ → Type 0
BeginsWithDigits n octets =
    (front : List ℕ) × (rest : List ℕ) × AreTagDigits front × (length front ≤ n) × (octets ≡ front ++ rest)

no_digits : (front : List ℕ) → AreTagDigits front → length front ≤ 0 → ⊥
no_digits [] a l = a
no_digits (d ∷ front) a l = omega arith

no_digits_in_nothing : (front rest : List ℕ) → AreTagDigits front → [] ≡ front ++ rest → ⊥
no_digits_in_nothing [] rest a e = a
no_digits_in_nothing (d ∷ front) rest a e = cc

one_digit_more : (d : ℕ) (front : List ℕ) → 128 ≤ d → d < 256 → AreTagDigits front → AreTagDigits (d ∷ front)
one_digit_more d [] h o a = absurd a
one_digit_more d (e ∷ front) h o a = (h, o, a)

one_digit_less : (n d : ℕ) (ds front rest : List ℕ) → 128 ≤ d → AreTagDigits front → length front ≤ suc n →
    d ∷ ds ≡ front ++ rest → BeginsWithDigits n ds
one_digit_less n d ds [] rest h a l e = absurd a
one_digit_less n d ds (x ∷ []) rest h a l e = let s : d ≡ x = cc in absurd (omega arith)
one_digit_less n d ds (x ∷ y ∷ front) rest h a l e =
    let t : ds ≡ (y ∷ front) ++ rest = cc in
    (y ∷ front, rest, a.2, omega (arith, l), t)

digits_or_none : (n : ℕ) (octets : List ℕ) → IsOctets octets →
    BeginsWithDigits n octets ⊎ (BeginsWithDigits n octets → ⊥)
digits_or_none zero octets o = inr (λ t. no_digits t.0 t.2 t.3)
digits_or_none (suc n) [] o = inr (λ t. no_digits_in_nothing t.0 t.1 t.2 t.4)
digits_or_none (suc n) (d ∷ ds) o = elim (cases_lt d 128) [
  | inl low ↦ inl (d ∷ [], ds, low, omega arith, refl)
  | inr high ↦ elim (digits_or_none n ds (λ k. o (suc k))) [
    | inl t ↦
        inl (d ∷ t.0, t.1, one_digit_more d t.0 high (o 0) t.2, omega (arith, t.3), ap (λ (ys : List ℕ). d ∷ ys) t.4)
    | inr none ↦ inr (λ t. none (one_digit_less n d ds t.0 t.1 high t.2 t.3 t.4))
  ]
]

-- the parts of a first octet
FirstParts : ℕ → Type 0
FirstParts x = (class : ℕ) × (constructed : Bool) × (low : ℕ) × (class < 4) × (low < 32) ×
    (x ≡ 64 * class + 32 * bit constructed + low)

first_parts : (x : ℕ) → x < 256 → FirstParts x
unfolding FirstParts
first_parts x h = elim (cases_lt (x % 64) 32) [
  | inl l ↦ (x / 64, false, x % 64, omega arith, l, omega arith)
  | inr l ↦ (x / 64, true, x % 64 - 32, omega arith, omega arith, omega arith)
]

abbrev BeginsWithIdentifier : List ℕ → Type 0
BeginsWithIdentifier octets =
    (front : List ℕ) × (rest : List ℕ) × (id : Identifier) × IsIdentifier front id × (octets ≡ front ++ rest)

not_nothing : (x : ℕ) (xs : List ℕ) → x ∷ xs ≢ []
not_nothing x xs e = cc

high_or_fault : (x class low : ℕ) (constructed : Bool) (xs : List ℕ) → IsOctets xs → class < 4 → low < 32 → 31 ≤ low →
    x ≡ 64 * class + 32 * bit constructed + low → BeginsWithIdentifier (x ∷ xs) ⊎ HasFault IdentifierFault (x ∷ xs)
high_or_fault x class low constructed xs o c l h e = elim (digits_or_none 5 xs o) [
  | inl t ↦ elim (cases_lt (base_128_value t.0) (2 ^ 32)) [
    | inl small ↦ inl (
      x ∷ t.0,
      t.1,
      record { class = class; constructed = constructed; number = base_128_value t.0 },
      (low, c, l, e, inr (omega arith, t.2, t.3, refl, small)),
      ap (λ (ys : List ℕ). x ∷ ys) t.4,
    )
    | inr great ↦ inr (
      tag_fault,
      (
        not_nothing x xs,
        no_identifier (x ∷ xs) xs class constructed low l h e refl
            (λ k few digits fits.
            let s = tag_digits_unique (take k xs) t.0 (drop k xs) t.1 digits t.2 (take-append-drop k xs ∙ t.4) in
            omega (arith, ap base_128_value s, fits, great)),
      ),
    )
  ]
  | inr none ↦ inr (
    tag_fault,
    (
      not_nothing x xs,
      no_identifier (x ∷ xs) xs class constructed low l h e refl
          (λ k few digits fits. none (
            take k xs,
            drop k xs,
            digits,
            omega (arith, length-take k xs),
            sym (take-append-drop k xs),
          )),
    ),
  )
]

identifier_or_fault : (octets : List ℕ) → IsOctets octets →
    BeginsWithIdentifier octets ⊎ HasFault IdentifierFault octets
unfolding FirstParts
identifier_or_fault [] o = inr (missing 1, (refl, refl))
identifier_or_fault (x ∷ xs) o =
    let p = first_parts x (o 0) in
    elim (cases_lt p.2 31) [
      | inl low ↦ inl (
        x ∷ [],
        xs,
        record { class = p.0; constructed = p.1; number = p.2 },
        (p.2, p.3, p.4, p.5, inl (refl, omega arith, refl)),
        refl,
      )
      | inr high ↦ high_or_fault x p.0 p.2 p.1 xs (λ k. o (suc k)) p.3 p.4 high p.5
    ]

abbrev BeginsWithLength : List ℕ → Type 0
BeginsWithLength octets =
    (count : List ℕ) × (rest : List ℕ) × (form : LengthForm) × IsLengthForm count form × (octets ≡ count ++ rest)

-- the first octet counts the others
long_or_fault : (x count : ℕ) (xs : List ℕ) → IsOctets xs → x ≡ 128 + count → 1 ≤ count → count ≤ 126 →
    BeginsWithLength (x ∷ xs) ⊎ HasFault LengthFault (x ∷ xs)
long_or_fault x count xs o e some few = elim (cases_lt (length xs) count) [
  | inl short ↦ inr (missing (count - length xs), (count, e, few, omega arith, omega arith))
  | inr there ↦
      let front : List ℕ = take count xs in
      let l : length front ≡ count = length-take-le count xs there in
      let s : front ++ drop count xs ≡ xs = take-append-drop count xs in
      let f : x ≡ 128 + length front = e ∙ ap (λ n. 128 + n) (sym l) in
      elim (cases_lt (base_256_value front) (2 ^ 64)) [
        | inl small ↦ inl (
          x ∷ front,
          drop count xs,
          definite (base_256_value front),
          inr (omega arith, omega arith, f, octets_front front (drop count xs) (subst IsOctets (sym s) o), refl, small),
          ap (λ (ys : List ℕ). x ∷ ys) (sym s),
        )
        | inr great ↦ inr (
          length_fault,
          inr (
            front,
            drop count xs,
            omega arith,
            omega arith,
            ap (λ (ys : List ℕ). x ∷ ys) (sym s) ∙ ap (λ n. n ∷ front ++ drop count xs) f,
            great,
          ),
        )
      ]
]

length_or_fault : (octets : List ℕ) → IsOctets octets → BeginsWithLength octets ⊎ HasFault LengthFault octets
length_or_fault [] o = inr (missing 1, refl)
length_or_fault (x ∷ xs) o = elim (cases_lt x 128) [
  | inl short ↦ inl (x ∷ [], xs, definite x, inl (short, refl), refl)
  | inr long ↦ elim (cases_lt x 129) [
    | inl eighty ↦ let e : x ≡ 128 = omega arith in inl (x ∷ [], xs, indefinite, ap (λ n. n ∷ []) e, refl)
    | inr counts ↦ elim (cases_lt x 255) [
      | inl below ↦ long_or_fault x (x - 128) xs (λ k. o (suc k)) (omega arith) (omega arith) (omega arith)
      | inr last ↦ let e : x ≡ 255 = let b = o 0 in omega arith in inr (length_fault, inl (xs, ap (λ n. n ∷ xs) e))
    ]
  ]
]

either : (b : Bool) → (b ≡ true) ⊎ (b ≡ false)
either true = inl refl
either false = inr refl

-- A header by the rule begins octets, or they have a fault.
pub header_or_has_fault : (rule : Rule) (octets : List ℕ) → IsOctets octets →
    BeginsWithHeader rule octets ⊎ HasFault (HeaderFault rule) octets
header_or_has_fault rule octets o = elim (identifier_or_fault octets o) [
  | inr f ↦ inr (f.0, inl f.1)
  | inl i ↦ elim (either (rule.allows_identifier i.0)) [
    | inr n ↦ inr (
      rule_fault identifier_violation,
      inr (record { identifier = i.0; rest = i.1; id = i.2; identifier_is = i.3; is = i.4; why = inl (n, refl) }),
    )
    | inl a ↦ elim (length_or_fault i.1 (octets_back i.0 i.1 (subst IsOctets i.4 o))) [
      | inr f ↦ inr (
        f.0,
        inr (record { identifier = i.0; rest = i.1; id = i.2; identifier_is = i.3; is = i.4; why = inr (a, inl f.1) }),
      )
      | inl l ↦ elim (either (allows_form rule i.2 l.0 l.2)) [
        | inl b ↦ inl (
          i.0 ++ l.0,
          l.1,
          i.2,
          l.2,
          record {
            identifier = i.0;
            count = l.0;
            is = refl;
            identifier_is = i.3;
            count_is = l.3;
            identifier_allowed = a;
            count_allowed = b;
          },
          i.4 ∙ ap (λ (ys : List ℕ). i.0 ++ ys) l.4 ∙ sym (append_assoc i.0 l.0 l.1),
        )
        | inr n ↦ inr (
          rule_fault (violation_of l.2),
          inr (record {
            identifier = i.0;
            rest = i.1;
            id = i.2;
            identifier_is = i.3;
            is = i.4;
            why = inr (
              a,
              inr (record {
                count = l.0;
                rest = l.1;
                form = l.2;
                count_is = l.3;
                is = l.4;
                not_allowed = n;
                fault_is = refl;
              }),
            );
          }),
        )
      ]
    ]
  ]
]

-- An element by DER begins octets, or they have a fault.
pub der_element_or_has_fault : (octets : List ℕ) → IsOctets octets →
    BeginsWithElement IsDerElement octets ⊎ HasFault DerElementFault octets
der_element_or_has_fault octets o = elim (header_or_has_fault der_rule octets o) [
  | inr f ↦ inr (f.0, inl f.1)
  | inl (header, rest, id, form, h, e) ↦
      let d = der_header_definite header id form h in
      let k : IsHeader der_rule header id (definite d.0) =
      subst (λ (f : LengthForm). IsHeader der_rule header id f) d.1 h in
      elim (cases_lt (length rest) d.0) [
        | inl short ↦ inr (
          missing (d.0 - length rest),
          inr (record {
            header = header;
            rest = rest;
            id = id;
            counted = d.0;
            lacking = d.0 - length rest;
            header_is = k;
            is = e;
            some = omega arith;
            sum = omega arith;
            fault_is = refl;
          }),
        )
        | inr there ↦
            let content : List ℕ = take d.0 rest in
            let s : content ++ drop d.0 rest ≡ rest = take-append-drop d.0 rest in
            let whole : IsOctets rest = octets_back header rest (subst IsOctets e o) in
            inl (
              header ++ content,
              drop d.0 rest,
              record { id = id; form = definite d.0; content = content },
              record {
                header = header;
                header_is = k;
                counted = ap definite (sym (length-take-le d.0 rest there));
                content_octets = octets_front content (drop d.0 rest) (subst IsOctets (sym s) whole);
                is = refl;
              },
              e ∙ ap (λ (ys : List ℕ). header ++ ys) (sym s) ∙ sym (append_assoc header content (drop d.0 rest)),
            )
      ]
]
