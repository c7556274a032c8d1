-- The texts of times, read from their front.
use Rattle.std.proofs.Common.{◌≡◌, ◌≢◌, ◌∙◌, ◌↔◌, ap, sym, subst, refl, ℕ, ◌+◌, ◌-◌, ◌*◌, ◌/◌, ◌%◌, ◌<◌, ◌≤◌, ◌⊎◌, inl, inr, Bool, true, false, IsTrue, List, [], ◌∷◌, ◌++◌, append_assoc, arith}
use Rattle.std.specs.Prelude.{Option, Some, None, IfSome}
use Rattle.std.specs.List.{list_all}
use Rattle.std.specs.Char.{is_ascii_digit}
use Rattle.std.proofs.lemmas.Bool.{and_parts}
use Rattle.std.proofs.lemmas.Bool.Decides.{nat_tests}
use Rattle.std.proofs.lemmas.List.Folds.{list_all-append}
use Rattle.x690.specs.Sets.{AllIn}
use Rattle.x690.specs.Times.{digits, to_minute, InRange, east, west, SaysZone, SaysZoneOrNone}
use Rattle.x690.specs.Laws.Times.Digits.{digits_split, HasNoDigit}
use Rattle.x690.specs.declared.times.Moment.{Moment}
use Rattle.x690.specs.declared.times.TimeZone.{TimeZone}
use Rattle.x690.specs.declared.times.TimeZone.TheVariants.{Undefined, Z}
use Rattle.asn1_schema.specs.declared.schema.TimeKind.TheVariants as times
use Rattle.asn1_schema.specs.declared.joined.Joined.{Joined}
use Rattle.asn1_schema.specs.Joined.{said}
use Rattle.asn1_schema.specs.Rules.{IsTime, IsFraction, SaysAnyZone}
use Rattle.asn1_schema.specs.Moments.{Then, ThenHour, IsRest, IsZoneText, IsLocal, IsFractionEnd, IsMinuteEnd, IsUtcEnd, IsMomentText, IsDigitsBefore, IsFractionBefore}

-- two digits, and what follows them
pub then_rest : (most : ℕ) (Q : List ℕ → Type 0) (text : List ℕ) → Then most Q text →
    (rest : List ℕ) × Then most (IsRest rest) text × Q rest
then_rest most Q text a = (a.1, (a.0, a.1, a.2, a.3, refl), a.4)

pub then_up : (most : ℕ) (Q : List ℕ → Type 0) (text rest : List ℕ) → Then most (IsRest rest) text → Q rest → Then most Q text
then_up most Q text rest a q = (a.0, a.1, a.2, a.3, subst Q (sym a.4) q)

module _ (most : ℕ) (Q : List ℕ → Type 0) (text : List ℕ) where
  pub then_some : (b : Bool) (rest : List ℕ) → Then most (IsRest rest) text →
      ((other : List ℕ) → Then most (IsRest other) text → rest ≡ other) → IsTrue b ↔ Q rest → IsTrue b ↔ Then most Q text
  then_some b rest a only j = (
    λ t. then_up most Q text rest a (j.0 t),
    λ t. let r = then_rest most Q text t in j.1 (subst Q (sym (only r.0 r.1)) r.2),
  )

  pub then_none : ((other : List ℕ) → Then most (IsRest other) text → ⊥) → IsTrue false ↔ Then most Q text
  then_none none = (λ f. absurd (cc (f)), λ t. let r = then_rest most Q text t in absurd (none r.0 r.1))

-- the one, and where it is not the other
pub or_else : (A B : Type 0) (b c : Bool) → IsTrue b ↔ A → b ≡ false → IsTrue c ↔ B → IsTrue c ↔ (A ⊎ B)
or_else A B b c j none k = (
  λ t. inr (k.0 t),
  λ a. elim a [
    | inl x ↦ absurd (let y = j.1 x in cc)
    | inr y ↦ k.1 y
  ],
)

pub either : (A B : Type 0) (b : Bool) → IsTrue b ↔ A → b ≡ true → IsTrue true ↔ (A ⊎ B)
either A B b j e = (λ t. inl (j.0 e), λ a. refl)

-- Zones.

zone_text : (text : List ℕ) (z : TimeZone) → SaysZone text z → (short : Bool) → IsZoneText short text
zone_text text z (inl a) short = inl a.0
zone_text text z (inr a) short = elim a.4 [
  | inl x ↦ inr (
    43,
    digits 2 a.0 ++ digits 2 a.1,
    inl refl,
    x.0,
    (a.0, digits 2 a.1, omega (arith, a.2), refl, inr (a.1, [], omega (arith, a.3), refl, refl)),
  )
  | inr x ↦ inr (
    45,
    digits 2 a.0 ++ digits 2 a.1,
    inr refl,
    x.0,
    (a.0, digits 2 a.1, omega (arith, a.2), refl, inr (a.1, [], omega (arith, a.3), refl, refl)),
  )
]

-- the year in four digits is in two and two
four_digits : (a b : ℕ) → a ≤ 99 → b ≤ 99 → digits 4 (100 * a + b) ≡ digits 2 a ++ digits 2 b
four_digits a b h k =
    let high : (100 * a + b) / 100 ≡ a = omega (arith, h, k) in
    let tens : (100 * a + b) / 10 % 10 ≡ b / 10 % 10 = omega (arith, h, k) in
    let units : (100 * a + b) % 10 ≡ b % 10 = omega (arith, h, k) in
    digits_split 2 2 (100 * a + b) ∙ ap (λ (n : ℕ). digits 2 n ++ digits 2 (100 * a + b)) high
    ∙ ap (λ (n : ℕ). digits 2 a ++ (48 + n) ∷ (48 + (100 * a + b) % 10) ∷ []) tens
    ∙ ap (λ (n : ℕ). digits 2 a ++ (48 + b / 10 % 10) ∷ (48 + n) ∷ []) units

-- UTCTime.

utc_end : (seconds zone : List ℕ) (s : ℕ) (z : TimeZone) → s ≤ 59 → (seconds ≡ []) ⊎ (seconds ≡ digits 2 s) →
    SaysZone zone z → IsUtcEnd (seconds ++ zone)
utc_end seconds zone s z l (inl e) a = inl (subst (IsZoneText false) (sym (ap (λ (x : List ℕ). x ++ zone) e)) (zone_text zone z a false))
utc_end seconds zone s z l (inr e) a = inr (s, zone, l, ap (λ (x : List ℕ). x ++ zone) e, zone_text zone z a false)

pub utc_text : (o : List ℕ) → IsTime times.Utc o → IsMomentText times.Utc o
utc_text o a =
    let m = a.0 in
    let seconds = a.1 in
    let zone = a.2 in
    let r = a.4 in (
      m.year,
      to_minute m ++ seconds ++ zone,
      omega (arith, a.3),
      a.7,
      (
        m.month,
        digits 2 m.day ++ digits 2 m.hour ++ digits 2 m.minute ++ seconds ++ zone,
        r.month,
        refl,
        (
          m.day,
          digits 2 m.hour ++ digits 2 m.minute ++ seconds ++ zone,
          r.day,
          refl,
          (
            m.hour,
            digits 2 m.minute ++ seconds ++ zone,
            r.hour,
            refl,
            (m.minute, seconds ++ zone, r.minute, refl, utc_end seconds zone m.second m.zone r.second a.5 a.6),
          ),
        ),
      ),
    )

-- hours and minutes ahead of UTC or behind it
offset_of : (o rest behind : List ℕ) (sign h m : ℕ) → (sign ≡ 43) ⊎ (sign ≡ 45) → h ≤ 99 → m ≤ 99 → o ≡ sign ∷ rest →
    rest ≡ digits 2 h ++ behind → behind ≡ digits 2 m ++ [] → (z : TimeZone) × SaysZone o z
offset_of o rest behind sign h m (inl s) hl ml e f g =
    let is : o ≡ 43 ∷ digits 2 h ++ digits 2 m =
    e ∙ ap (λ (n : ℕ). n ∷ rest) s ∙ ap (λ (x : List ℕ). 43 ∷ x) (f ∙ ap (λ (x : List ℕ). digits 2 h ++ x) g) in
    (east h m, inr (h, m, omega (arith, hl), omega (arith, ml), inl (is, refl)))
offset_of o rest behind sign h m (inr s) hl ml e f g =
    let is : o ≡ 45 ∷ digits 2 h ++ digits 2 m =
    e ∙ ap (λ (n : ℕ). n ∷ rest) s ∙ ap (λ (x : List ℕ). 45 ∷ x) (f ∙ ap (λ (x : List ℕ). digits 2 h ++ x) g) in
    (west h m, inr (h, m, omega (arith, hl), omega (arith, ml), inr (is, refl)))

zone_of : (o : List ℕ) → IsZoneText false o → (z : TimeZone) × SaysZone o z
zone_of o (inl e) = (Z, inl (e, refl))
zone_of o (inr a) = elim a.4.4 [
  | inl b ↦ absurd (let f = b.0 in cc)
  | inr b ↦ offset_of o a.1 a.4.1 a.0 a.4.0 b.0 a.2 a.4.2 b.2 a.3 a.4.3
      (b.3 ∙ ap (λ (x : List ℕ). digits 2 b.0 ++ x) b.4)
]

local_text : (m : Moment) (o : List ℕ) → SaysAnyZone m o → IsLocal o
local_text m o (inl (inl a)) = inl a.0
local_text m o (inl (inr a)) = inr (zone_text o m.zone a true)
local_text m o (inr a) = inr (inr (a.0, digits 2 a.1, a.2, a.4, (a.1, [], omega (arith, a.3), refl, inl (refl, refl))))

-- a zone that a time may have
abbrev HasZone : List ℕ → TimeZone → Type 0
HasZone o z = SaysZoneOrNone o z ⊎
    ((sign hours : ℕ) × ((sign ≡ 43) ⊎ (sign ≡ 45)) × (hours < 100) × (o ≡ sign ∷ digits 2 hours))

local_of : (o : List ℕ) → IsLocal o → (z : TimeZone) × HasZone o z
local_of o (inl e) = (Undefined, inl (inl (e, refl)))
local_of o (inr (inl e)) = (Z, inl (inr (inl (e, refl))))
local_of o (inr (inr a)) = elim a.4.4 [
  | inl b ↦ (
    Z,
    inr (
      a.0,
      a.4.0,
      a.2,
      omega (arith, a.4.2),
      a.3 ∙ ap (λ (x : List ℕ). a.0 ∷ x) (a.4.3 ∙ ap (λ (x : List ℕ). digits 2 a.4.0 ++ x) b.1),
    ),
  )
  | inr b ↦
      let z = offset_of o a.1 a.4.1 a.0 a.4.0 b.0 a.2 a.4.2 b.2 a.3 a.4.3
      (b.3 ∙ ap (λ (x : List ℕ). digits 2 b.0 ++ x) b.4) in
      (z.0, inl (inr z.1))
]

moment : (year month day hour minute second : ℕ) → TimeZone → Moment
moment year month day hour minute second zone = record {
  year = year;
  month = month;
  day = day;
  hour = hour;
  minute = minute;
  second = second;
  millisecond = None;
  zone = zone;
}

pub utc_is : (o : List ℕ) → IsMomentText times.Utc o → IsTime times.Utc o
unfolding moment
utc_is o a =
    let b = a.4 in
    let c = b.4 in
    let d = c.4 in
    let e = d.4 in
    let whole : (x : List ℕ) → e.1 ≡ x → o ≡ digits 2 a.0 ++ digits 2 b.0 ++ digits 2 c.0 ++ digits 2 d.0 ++ digits 2 e.0 ++ x =
    λ x f. a.3 ∙ ap (λ (y : List ℕ). digits 2 a.0 ++ y) (b.3 ∙ ap (λ (y : List ℕ). digits 2 b.0 ++ y) (c.3
    ∙ ap (λ (y : List ℕ). digits 2 c.0 ++ y) (d.3 ∙ ap (λ (y : List ℕ). digits 2 d.0 ++ y) (e.3
    ∙ ap (λ (y : List ℕ). digits 2 e.0 ++ y) f)))) in
    elim e.4 [
      | inl t ↦
          let z = zone_of e.1 t in (
            moment a.0 b.0 c.0 d.0 e.0 0 z.0,
            [],
            e.1,
            omega (arith, a.2),
            record { month = b.2; day = c.2; hour = d.2; minute = e.2; second = omega arith },
            inl refl,
            z.1,
            whole e.1 refl,
          )
      | inr t ↦
          let z = zone_of t.1 t.4 in (
            moment a.0 b.0 c.0 d.0 e.0 t.0 z.0,
            digits 2 t.0,
            t.1,
            omega (arith, a.2),
            record { month = b.2; day = c.2; hour = d.2; minute = e.2; second = t.2 },
            inr refl,
            z.1,
            whole (digits 2 t.0 ++ t.1) t.3,
          )
    ]

-- GeneralizedTime.

minute_end : (m : Moment) (minutes fraction zone : List ℕ) → InRange m →
    (minutes ≡ []) ⊎ ((minutes ≡ digits 2 m.minute) ⊎ (minutes ≡ digits 2 m.minute ++ digits 2 m.second)) →
    IsFraction fraction → SaysAnyZone m zone → IsMinuteEnd (minutes ++ fraction ++ zone)
minute_end m minutes fraction zone r (inl e) f z =
    inl (fraction, zone, f, ap (λ (x : List ℕ). x ++ fraction ++ zone) e, local_text m zone z)
minute_end m minutes fraction zone r (inr (inl e)) f z = inr (
  m.minute,
  fraction ++ zone,
  r.minute,
  ap (λ (x : List ℕ). x ++ fraction ++ zone) e,
  inl (fraction, zone, f, refl, local_text m zone z),
)
minute_end m minutes fraction zone r (inr (inr e)) f z = inr (
  m.minute,
  digits 2 m.second ++ fraction ++ zone,
  r.minute,
  ap (λ (x : List ℕ). x ++ fraction ++ zone) e,
  inr (m.second, fraction ++ zone, r.second, refl, (fraction, zone, f, refl, local_text m zone z)),
)

pub generalized_text : (o : List ℕ) → IsTime times.Generalized o → IsMomentText times.Generalized o
generalized_text o a =
    let m = a.0 in
    let r = a.5 in
    let end = a.1 ++ a.2 ++ a.3 in
    let y : m.year ≡ 100 * (m.year / 100) + m.year % 100 = omega arith in
    let split : digits 4 m.year ≡ digits 2 (m.year / 100) ++ digits 2 (m.year % 100) =
    ap (digits 4) y ∙ four_digits (m.year / 100) (m.year % 100) (omega (arith, a.4)) (omega arith) in (
      m.year / 100,
      digits 2 (m.year % 100) ++ digits 2 m.month ++ digits 2 m.day ++ digits 2 m.hour ++ end,
      omega (arith, a.4),
      a.9 ∙ ap (λ (x : List ℕ). x ++ (digits 2 m.month ++ digits 2 m.day ++ digits 2 m.hour) ++ end) split,
      (
        m.year % 100,
        digits 2 m.month ++ digits 2 m.day ++ digits 2 m.hour ++ end,
        omega arith,
        refl,
        (
          m.month,
          digits 2 m.day ++ digits 2 m.hour ++ end,
          r.month,
          refl,
          (m.day, digits 2 m.hour ++ end, r.day, refl, (m.hour, end, r.hour, refl, minute_end m a.1 a.2 a.3 r a.6 a.7 a.8)),
        ),
      ),
    )

pub generalized_is : (o : List ℕ) → IsMomentText times.Generalized o → IsTime times.Generalized o
unfolding moment
generalized_is o a =
    let b = a.4 in
    let c = b.4 in
    let d = c.4 in
    let e = d.4 in
    let year = 100 * a.0 + b.0 in
    let split = four_digits a.0 b.0 a.2 b.2 in
    let whole : (x : List ℕ) → e.1 ≡ x → o ≡ digits 4 year ++ (digits 2 c.0 ++ digits 2 d.0 ++ digits 2 e.0) ++ x =
    λ x f. a.3 ∙ ap (λ (y : List ℕ). digits 2 a.0 ++ y) (b.3 ∙ ap (λ (y : List ℕ). digits 2 b.0 ++ y) (c.3
    ∙ ap (λ (y : List ℕ). digits 2 c.0 ++ y) (d.3 ∙ ap (λ (y : List ℕ). digits 2 d.0 ++ y) (e.3
    ∙ ap (λ (y : List ℕ). digits 2 e.0 ++ y) f))))
    ∙ ap (λ (y : List ℕ). y ++ (digits 2 c.0 ++ digits 2 d.0 ++ digits 2 e.0) ++ x) (sym split) in
    elim e.4 [
      | inl t ↦
          let z = local_of t.1 t.4 in (
            moment year c.0 d.0 e.0 0 0 z.0,
            [],
            t.0,
            t.1,
            omega (arith, a.2, b.2),
            record { month = c.2; day = d.2; hour = e.2; minute = omega arith; second = omega arith },
            inl refl,
            t.2,
            z.1,
            whole (t.0 ++ t.1) t.3,
          )
      | inr s ↦ elim s.4 [
        | inl t ↦
            let z = local_of t.1 t.4 in (
              moment year c.0 d.0 e.0 s.0 0 z.0,
              digits 2 s.0,
              t.0,
              t.1,
              omega (arith, a.2, b.2),
              record { month = c.2; day = d.2; hour = e.2; minute = s.2; second = omega arith },
              inr (inl refl),
              t.2,
              z.1,
              whole (digits 2 s.0 ++ t.0 ++ t.1) (s.3 ∙ ap (λ (y : List ℕ). digits 2 s.0 ++ y) t.3),
            )
        | inr u ↦
            let t = u.4 in
            let z = local_of t.1 t.4 in (
              moment year c.0 d.0 e.0 s.0 u.0 z.0,
              digits 2 s.0 ++ digits 2 u.0,
              t.0,
              t.1,
              omega (arith, a.2, b.2),
              record { month = c.2; day = d.2; hour = e.2; minute = s.2; second = u.2 },
              inr (inr refl),
              t.2,
              z.1,
              whole (digits 2 s.0 ++ digits 2 u.0 ++ t.0 ++ t.1) (s.3 ∙ ap (λ (y : List ℕ). digits 2 s.0 ++ y)
                  (u.3 ∙ ap (λ (y : List ℕ). digits 2 u.0 ++ y) t.3)),
            )
      ]
    ]

-- month, day and hour, and what follows them
hour_rest : (Q : List ℕ → Type 0) (text : List ℕ) → ThenHour Q text →
    (rest : List ℕ) × ThenHour (IsRest rest) text × Q rest
hour_rest Q text a =
    let b = a.4 in
    let c = b.4 in
    (c.1, (a.0, a.1, a.2, a.3, (b.0, b.1, b.2, b.3, (c.0, c.1, c.2, c.3, refl))), c.4)

hour_up : (Q : List ℕ → Type 0) (text rest : List ℕ) → ThenHour (IsRest rest) text → Q rest → ThenHour Q text
hour_up Q text rest a q =
    let b = a.4 in
    let c = b.4 in
    (a.0, a.1, a.2, a.3, (b.0, b.1, b.2, b.3, (c.0, c.1, c.2, c.3, subst Q (sym c.4) q)))

module _ (Q : List ℕ → Type 0) (text : List ℕ) where
  pub hour_some : (b : Bool) (rest : List ℕ) → ThenHour (IsRest rest) text →
      ((other : List ℕ) → ThenHour (IsRest other) text → rest ≡ other) → IsTrue b ↔ Q rest → IsTrue b ↔ ThenHour Q text
  hour_some b rest a only j = (
    λ t. hour_up Q text rest a (j.0 t),
    λ t. let r = hour_rest Q text t in j.1 (subst Q (sym (only r.0 r.1)) r.2),
  )

  pub hour_none : ((other : List ℕ) → ThenHour (IsRest other) text → ⊥) → IsTrue false ↔ ThenHour Q text
  hour_none none = (λ f. absurd (cc (f)), λ t. let r = hour_rest Q text t in absurd (none r.0 r.1))

-- what is left out before the hour is left out before what follows it
pub day_rest : (rest text : List ℕ) → ThenHour (IsRest rest) text → (other : List ℕ) × Then 12 (Then 31 (IsRest other)) text
day_rest rest text a = let b = a.4 in (b.1, (a.0, a.1, a.2, a.3, (b.0, b.1, b.2, b.3, refl)))

-- Fractions.

-- a zone begins with no digit and with no point
pub local_first : (zone rest : List ℕ) (first : ℕ) → IsLocal zone → zone ≡ first ∷ rest →
    (first ≡ 90) ⊎ ((first ≡ 43) ⊎ (first ≡ 45))
local_first zone rest first (inl e) f = absurd (cc)
local_first zone rest first (inr (inl e)) f = inl (cc)
local_first zone rest first (inr (inr a)) f =
    let e = a.3 in
    let same : first ≡ a.0 = cc in
    elim a.2 [
      | inl s ↦ inr (inl (same ∙ s))
      | inr s ↦ inr (inr (same ∙ s))
    ]

pub local_no_digit : (zone : List ℕ) → IsLocal zone → HasNoDigit zone
local_no_digit zone a d rest l e = elim (local_first zone rest (48 + d % 10) a e) [
  | inl f ↦ omega (arith, f, l)
  | inr f ↦ elim f [
    | inl g ↦ omega (arith, g, l)
    | inr g ↦ omega (arith, g, l)
  ]
]

-- a digit more
pub digit_behind : (all ds more rest : List ℕ) (octet : ℕ) → AllIn is_ascii_digit ds → all ≡ ds ++ more →
    more ≡ octet ∷ rest → is_ascii_digit octet ≡ true →
    (es : List ℕ) × AllIn is_ascii_digit es × (all ≡ es ++ rest)
digit_behind all ds more rest octet a e f d =
    let one : AllIn is_ascii_digit (octet ∷ []) = rw d refl in (
      ds ++ octet ∷ [],
      rw (list_all-append, a) one,
      e ∙ ap (λ (x : List ℕ). ds ++ x) f ∙ sym (append_assoc ds (octet ∷ []) rest),
    )

first_digit : (octet : ℕ) → is_ascii_digit octet ≡ true → (d : ℕ) × (d < 10) × (octet ≡ 48 + d % 10)
first_digit octet e =
    let low : 48 ≤ octet = grind (arith, nat_tests, e) in
    let high : octet ≤ 57 = grind (arith, nat_tests, e) in
    (octet - 48, omega (arith, low, high), omega (arith, low, high))

first_all : (x : ℕ) (xs : List ℕ) → AllIn is_ascii_digit (x ∷ xs) → (is_ascii_digit x ≡ true) × AllIn is_ascii_digit xs
first_all x xs a = let p = and_parts (is_ascii_digit x) (list_all is_ascii_digit xs) a in (p.0, p.1)

-- digits end where there is no digit
pub same_digits : (xs ys u w : List ℕ) → AllIn is_ascii_digit xs → AllIn is_ascii_digit ys → HasNoDigit u → HasNoDigit w →
    xs ++ u ≡ ys ++ w → u ≡ w
same_digits [] [] u w a b m n e = e
same_digits [] (y ∷ ys) u w a b m n e =
    let d = first_digit y (first_all y ys b).0 in
    absurd (m d.0 (ys ++ w) d.1 (e ∙ ap (λ (k : ℕ). k ∷ (ys ++ w)) d.2))
same_digits (x ∷ xs) [] u w a b m n e =
    let d = first_digit x (first_all x xs a).0 in
    absurd (n d.0 (xs ++ u) d.1 (sym e ∙ ap (λ (k : ℕ). k ∷ (xs ++ u)) d.2))
same_digits (x ∷ xs) (y ∷ ys) u w a b m n e =
    let rest : xs ++ u ≡ ys ++ w = cc in
    same_digits xs ys u w (first_all x xs a).1 (first_all y ys b).1 m n rest

-- no digit is in front of what begins with another octet
pub other_octet : (text rest : List ℕ) (octet : ℕ) → text ≡ octet ∷ rest → is_ascii_digit octet ≡ false → HasNoDigit text
other_octet text rest octet e f d behind l g =
    let same : octet ≡ 48 + d % 10 = cc in
    absurd (grind (arith, nat_tests, f, same, l))

pub no_octet : (text : List ℕ) → text ≡ [] → HasNoDigit text
no_octet text e d behind l g = absurd (cc)

pub digits_before : (text behind rest ds : List ℕ) (octet : ℕ) → text ≡ octet ∷ behind → is_ascii_digit octet ≡ true →
    AllIn is_ascii_digit ds → behind ≡ ds ++ rest → IsDigitsBefore text rest
digits_before text behind rest ds octet e d a f = (
  octet ∷ ds,
  λ g. absurd (cc (g)),
  rw (d, a) refl,
  e ∙ ap (λ (x : List ℕ). octet ∷ x) f,
)

pub digits_only : (text behind rest : List ℕ) (octet : ℕ) → text ≡ octet ∷ behind → is_ascii_digit octet ≡ true →
    ((ds : List ℕ) × AllIn is_ascii_digit ds × (behind ≡ ds ++ rest)) → HasNoDigit rest → (other : List ℕ) → HasNoDigit other →
    IsDigitsBefore text other → rest ≡ other
digits_only text behind rest octet e d a m other n b = same_digits (octet ∷ a.0) b.0 rest other (rw (d, a.1) refl) b.2 m n
    (sym (e ∙ ap (λ (x : List ℕ). octet ∷ x) a.2) ∙ b.3)

pub digits_none : (text behind : List ℕ) (octet : ℕ) → text ≡ octet ∷ behind → is_ascii_digit octet ≡ false →
    (other : List ℕ) → IsDigitsBefore text other → ⊥
digits_none text behind octet e d other b = by_digits b.0 b.1 b.2 b.3
  where
    by_digits : (ds : List ℕ) → ds ≢ [] → AllIn is_ascii_digit ds → text ≡ ds ++ other → ⊥
    by_digits [] s a f = s refl
    by_digits (x ∷ ds) s a f =
        let same : octet ≡ x = cc in
        let is = (first_all x ds a).0 in
        absurd (cc)

pub digits_empty : (text other : List ℕ) → text ≡ [] → IsDigitsBefore text other → ⊥
digits_empty text other e b = by_digits b.0 b.1 b.3
  where
    by_digits : (ds : List ℕ) → ds ≢ [] → text ≡ ds ++ other → ⊥
    by_digits [] s f = s refl
    by_digits (x ∷ ds) s f = absurd (cc)

pub no_fraction : (text : List ℕ) → IsFractionBefore text text
no_fraction text = ([], inl refl, refl)

pub fraction_before : (text behind rest : List ℕ) (point : ℕ) → (point ≡ 46) ⊎ (point ≡ 44) → text ≡ point ∷ behind →
    IsDigitsBefore behind rest → IsFractionBefore text rest
fraction_before text behind rest point p e b =
    (point ∷ b.0, inr (point, b.0, p, b.1, b.2, refl), e ∙ ap (λ (x : List ℕ). point ∷ x) b.3)

pub if_fraction : (text behind : List ℕ) (point : ℕ) → (point ≡ 46) ⊎ (point ≡ 44) → text ≡ point ∷ behind →
    (r : Option Joined) → IfSome r (λ rest. IsDigitsBefore behind (said rest)) →
    IfSome r (λ rest. IsFractionBefore text (said rest))
if_fraction text behind point p e None a = tt
if_fraction text behind point p e (Some rest) a = fraction_before text behind (said rest) point p e a

-- no other zone follows one
pub fraction_only : (text behind zone : List ℕ) (point : ℕ) → (point ≡ 46) ⊎ (point ≡ 44) → text ≡ point ∷ behind →
    IsLocal zone → IsFractionBefore text zone → IsDigitsBefore behind zone
fraction_only text behind zone point p e l (fraction, inl none, is) =
    let z : zone ≡ point ∷ behind = sym (ap (λ (x : List ℕ). x ++ zone) none) ∙ sym is ∙ e in
    absurd (elim (local_first zone behind point l z) [
      | inl f ↦ elim p [ inl q ↦ omega (arith, f, q) | inr q ↦ omega (arith, f, q) ]
      | inr g ↦ elim g [
        | inl f ↦ elim p [ inl q ↦ omega (arith, f, q) | inr q ↦ omega (arith, f, q) ]
        | inr f ↦ elim p [ inl q ↦ omega (arith, f, q) | inr q ↦ omega (arith, f, q) ]
      ]
    ])
fraction_only text behind zone point p e l (fraction, inr f, is) =
    let whole : point ∷ behind ≡ f.0 ∷ (f.1 ++ zone) = sym e ∙ is ∙ ap (λ (x : List ℕ). x ++ zone) f.5 in
    (f.1, f.3, f.4, cc)

pub fraction_other : (text behind zone : List ℕ) (point : ℕ) → ((point ≡ 46) ⊎ (point ≡ 44) → ⊥) → text ≡ point ∷ behind →
    IsFractionBefore text zone → text ≡ zone
fraction_other text behind zone point p e (fraction, inl none, is) = is ∙ ap (λ (x : List ℕ). x ++ zone) none
fraction_other text behind zone point p e (fraction, inr f, is) =
    let whole : point ∷ behind ≡ f.0 ∷ (f.1 ++ zone) = sym e ∙ is ∙ ap (λ (x : List ℕ). x ++ zone) f.5 in
    let same : point ≡ f.0 = cc in
    absurd (p (subst (λ (n : ℕ). (n ≡ 46) ⊎ (n ≡ 44)) (sym same) f.2))

pub fraction_empty : (text zone : List ℕ) → text ≡ [] → IsFractionBefore text zone → text ≡ zone
fraction_empty text zone e (fraction, inl none, is) = is ∙ ap (λ (x : List ℕ). x ++ zone) none
fraction_empty text zone e (fraction, inr f, is) =
    let whole : [] ≡ f.0 ∷ (f.1 ++ zone) = sym e ∙ is ∙ ap (λ (x : List ℕ). x ++ zone) f.5 in
    absurd (cc)

-- a fraction and a zone
pub fraction_end : (text rest : List ℕ) (b : Bool) → IsFractionBefore text rest →
    ((zone : List ℕ) → IsLocal zone → IsFractionBefore text zone → rest ≡ zone) → IsTrue b ↔ IsLocal rest →
    IsTrue b ↔ IsFractionEnd text
fraction_end text rest b f only j = (
  λ t. (f.0, rest, f.1, f.2, j.0 t),
  λ a. j.1 (subst IsLocal (sym (only a.1 a.4 (a.0, a.2, a.3))) a.4),
)

pub no_fraction_end : (text : List ℕ) → ((zone : List ℕ) → IsLocal zone → IsFractionBefore text zone → ⊥) →
    IsTrue false ↔ IsFractionEnd text
no_fraction_end text none = (λ f. absurd (cc (f)), λ a. absurd (none a.1 a.4 (a.0, a.2, a.3)))
