-- Times as elements (X.690 8.25, 11.7, 11.8).
use Rattle.std.specs.Prelude.{◌≡◌, ◌⊎◌, ℕ, ◌<◌, ◌^◌, pos, negsuc, ◌≤ℤ◌, List, Bool, ◌&&◌, not, nat_le, Option, Some}
use Rattle.std.specs.Prelude.{None, true, false, codes, Result, Ok, Err}
use Rattle.std.specs.Option.{option_cmp}
use Rattle.std.specs.Ordering.{nat_cmp, ordering_then}
use Rattle.std.specs.declared.cmp.Ordering.{Ordering}
use Rattle.x690.specs.Sets.{AllIn, is_visible}
use Rattle.x690.specs.Times.{SaysUtcTime, SaysGeneralizedTime, IsStrictUtcTime, IsStrictGeneralizedTime}
use Rattle.x690.specs.Times.{MostMilliseconds, EndsInZ, HasComma, utc_time_text, generalized_time_text, zone_cmp}
use Rattle.x690.specs.declared.times.Moment.{Moment}
use Rattle.x690.specs.declared.times.TimeZone.{TimeZone}
use Rattle.x690.specs.declared.times.TimeZone.TheVariants.{Undefined, Z, Offset}
use Rattle.asn1_headers.specs.Error.{IsInvalidValue}
use Rattle.asn1_headers.specs.declared.error.Error.{Error}
use Rattle.asn1_headers.specs.declared.error.Error.TheVariants.{StringInvalidCharset, DerConstraintFailed}
use Rattle.asn1_headers.specs.declared.error.Error.TheVariants.{InvalidDateTime}
use Rattle.asn1_headers.specs.declared.error.DerConstraint.TheVariants.{MissingTimeZone, MissingSeconds}
use Rattle.asn1_rs.specs.declared.asn1_types.times.ASN1DateTime.{ASN1DateTime}
use Rattle.asn1_rs.specs.declared.asn1_types.times.utc_time.UtcTime.{UtcTime}
use Rattle.asn1_rs.specs.declared.asn1_types.times.generalized_time.GeneralizedTime.{GeneralizedTime}
use Rattle.asn1_rs.specs.Checks.{CheckGives, check, content_check, telling_check, nothing, ◌before◌}
use Rattle.asn1_rs.specs.Leaf.{Leaf}

-- the fields of a time
abbrev pub moment_of : ASN1DateTime → Moment
moment_of d = record {
  year = d.year;
  month = d.month;
  day = d.day;
  hour = d.hour;
  minute = d.minute;
  second = d.second;
  millisecond = d.millisecond;
  zone = d.tz;
}

-- an offset of hours and minutes that are each one octet with a sign
abbrev pub IsZone : TimeZone → Type 0
IsZone Undefined = Unit {0}
IsZone Z = Unit {0}
IsZone (Offset hours minutes) =
    (negsuc 127 ≤ℤ hours) × (hours ≤ℤ pos 127) × (negsuc 127 ≤ℤ minutes) × (minutes ≤ℤ pos 127)

-- fields that an item may hold
pub record IsMoment (m : Moment) : Type 0 where
  pub year : m.year < 2 ^ 32
  pub month : m.month < 256
  pub day : m.day < 256
  pub hour : m.hour < 256
  pub minute : m.minute < 256
  pub second : m.second < 256
  pub millisecond : MostMilliseconds 65535 m.millisecond
  pub zone : IsZone m.zone

-- octets 20 to 7f
abbrev pub has_visible_octets : CheckGives
has_visible_octets = content_check (AllIn is_visible) StringInvalidCharset

-- the refusal of a text that says no time
abbrev pub IsNoTime : ℕ → Error → Type 0
IsNoTime number = IsInvalidValue (record { 0 = number }) (codes "not a time")

-- a text that says a time, as `Says` has it
abbrev pub says_time : ℕ → (List ℕ → Moment → Type 0) → CheckGives
says_time number Says = telling_check (λ p. (m : Moment) × Says p.content m) (IsNoTime number)

-- An element with the tag number whose contents octets are a text that says a time. It is looked at neither whether it
-- is primitive nor, but for `constraints`, whether the text is strict.
abbrev pub time_leaf : {S : Type 0} → ℕ → (S → Moment) → (List ℕ → Moment → Type 0) → (Moment → Type 0) → CheckGives →
    (Moment → List ℕ) → Leaf S
time_leaf number value Says IsStrict constraints octets = record {
  number = number;
  Value = Moment;
  value = value;
  IsValue = IsMoment;
  IsDer = IsStrict;
  checks = has_visible_octets before says_time number Says;
  Says = Says;
  constraints = constraints;
  octets = octets;
}

-- the number of the tag of UTCTime
abbrev pub utc_time_number : ℕ
utc_time_number = 23

-- UTCTimes as elements.
abbrev pub utc_time_leaf : Leaf UtcTime
utc_time_leaf = time_leaf utc_time_number (λ t. moment_of t.0) SaysUtcTime IsStrictUtcTime nothing utc_time_text

-- the number of the tag of GeneralizedTime
abbrev pub generalized_time_number : ℕ
generalized_time_number = 24

-- What the constraints of GeneralizedTime ask: Z at the end of the contents octets (11.7.1),
-- and no comma among them (11.7.4).
abbrev pub generalized_time_constraints : CheckGives
generalized_time_constraints = content_check EndsInZ (DerConstraintFailed MissingTimeZone) before
    check (λ p. ¬ HasComma p.content) (λ p. HasComma p.content) (λ p. DerConstraintFailed MissingSeconds)

-- GeneralizedTimes as elements.
abbrev pub generalized_time_leaf : Leaf GeneralizedTime
generalized_time_leaf = time_leaf generalized_time_number
    (λ t. moment_of t.0) SaysGeneralizedTime IsStrictGeneralizedTime generalized_time_constraints generalized_time_text

-- What reading a text may answer: the time that it says, or the refusal where it says none.
abbrev pub TextGives : {S : Type 0} → ℕ → (S → Moment) → (List ℕ → Moment → Type 0) → List ℕ → Result S Error → Type 0
TextGives number value Says text (Ok x) = Says text (value x)
TextGives number value Says text (Err e) = ((m : Moment) → ¬ Says text m) × IsNoTime number e

-- What reading the text of a UTCTime may answer.
abbrev pub UtcTextGives : List ℕ → Result UtcTime Error → Type 0
UtcTextGives = TextGives utc_time_number (λ t. moment_of t.0) SaysUtcTime

-- What reading the text of a GeneralizedTime may answer.
abbrev pub GeneralizedTextGives : List ℕ → Result GeneralizedTime Error → Type 0
GeneralizedTextGives = TextGives generalized_time_number (λ t. moment_of t.0) SaysGeneralizedTime

-- Why contents octets say no time: an octet outside 20 to 7f, or, where there is none, the text.
abbrev pub RefusesText : ℕ → List ℕ → Error → Type 0
RefusesText number octets e =
    ((¬ AllIn is_visible octets) × (e ≡ StringInvalidCharset)) ⊎ (AllIn is_visible octets × IsNoTime number e)

-- Times that are written.

-- the refusal of a time that has no place in its text
abbrev pub IsInvalidDateTime : Error → Type 0
IsInvalidDateTime e = e ≡ InvalidDateTime

-- a zone for which a strict text has a place
abbrev pub has_place : TimeZone → Bool
has_place Undefined = true
has_place Z = true
has_place (Offset hours minutes) = false

-- milliseconds of three digits
abbrev pub has_three_digits : Option ℕ → Bool
has_three_digits None = true
has_three_digits (Some m) = nat_le m 999

-- the fields fit the places that a strict text has, whose year is at most the greatest
abbrev pub fits_text : ℕ → Moment → Bool
fits_text greatest_year m = nat_le m.year greatest_year &&
    (nat_le m.month 99 && (nat_le m.day 99 && (nat_le m.hour 99 && (nat_le m.minute 99 && (nat_le m.second 99 &&
    (has_three_digits m.millisecond && has_place m.zone))))))

-- whether writing a UTCTime is refused for its fields
abbrev pub utc_time_refused : Moment → Bool
utc_time_refused m = not (fits_text 99 m)

-- whether writing a GeneralizedTime is refused for its fields
abbrev pub generalized_time_refused : Moment → Bool
generalized_time_refused m = not (fits_text 9999 m)

-- The order of times.

-- by the year, then the month, and so on; no milliseconds are before some
abbrev pub moment_cmp : Moment → Moment → Ordering
moment_cmp m n = ordering_then (nat_cmp m.year n.year) (ordering_then (nat_cmp m.month n.month) (ordering_then
    (nat_cmp m.day n.day) (ordering_then (nat_cmp m.hour n.hour) (ordering_then (nat_cmp m.minute n.minute)
    (ordering_then (nat_cmp m.second n.second) (ordering_then (option_cmp nat_cmp m.millisecond n.millisecond)
    (zone_cmp m.zone n.zone)))))))
