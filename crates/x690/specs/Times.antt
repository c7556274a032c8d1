-- Times as texts: which texts say which fields, the strict text of fields, and how they are shown
-- (X.690 8.25, 11.7, 11.8).
use Rattle.std.specs.Prelude.{◌≡◌, ◌≢◌, ◌⊎◌, ℕ, zero, suc, ◌+◌, ◌-◌, ◌*◌, ◌/◌, ◌%◌, ◌^◌, ◌<◌, ◌≤◌, ◌==◌, List, [], ◌∷◌}
use Rattle.std.specs.Prelude.{◌++◌, length, replicate, decimal, ℤ, pos, neg_ℤ, unsigned_abs, int_lt, Bool, not, ◌&&◌}
use Rattle.std.specs.Prelude.{◌||◌, codes, nat_lt, nat_eq, Option, Some, None, if◌then◌else◌, IsTrue, slice_get}
use Rattle.std.specs.List.{list_any}
use Rattle.std.specs.Char.{is_ascii_digit}
use Rattle.std.specs.Ordering.{int_cmp, ordering_then}
use Rattle.std.specs.declared.cmp.Ordering.{Ordering}
use Rattle.std.specs.declared.cmp.Ordering.TheVariants.{Less, Equal, Greater}
use Rattle.x690.specs.Sets.{AllIn}
use Rattle.x690.specs.declared.times.Moment.{Moment}
use Rattle.x690.specs.declared.times.TimeZone.{TimeZone}
use Rattle.x690.specs.declared.times.TimeZone.TheVariants.{Undefined, Z, Offset}

-- the number in so many digits, the last ones where it has more
abbrev pub digits : ℕ → ℕ → List ℕ
digits zero n = []
digits (suc width) n = digits width (n / 10) ++ (48 + n % 10) ∷ []

-- the letter Z
abbrev pub z_text : List ℕ
z_text = 90 ∷ []

-- What texts say.

-- month, day, hour and minute, in two digits each
abbrev pub to_minute : Moment → List ℕ
to_minute m = digits 2 m.month ++ digits 2 m.day ++ digits 2 m.hour ++ digits 2 m.minute

-- fields that a text may say; 0 is one of them for each
pub record InRange (m : Moment) : Type 0 where
  pub month : m.month ≤ 12
  pub day : m.day ≤ 31
  pub hour : m.hour ≤ 23
  pub minute : m.minute ≤ 59
  pub second : m.second ≤ 59

-- the zone so many hours and minutes to the east, and to the west
abbrev pub east : ℕ → ℕ → TimeZone
east hours minutes = Offset (pos hours) (pos minutes)

-- the zone that is so many hours and minutes behind UTC
abbrev pub west : ℕ → ℕ → TimeZone
west hours minutes =
    if nat_lt 0 hours then Offset (neg_ℤ (pos hours)) (pos minutes) else Offset (pos 0) (neg_ℤ (pos minutes))

-- plus or minus, and hours and minutes in two digits each, which may be any
abbrev pub SaysOffset : List ℕ → TimeZone → Type 0
SaysOffset text zone = (hours minutes : ℕ) × (hours < 100) × (minutes < 100) ×
    (((text ≡ 43 ∷ digits 2 hours ++ digits 2 minutes) × (zone ≡ east hours minutes)) ⊎
    ((text ≡ 45 ∷ digits 2 hours ++ digits 2 minutes) × (zone ≡ west hours minutes)))

-- `Z`, or an offset
abbrev pub SaysZone : List ℕ → TimeZone → Type 0
SaysZone text zone = ((text ≡ z_text) × (zone ≡ Z)) ⊎ SaysOffset text zone

-- a zone, or none where the text is empty
abbrev pub SaysZoneOrNone : List ℕ → TimeZone → Type 0
SaysZoneOrNone text zone = ((text ≡ []) × (zone ≡ Undefined)) ⊎ SaysZone text zone

-- a point or a comma, and one to three digits, which are filled with zeros to three
abbrev pub SaysFraction : List ℕ → Option ℕ → Type 0
SaysFraction text None = text ≡ []
SaysFraction text (Some milliseconds) =
    (point count n : ℕ) × ((point ≡ 46) ⊎ (point ≡ 44)) × (count < 3) × (n < 10 ^ (1 + count)) ×
    (text ≡ point ∷ digits (1 + count) n) × (milliseconds ≡ n * 10 ^ (2 - count))

-- no more than Z: no seconds, and no milliseconds
pub record SaysMinutes (text : List ℕ) (m : Moment) : Type 0 where
  pub text_is : text ≡ z_text
  pub second : m.second ≡ 0
  pub millisecond : m.millisecond ≡ None
  pub zone : m.zone ≡ Z

-- what stands behind the minutes of a UTCTime: Z, or seconds and a zone
abbrev pub SaysUtcEnd : List ℕ → Moment → Type 0
SaysUtcEnd text m = SaysMinutes text m ⊎
    ((zone : List ℕ) × (text ≡ digits 2 m.second ++ zone) × SaysZone zone m.zone × (m.millisecond ≡ None))

-- and behind those of a GeneralizedTime: Z, or seconds, a fraction and a zone, each of the two of which may be left out
abbrev pub SaysGeneralizedEnd : List ℕ → Moment → Type 0
SaysGeneralizedEnd text m = SaysMinutes text m ⊎
    ((fraction zone : List ℕ) × (text ≡ digits 2 m.second ++ fraction ++ zone) × SaysFraction fraction m.millisecond ×
    SaysZoneOrNone zone m.zone)

-- A text that says these fields: the year in so many digits, month, day, hour and minute, and such an end.
pub record SaysTime (width : ℕ) (SaysEnd : List ℕ → Moment → Type 0) (text : List ℕ) (m : Moment) : Type 0 where
  pub year : m.year < 10 ^ width
  pub range : InRange m
  pub end : List ℕ
  pub text_is : text ≡ digits width m.year ++ to_minute m ++ end
  pub says : SaysEnd end m

-- of a UTCTime, whose year is that in its century (X.690 8.25)
abbrev pub SaysUtcTime : List ℕ → Moment → Type 0
SaysUtcTime = SaysTime 2 SaysUtcEnd

-- of a GeneralizedTime (X.690 8.25)
abbrev pub SaysGeneralizedTime : List ℕ → Moment → Type 0
SaysGeneralizedTime = SaysTime 4 SaysGeneralizedEnd

-- The order of zones.

-- none defined is before Z, and Z before an offset; offsets go by their hours, and then by their minutes
abbrev pub zone_cmp : TimeZone → TimeZone → Ordering
zone_cmp Undefined Undefined = Equal
zone_cmp Undefined _ = Less
zone_cmp Z Undefined = Greater
zone_cmp Z Z = Equal
zone_cmp Z (Offset hours minutes) = Less
zone_cmp (Offset hours minutes) (Offset others rest) = ordering_then (int_cmp hours others) (int_cmp minutes rest)
zone_cmp (Offset hours minutes) _ = Greater

-- What is written.

-- Milliseconds: a point and three digits, with no zeros at the end;
-- more digits where they need more, and nothing for none.
abbrev pub fraction_text : Option ℕ → List ℕ
fraction_text None = []
fraction_text (Some m) = if m == 0 then [] else if nat_lt 999 m then 46 ∷ decimal m
    else if m % 100 == 0 then 46 ∷ digits 1 (m / 100) else if m % 10 == 0 then 46 ∷ digits 2 (m / 10)
    else 46 ∷ digits 3 m

-- the strict texts of fields that fit them; milliseconds are dropped from a UTCTime,
-- and a zone that is not defined is Z
abbrev pub utc_time_text : Moment → List ℕ
utc_time_text m = digits 2 m.year ++ to_minute m ++ digits 2 m.second ++ z_text

-- the text that is written for a GeneralizedTime, which ends in Z
abbrev pub generalized_time_text : Moment → List ℕ
generalized_time_text m = digits 4 m.year ++ to_minute m ++ digits 2 m.second ++ fraction_text m.millisecond ++ z_text

-- the last octet of a text is the letter Z
abbrev pub EndsInZ : List ℕ → Type 0
EndsInZ text = slice_get text (length text - 1) ≡ Some 90

-- one of its octets is the comma
abbrev pub HasComma : List ℕ → Type 0
HasComma text = IsTrue (list_any (λ octet. nat_eq octet 44) text)

-- one of its octets is the point
abbrev pub HasPoint : List ℕ → Type 0
HasPoint text = IsTrue (list_any (λ octet. nat_eq octet 46) text)

-- the octet with so many behind it is a digit from 1 to 9
abbrev pub HasDigitBefore : ℕ → List ℕ → Type 0
HasDigitBefore behind text =
    (digit : ℕ) × (slice_get text (length text - suc behind) ≡ Some digit) × (49 ≤ digit) × (digit ≤ 57)

-- at most so many milliseconds, where there are some
abbrev pub MostMilliseconds : ℕ → Option ℕ → Type 0
MostMilliseconds most None = Unit {0}
MostMilliseconds most (Some m) = m ≤ most

-- an offset of at most so many hours and minutes to either side, where there is one
abbrev pub MostOffset : ℕ → TimeZone → Type 0
MostOffset most Undefined = Unit {0}
MostOffset most Z = Unit {0}
MostOffset most (Offset hours minutes) = (unsigned_abs hours ≤ most) × (unsigned_abs minutes ≤ most)

-- Fields that fit their places in the text. The year is at most the greatest, each other part has two digits and the
-- milliseconds three. There is no offset, for which there is no place.
pub record FitsText (greatest_year : ℕ) (m : Moment) : Type 0 where
  pub year : m.year ≤ greatest_year
  pub month : m.month ≤ 99
  pub day : m.day ≤ 99
  pub hour : m.hour ≤ 99
  pub minute : m.minute ≤ 99
  pub second : m.second ≤ 99
  pub millisecond : MostMilliseconds 999 m.millisecond
  pub zone : (m.zone ≡ Z) ⊎ (m.zone ≡ Undefined)

-- the fields have a place in the text of a UTCTime
abbrev pub FitsUtcTime : Moment → Type 0
FitsUtcTime = FitsText 99

-- the fields have a place in the text of a GeneralizedTime
abbrev pub FitsGeneralizedTime : Moment → Type 0
FitsGeneralizedTime = FitsText 9999

-- fields of a strict time, but for year and milliseconds:
-- a day and a time of day that can be, and Z (X.690 11.7.1, 11.8.1)
pub record IsStrictMoment (m : Moment) : Type 0 where
  pub range : InRange m
  pub month : m.month ≢ 0
  pub day : m.day ≢ 0
  pub zone : m.zone ≡ Z

-- and those of a strict UTCTime and GeneralizedTime (11.8; 11.7)
abbrev pub IsStrictUtcTime : Moment → Type 0
IsStrictUtcTime m = IsStrictMoment m × (m.year ≤ 99) × (m.millisecond ≡ None)

-- the fields are in range, fit the text, and have no fraction of zero (11.7.3)
abbrev pub IsStrictGeneralizedTime : Moment → Type 0
IsStrictGeneralizedTime m =
    IsStrictMoment m × (m.year ≤ 9999) × MostMilliseconds 999 m.millisecond × (m.millisecond ≢ Some 0)

-- Strict texts, with fractions of any length.

-- nothing, or a point and digits, the last of which is not 0 (11.7.3)
abbrev pub IsStrictFraction : List ℕ → Type 0
IsStrictFraction text = (text ≡ []) ⊎ ((digits : List ℕ) × (last : ℕ) × AllIn is_ascii_digit digits × (49 ≤ last) ×
    (last ≤ 57) × (text ≡ 46 ∷ digits ++ last ∷ []))

-- the text of a UTCTime that can be: no fraction, and Z (11.8)
abbrev pub IsStrictUtcText : List ℕ → Type 0
IsStrictUtcText text = (m : Moment) × IsStrictMoment m × (m.year < 10 ^ 2) ×
    (text ≡ digits 2 m.year ++ to_minute m ++ digits 2 m.second ++ z_text)

-- and of a GeneralizedTime, with such a fraction (11.7)
abbrev pub IsStrictGeneralizedText : List ℕ → Type 0
IsStrictGeneralizedText text = (m : Moment) × (fraction : List ℕ) × IsStrictMoment m × (m.year < 10 ^ 4) ×
    IsStrictFraction fraction × (text ≡ digits 4 m.year ++ to_minute m ++ digits 2 m.second ++ fraction ++ z_text)

-- How they are shown.

-- the number, filled with zeros to the width, and longer where it needs more
abbrev pub filled : ℕ → ℕ → List ℕ
filled width n = replicate (width - length (decimal n)) 48 ++ decimal n

-- The sign of an offset is that of its hours, else of its minutes, else plus.
abbrev pub is_west : ℤ → ℤ → Bool
is_west hours minutes = int_lt hours (pos 0) || (not (int_lt (pos 0) hours) && int_lt minutes (pos 0))

-- a sign, then hours and minutes of two digits each
abbrev pub offset_text : ℤ → ℤ → List ℕ
offset_text hours minutes =
    (if is_west hours minutes then 45 else 43) ∷ filled 2 (unsigned_abs hours) ++ filled 2 (unsigned_abs minutes)

-- a zone: its offset, Z, or such a text where none is defined
abbrev pub zone_text : List ℕ → TimeZone → List ℕ
zone_text undefined Undefined = undefined
zone_text undefined Z = z_text
zone_text undefined (Offset hours minutes) = offset_text hours minutes

-- `YYYY-MM-DD hh:mm:ss`
abbrev pub calendar_text : Moment → List ℕ
calendar_text m = filled 4 m.year ++ codes "-" ++ filled 2 m.month ++ codes "-" ++ filled 2 m.day ++ codes " " ++
    filled 2 m.hour ++ codes ":" ++ filled 2 m.minute ++ codes ":" ++ filled 2 m.second

-- how a UTCTime is shown: its calendar and its zone
abbrev pub utc_time_shown : Moment → List ℕ
utc_time_shown m = calendar_text m ++ zone_text z_text m.zone

-- how a GeneralizedTime is shown: its calendar, its fraction and its zone
abbrev pub generalized_time_shown : Moment → List ℕ
generalized_time_shown m = calendar_text m ++ fraction_text m.millisecond ++ zone_text [] m.zone

-- fields alone: `YYYYMMDDhhmmss`, milliseconds and Z
abbrev pub moment_text : Moment → List ℕ
moment_text m = filled 4 m.year ++ filled 2 m.month ++ filled 2 m.day ++ filled 2 m.hour ++ filled 2 m.minute ++
    filled 2 m.second ++
    fraction_text m.millisecond ++ z_text
