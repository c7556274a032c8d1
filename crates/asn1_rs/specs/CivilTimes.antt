-- Times on the calendar: a civil date and a time of day, and an offset from UTC.
use Rattle.std.specs.Prelude.{◌≡◌, ℕ, ◌+◌, ◌*◌, ◌≤◌, ℤ, pos, neg_ℤ, ◌+ℤ◌, ◌-ℤ◌, ◌*ℤ◌, unsigned_abs, Option, Some, None}
use Rattle.std.specs.Prelude.{nat_lt, if◌then◌else◌, codes}
use Rattle.x690.specs.Times.{MostMilliseconds, is_west}
use Rattle.x690.specs.declared.times.Moment.{Moment}
use Rattle.x690.specs.declared.times.TimeZone.{TimeZone}
use Rattle.x690.specs.declared.times.TimeZone.TheVariants.{Undefined, Z, Offset as offset_by}
use Rattle.asn1_headers.specs.Error.{IsInvalidValue}
use Rattle.asn1_headers.specs.declared.error.Error.{Error}
use Rattle.jiff.specs.Words.{days_in_month}
use Rattle.jiff_core.specs.Calendar.{days_from_civil}
use Rattle.jiff_core.specs.declared.civil.datetime.DateTime.{DateTime}
use Rattle.jiff_core.specs.declared.offset.Offset.{Offset}
use Rattle.asn1_rs.specs.Times.{utc_time_number}

-- the calendar has this day, and its year is at most 9999
abbrev pub IsDay : ℕ → ℕ → ℕ → Type 0
IsDay year month day = (year ≤ 9999) × (1 ≤ month) × (month ≤ 12) × (1 ≤ day) × (day ≤ days_in_month (pos year) month)

-- a clock shows this time of day
abbrev pub IsTimeOfDay : ℕ → ℕ → ℕ → Type 0
IsTimeOfDay hour minute second = (hour ≤ 23) × (minute ≤ 59) × (second ≤ 59)

-- an offset, where there is one, of at most 23 hours and 59 minutes, each to either side
abbrev pub IsWithinDay : TimeZone → Type 0
IsWithinDay Undefined = Unit {0}
IsWithinDay Z = Unit {0}
IsWithinDay (offset_by hours minutes) = (unsigned_abs hours ≤ 23) × (unsigned_abs minutes ≤ 59)

-- fields that have a place on the calendar
pub record IsCivil (m : Moment) : Type 0 where
  pub day : IsDay m.year m.month m.day
  pub time : IsTimeOfDay m.hour m.minute m.second
  pub millisecond : MostMilliseconds 999 m.millisecond
  pub zone : IsWithinDay m.zone

-- milliseconds, 0 where there are none
abbrev pub milliseconds : Option ℕ → ℕ
milliseconds None = 0
milliseconds (Some n) = n

-- the seconds of an offset, whatever its signs
abbrev pub offset_length : ℤ → ℤ → ℕ
offset_length hours minutes = unsigned_abs hours * 3600 + unsigned_abs minutes * 60

-- The seconds that a zone is ahead of UTC. The sign of an offset is that of its hours, else of its minutes;
-- no zone is as UTC.
abbrev pub zone_seconds : TimeZone → ℤ
zone_seconds Undefined = pos 0
zone_seconds Z = pos 0
zone_seconds (offset_by hours minutes) =
    if is_west hours minutes then neg_ℤ (pos (offset_length hours minutes)) else pos (offset_length hours minutes)

-- the civil date and time of these fields, and their offset
pub record IsCivilOf (m : Moment) (civil : DateTime) (offset : Offset) : Type 0 where
  pub year : civil.date.year ≡ pos m.year
  pub month : civil.date.month ≡ m.month
  pub day : civil.date.day ≡ m.day
  pub hour : civil.time.hour ≡ m.hour
  pub minute : civil.time.minute ≡ m.minute
  pub second : civil.time.second ≡ m.second
  pub nanosecond : civil.time.subsec_nanosecond ≡ milliseconds m.millisecond * 1000000
  pub offset_is : offset.seconds ≡ zone_seconds m.zone

-- the year that a year in its century stands for: from 50 on in the twentieth, else in the next
abbrev pub adjusted_year : ℕ → ℕ
adjusted_year year = if nat_lt year 50 then 2000 + year else 1900 + year

-- the fields with that year
abbrev pub adjusted : Moment → Moment
adjusted m = record m { year = adjusted_year m.year }

-- the refusal of a time that has no place on the calendar once its year is adjusted
abbrev pub IsNoAdjustedDate : Error → Type 0
IsNoAdjustedDate = IsInvalidValue (record { 0 = utc_time_number }) (codes "Invalid adjusted date")

-- seconds from the beginning of 1970 of UTC on, of a year as it stands; milliseconds are dropped
abbrev pub seconds_since_1970 : Moment → ℤ
seconds_since_1970 m =
    (days_from_civil (pos m.year) m.month m.day *ℤ pos 86400 +ℤ pos (m.hour * 3600 + m.minute * 60 + m.second)) -ℤ
    zone_seconds m.zone
