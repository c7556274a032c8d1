-- Laws of times as texts.
pub mod Digits
pub mod Zones
pub mod Ends
pub mod Visible
use Rattle.std.proofs.Common.{◌≡◌, ℕ, ◌^◌, ◌<◌, ◌≤◌, List, ◌++◌, Option, None, append_assoc, refl, sym, subst, ◌∙◌}
use Rattle.std.proofs.Common.{arith}
use Rattle.x690.specs.declared.times.Moment.{Moment}
use Rattle.x690.specs.declared.times.TimeZone.{TimeZone}
use Rattle.x690.specs.Times.{digits, to_minute, InRange, SaysTime, SaysUtcEnd, SaysGeneralizedEnd, SaysUtcTime}
use Rattle.x690.specs.Times.{SaysGeneralizedTime, MostOffset, MostMilliseconds}
use Rattle.x690.specs.Laws.Times.Digits.{digits_front}
use Rattle.x690.specs.Laws.Times.Ends.{SameMinute, SameEnd, minutes_front, utc_ends_unique, utc_end_most}
use Rattle.x690.specs.Laws.Times.Ends.{generalized_end_most, generalized_ends_unique}

-- a time by its fields
made : (year month day hour minute second : ℕ) → Option ℕ → TimeZone → Moment
made y o d h m s i z =
    record { year = y; month = o; day = d; hour = h; minute = m; second = s; millisecond = i; zone = z }

made_same : (m n : Moment) → m.year ≡ n.year → SameMinute m n → SameEnd m n →
    made m.year m.month m.day m.hour m.minute m.second m.millisecond m.zone ≡
    made n.year n.month n.day n.hour n.minute n.second n.millisecond n.zone
made_same m n year minute end = cc

-- fields that are the same are of the same time
pub same_moment : (m n : Moment) → m.year ≡ n.year → SameMinute m n → SameEnd m n → m ≡ n
unfolding made
same_moment m n = made_same m n

-- behind the year of a text that says a time stands its minute
pub time_behind_year : (width : ℕ) (SaysEnd : List ℕ → Moment → Type 0) (text behind : List ℕ) (year : ℕ) (m : Moment) →
    year < 10 ^ width → text ≡ digits width year ++ behind → (said : SaysTime width SaysEnd text m) →
    (year ≡ m.year) × (behind ≡ to_minute m ++ said.end)
time_behind_year width SaysEnd text behind year m h is said =
    digits_front width year m.year behind (to_minute m ++ said.end) h said.year
    (sym is ∙ said.text_is ∙ append_assoc (digits width m.year) (to_minute m) said.end)

-- and behind this its end
pub time_behind_minute : (width : ℕ) (SaysEnd : List ℕ → Moment → Type 0) (text behind rest : List ℕ) (year : ℕ)
    (start m : Moment) → year < 10 ^ width → text ≡ digits width year ++ behind → InRange start →
    behind ≡ to_minute start ++ rest → SaysTime width SaysEnd text m → SameMinute start m × SaysEnd rest m
time_behind_minute width SaysEnd text behind rest year start m h is range it said =
    let minute = minutes_front start m rest said.end range said.range
    (sym it ∙ (time_behind_year width SaysEnd text behind year m h is said).1) in
    (minute.0, subst (λ (e : List ℕ). SaysEnd e m) (sym minute.1) said.says)

-- where each end says one second, milliseconds and zone, a text says one time
times_unique : (width : ℕ) (SaysEnd : List ℕ → Moment → Type 0) →
    ((text : List ℕ) (m n : Moment) → m.second ≤ 59 → n.second ≤ 59 → SaysEnd text m → SaysEnd text n → SameEnd m n) →
    (text : List ℕ) (m n : Moment) → SaysTime width SaysEnd text m → SaysTime width SaysEnd text n → m ≡ n
times_unique width SaysEnd ends text m n said told =
    let behind = to_minute m ++ said.end in
    let is = said.text_is ∙ append_assoc (digits width m.year) (to_minute m) said.end in
    let year = time_behind_year width SaysEnd text behind m.year n said.year is told in
    let minute = time_behind_minute width SaysEnd text behind said.end m.year m n said.year is said.range refl told in
    same_moment m n year.0 minute.0 (ends said.end m n said.range.second told.range.second said.says minute.1)

-- A text says one UTCTime.
pub utc_times_unique : (text : List ℕ) (m n : Moment) → SaysUtcTime text m → SaysUtcTime text n → m ≡ n
utc_times_unique = times_unique 2 SaysUtcEnd utc_ends_unique

-- A text says one GeneralizedTime.
pub generalized_times_unique : (text : List ℕ) (m n : Moment) → SaysGeneralizedTime text m →
    SaysGeneralizedTime text n → m ≡ n
generalized_times_unique = times_unique 4 SaysGeneralizedEnd generalized_ends_unique

-- What a text says is in range.

-- What the text of a UTCTime says is in range, of a year to 99, with no milliseconds, and an offset to 99.
pub utc_time_in_range : (text : List ℕ) (m : Moment) → SaysUtcTime text m →
    InRange m × (m.year ≤ 99) × (m.millisecond ≡ None) × MostOffset 99 m.zone
utc_time_in_range text m said =
    let end = utc_end_most said.end m said.says in
    (said.range, omega (arith, said.year), end.0, end.1)

-- What that of a GeneralizedTime says is, of a year to 9999, with milliseconds to 999.
pub generalized_time_in_range : (text : List ℕ) (m : Moment) → SaysGeneralizedTime text m →
    InRange m × (m.year ≤ 9999) × MostMilliseconds 999 m.millisecond × MostOffset 99 m.zone
generalized_time_in_range text m said =
    let end = generalized_end_most said.end m said.says in
    (said.range, omega (arith, said.year), end.0, end.1)
