-- Laws of what stands before and behind the minutes of a time.
use Rattle.std.proofs.Common.{◌≡◌, ◌≢◌, ℕ, ◌≤◌, List, ◌++◌, None, inl, inr, sym, subst, ◌∙◌, arith}
use Rattle.x690.specs.declared.times.Moment.{Moment}
use Rattle.x690.specs.Times.{digits, z_text, to_minute, InRange, SaysZone, SaysZoneOrNone, SaysFraction, SaysUtcEnd}
use Rattle.x690.specs.Times.{SaysGeneralizedEnd, MostOffset, MostMilliseconds}
use Rattle.x690.specs.Laws.Times.Digits.{digits_front}
use Rattle.x690.specs.Laws.Times.Zones.{zones_unique, fractions_front, zones_or_none_unique, zone_or_none_most}
use Rattle.x690.specs.Laws.Times.Zones.{fraction_most}

-- the same month, day, hour and minute
pub record SameMinute (m n : Moment) : Type 0 where
  pub month : m.month ≡ n.month
  pub day : m.day ≡ n.day
  pub hour : m.hour ≡ n.hour
  pub minute : m.minute ≡ n.minute

-- the same second, milliseconds and zone
pub record SameEnd (m n : Moment) : Type 0 where
  pub second : m.second ≡ n.second
  pub millisecond : m.millisecond ≡ n.millisecond
  pub zone : m.zone ≡ n.zone

-- such fields are those of one text in front
pub minutes_front : (m n : Moment) (x y : List ℕ) → InRange m → InRange n → to_minute m ++ x ≡ to_minute n ++ y →
    SameMinute m n × (x ≡ y)
minutes_front m n x y h k e =
    let month = digits_front 2 m.month n.month (digits 2 m.day ++ digits 2 m.hour ++ digits 2 m.minute ++ x)
    (digits 2 n.day ++ digits 2 n.hour ++ digits 2 n.minute ++ y) (omega (arith, h.month))
    (omega (arith, k.month)) e in
    let day = digits_front 2 m.day n.day (digits 2 m.hour ++ digits 2 m.minute ++ x)
    (digits 2 n.hour ++ digits 2 n.minute ++ y) (omega (arith, h.day)) (omega (arith, k.day)) month.1 in
    let hour = digits_front 2 m.hour n.hour (digits 2 m.minute ++ x) (digits 2 n.minute ++ y) (omega (arith, h.hour))
    (omega (arith, k.hour)) day.1 in
    let minute = digits_front 2 m.minute n.minute x y (omega (arith, h.minute)) (omega (arith, k.minute)) hour.1 in
    (record { month = month.0; day = day.0; hour = hour.0; minute = minute.0 }, minute.1)

-- Z alone is no two digits
z_is_no_second : (text rest : List ℕ) (n : ℕ) → text ≡ z_text → text ≢ digits 2 n ++ rest
z_is_no_second text rest n z e = cc

-- what follows the second at the end of a time: a zone
pub utc_end_behind : (text rest : List ℕ) (second : ℕ) (m : Moment) → second ≤ 59 → text ≡ digits 2 second ++ rest →
    m.second ≤ 59 → SaysUtcEnd text m → SaysZone rest m.zone
utc_end_behind text rest second m h is k (inl z) = absurd (z_is_no_second text rest second z.text_is is)
utc_end_behind text rest second m h is k (inr (zone, it, said, nothing)) =
    let behind = (digits_front 2 second m.second rest zone (omega arith) (omega arith) (sym is ∙ it)).1 in
    subst (λ (ys : List ℕ). SaysZone ys m.zone) (sym behind) said

-- or a fraction and a zone
pub generalized_end_behind : (text rest : List ℕ) (second : ℕ) (m : Moment) → second ≤ 59 →
    text ≡ digits 2 second ++ rest → m.second ≤ 59 → SaysGeneralizedEnd text m →
    (fraction zone : List ℕ) × (rest ≡ fraction ++ zone) × SaysFraction fraction m.millisecond ×
    SaysZoneOrNone zone m.zone
generalized_end_behind text rest second m h is k (inl z) = absurd (z_is_no_second text rest second z.text_is is)
generalized_end_behind text rest second m h is k (inr (fraction, zone, it, part, said)) = (
  fraction,
  zone,
  (digits_front 2 second m.second rest (fraction ++ zone) (omega arith) (omega arith) (sym is ∙ it)).1,
  part,
  said,
)

-- a text ends one time so
pub utc_ends_unique : (text : List ℕ) (m n : Moment) → m.second ≤ 59 → n.second ≤ 59 → SaysUtcEnd text m →
    SaysUtcEnd text n → SameEnd m n
utc_ends_unique text m n h k (inl a) (inl b) = record {
  second = a.second ∙ sym b.second;
  millisecond = a.millisecond ∙ sym b.millisecond;
  zone = a.zone ∙ sym b.zone;
}
utc_ends_unique text m n h k (inl a) (inr (zone, is, told, nought)) =
    absurd (z_is_no_second text zone n.second a.text_is is)
utc_ends_unique text m n h k (inr (zone, is, said, none)) (inl b) =
    absurd (z_is_no_second text zone m.second b.text_is is)
utc_ends_unique text m n h k (inr (zone, is, said, none)) (inr (other, it, told, nought)) =
    let r = digits_front 2 m.second n.second zone other (omega arith) (omega arith) (sym is ∙ it) in
    record {
      second = r.0;
      millisecond = none ∙ sym nought;
      zone = zones_unique zone m.zone n.zone said (subst (λ (z : List ℕ). SaysZone z n.zone) (sym r.1) told);
    }

-- What stands behind the minutes of a GeneralizedTime says one thing.
pub generalized_ends_unique : (text : List ℕ) (m n : Moment) → m.second ≤ 59 → n.second ≤ 59 →
    SaysGeneralizedEnd text m → SaysGeneralizedEnd text n → SameEnd m n
generalized_ends_unique text m n h k (inl a) (inl b) = record {
  second = a.second ∙ sym b.second;
  millisecond = a.millisecond ∙ sym b.millisecond;
  zone = a.zone ∙ sym b.zone;
}
generalized_ends_unique text m n h k (inl a) (inr (fraction, zone, is, part, told)) =
    absurd (z_is_no_second text (fraction ++ zone) n.second a.text_is is)
generalized_ends_unique text m n h k (inr (fraction, zone, is, part, said)) (inl b) =
    absurd (z_is_no_second text (fraction ++ zone) m.second b.text_is is)
generalized_ends_unique text m n h k (inr (fraction, zone, is, part, said)) (inr (other, rest, it, piece, told)) =
    let r =
    digits_front 2 m.second n.second (fraction ++ zone) (other ++ rest) (omega arith) (omega arith) (sym is ∙ it) in
    let f =
    fractions_front fraction other zone rest m.millisecond n.millisecond m.zone n.zone part piece said told r.1 in
    record {
      second = r.0;
      millisecond = f.0;
      zone =
          zones_or_none_unique zone m.zone n.zone said (subst (λ (z : List ℕ). SaysZoneOrNone z n.zone) (sym f.1) told);
    }

-- how much an end says
pub utc_end_most : (text : List ℕ) (m : Moment) → SaysUtcEnd text m → (m.millisecond ≡ None) × MostOffset 99 m.zone
utc_end_most text m (inl z) = (z.millisecond, subst (MostOffset 99) (sym z.zone) tt)
utc_end_most text m (inr (zone, is, said, nothing)) = (nothing, zone_or_none_most zone m.zone (inr said))

-- It says milliseconds to 999, and an offset to 99.
pub generalized_end_most : (text : List ℕ) (m : Moment) → SaysGeneralizedEnd text m →
    MostMilliseconds 999 m.millisecond × MostOffset 99 m.zone
generalized_end_most text m (inl z) =
    (subst (MostMilliseconds 999) (sym z.millisecond) tt, subst (MostOffset 99) (sym z.zone) tt)
generalized_end_most text m (inr (fraction, zone, is, part, said)) =
    (fraction_most fraction m.millisecond part, zone_or_none_most zone m.zone said)
