-- A text that says a time has octets from 20 to 7f alone.
use Rattle.std.proofs.Common.{◌≡◌, ℕ, zero, suc, ◌+◌, ◌/◌, ◌%◌, true, List, [], ◌∷◌, ◌++◌, inl}
use Rattle.std.proofs.Common.{inr, Option, Some, None, IsTrue, refl, subst, sym, arith}
use Rattle.std.specs.List.{list_all}
use Rattle.std.proofs.lemmas.Bool.Decides.{nat_tests}
use Rattle.std.proofs.lemmas.List.Folds.{list_all-append}
use Rattle.x690.specs.Sets.{AllIn, is_visible}
use Rattle.x690.specs.Times.{digits, to_minute, SaysZone, SaysZoneOrNone, SaysFraction, SaysMinutes}
use Rattle.x690.specs.Times.{SaysUtcEnd, SaysGeneralizedEnd, SaysTime, SaysUtcTime, SaysGeneralizedTime}
use Rattle.x690.specs.declared.times.Moment.{Moment}
use Rattle.x690.specs.declared.times.TimeZone.{TimeZone}

abbrev AreVisible : List ℕ → Type 0
AreVisible octets = IsTrue (list_all is_visible octets)

digit_visible : (n : ℕ) → is_visible (48 + n % 10) ≡ true
digit_visible n = grind (arith, nat_tests)

both : (x y : List ℕ) → AreVisible x → AreVisible y → AreVisible (x ++ y)
both x y a b = rw (list_all-append, a) b

digits_visible : (width n : ℕ) → AreVisible (digits width n)
digits_visible zero n = refl
digits_visible (suc width) n =
    both (digits width (n / 10)) ((48 + n % 10) ∷ []) (digits_visible width (n / 10)) (simp digit_visible)

to_minute_visible : (m : Moment) → AreVisible (to_minute m)
to_minute_visible m =
    let hours = both (digits 2 m.hour) (digits 2 m.minute) (digits_visible 2 m.hour) (digits_visible 2 m.minute) in
    let days = both (digits 2 m.day) (digits 2 m.hour ++ digits 2 m.minute) (digits_visible 2 m.day) hours in
    both (digits 2 m.month) (digits 2 m.day ++ digits 2 m.hour ++ digits 2 m.minute) (digits_visible 2 m.month) days

zone_visible : (text : List ℕ) (zone : TimeZone) → SaysZone text zone → AreVisible text
zone_visible text zone (inl a) = subst AreVisible (sym a.0) refl
zone_visible text zone (inr (hours, minutes, h, m, inl a)) = subst AreVisible (sym a.0)
    (both (digits 2 hours) (digits 2 minutes) (digits_visible 2 hours) (digits_visible 2 minutes))
zone_visible text zone (inr (hours, minutes, h, m, inr a)) = subst AreVisible (sym a.0)
    (both (digits 2 hours) (digits 2 minutes) (digits_visible 2 hours) (digits_visible 2 minutes))

zone_or_none_visible : (text : List ℕ) (zone : TimeZone) → SaysZoneOrNone text zone → AreVisible text
zone_or_none_visible text zone (inl a) = subst AreVisible (sym a.0) refl
zone_or_none_visible text zone (inr a) = zone_visible text zone a

fraction_visible : (text : List ℕ) (o : Option ℕ) → SaysFraction text o → AreVisible text
fraction_visible text None h = subst AreVisible (sym h) refl
fraction_visible text (Some m) (point, count, n, inl p, c, l, t, e) = rw (t, p) (digits_visible (1 + count) n)
fraction_visible text (Some m) (point, count, n, inr p, c, l, t, e) = rw (t, p) (digits_visible (1 + count) n)

minutes_visible : (text : List ℕ) (m : Moment) → SaysMinutes text m → AreVisible text
minutes_visible text m s = subst AreVisible (sym s.text_is) refl

utc_end_visible : (text : List ℕ) (m : Moment) → SaysUtcEnd text m → AreVisible text
utc_end_visible text m (inl a) = minutes_visible text m a
utc_end_visible text m (inr (zone, t, z, n)) =
    subst AreVisible (sym t) (both (digits 2 m.second) zone (digits_visible 2 m.second) (zone_visible zone m.zone z))

generalized_end_visible : (text : List ℕ) (m : Moment) → SaysGeneralizedEnd text m → AreVisible text
generalized_end_visible text m (inl a) = minutes_visible text m a
generalized_end_visible text m (inr (fraction, zone, t, f, z)) = subst AreVisible (sym t)
    (both (digits 2 m.second) (fraction ++ zone) (digits_visible 2 m.second)
    (both fraction zone (fraction_visible fraction m.millisecond f) (zone_or_none_visible zone m.zone z)))

time_visible : (width : ℕ) (SaysEnd : List ℕ → Moment → Type 0) →
    ((text : List ℕ) (m : Moment) → SaysEnd text m → AreVisible text) → (text : List ℕ) (m : Moment) →
    SaysTime width SaysEnd text m → AreVisible text
time_visible width SaysEnd ends text m s = subst AreVisible (sym s.text_is)
    (both (digits width m.year ++ to_minute m) s.end (both (digits width m.year) (to_minute m)
    (digits_visible width m.year) (to_minute_visible m)) (ends s.end m s.says))

-- A text that says a UTCTime is visible characters.
pub utc_said_visible : (text : List ℕ) (m : Moment) → SaysUtcTime text m → AllIn is_visible text
utc_said_visible = time_visible 2 SaysUtcEnd utc_end_visible

-- So is one that says a GeneralizedTime.
pub generalized_said_visible : (text : List ℕ) (m : Moment) → SaysGeneralizedTime text m → AllIn is_visible text
generalized_said_visible = time_visible 4 SaysGeneralizedEnd generalized_end_visible
