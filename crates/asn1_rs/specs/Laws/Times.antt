-- Times are lawful leaves; those that are strict are written.
use Rattle.std.specs.Prelude.{◌≡◌, ◌<◌, ◌↔◌, ◌≤◌, ◌⊎◌, ℕ, zero, suc, ◌+◌, ◌-◌, ◌*◌, ◌^◌, pos, negsuc, neg_ℤ, ◌≤ℤ◌, List}
use Rattle.std.specs.Prelude.{Bool, true, false, ◌&&◌, not, nat_eq, nat_le, nat_lt, if◌then◌else◌, Some, None, Option}
use Rattle.std.specs.Prelude.{IsTrue, codes, Ok, Err}
use Rattle.std.specs.Bool.{Decides}
use Rattle.std.specs.Cmp.{unsigned_Decides, signed_Decides}
use Rattle.std.specs.Option.{option_eq}
use Rattle.std.specs.Ordering.{int_eq}
use Rattle.std.proofs.Common.{ap, sym, subst, refl, lit<, inl, inr, arith}
use Rattle.std.proofs.lemmas.Int.{ints}
use Rattle.std.proofs.lemmas.Bool.{le-leb, leb-true}
use Rattle.x690.specs.Octets.{IsOctets}
use Rattle.x690.specs.Elements.{Parts}
use Rattle.x690.specs.Sets.{AllIn, is_visible}
use Rattle.x690.specs.Times.{InRange, west, SaysZone, SaysZoneOrNone, SaysFraction, SaysMinutes, SaysUtcEnd}
use Rattle.x690.specs.Times.{SaysGeneralizedEnd, SaysUtcTime, SaysGeneralizedTime, IsStrictUtcTime}
use Rattle.x690.specs.Times.{IsStrictGeneralizedTime, FitsText, MostMilliseconds, EndsInZ, HasComma, utc_time_text}
use Rattle.x690.specs.Times.{generalized_time_text}
use Rattle.x690.specs.Laws.TimeTexts.{utc_says, utc_visible, utc_octets, utc_fits, generalized_says}
use Rattle.x690.specs.Laws.TimeTexts.{generalized_visible, generalized_octets, generalized_fits, generalized_ends_in_z}
use Rattle.x690.specs.Laws.TimeTexts.{generalized_no_comma}
use Rattle.x690.specs.Laws.Times.{same_moment, utc_times_unique, generalized_times_unique}
use Rattle.x690.specs.contracts.times.TimeZonePartialEq.TheImpl as zones
use Rattle.x690.specs.declared.times.Moment.{Moment}
use Rattle.x690.specs.declared.times.TimeZone.{TimeZone}
use Rattle.x690.specs.declared.times.TimeZone.TheVariants.{Undefined, Z, Offset}
use Rattle.asn1_headers.specs.Error.{IsInvalidValue}
use Rattle.asn1_headers.specs.declared.error.Error.{Error}
use Rattle.asn1_headers.specs.declared.error.Error.TheVariants as errors
use Rattle.asn1_headers.specs.declared.tag.Tag.{Tag}
use Rattle.asn1_rs.specs.declared.asn1_types.times.ASN1DateTime.{ASN1DateTime}
use Rattle.asn1_rs.specs.declared.asn1_types.times.utc_time.UtcTime.{UtcTime}
use Rattle.asn1_rs.specs.declared.asn1_types.times.generalized_time.GeneralizedTime.{GeneralizedTime}
use Rattle.asn1_rs.specs.Checks.{CheckGives, IsCheck, IsCheckUpTo, but_text, nothing}
use Rattle.asn1_rs.specs.Leaf.{IsLawfulLeafUpTo, LeafGives, leaf_parts}
use Rattle.asn1_rs.specs.Times.{IsMoment, IsZone, IsNoTime, RefusesText, moment_of, time_leaf, has_visible_octets}
use Rattle.asn1_rs.specs.Times.{says_time, utc_time_leaf, utc_time_number, generalized_time_leaf}
use Rattle.asn1_rs.specs.Times.{generalized_time_number, generalized_time_constraints, fits_text, has_place}
use Rattle.asn1_rs.specs.Times.{has_three_digits, utc_time_refused, generalized_time_refused}
use Rattle.asn1_rs.specs.Laws.Checks.{up_to, before_is, check_is, content_check_is, telling_check_is, nothing_is}
use Rattle.x690.specs.Laws.Equality.{moment_set}

-- The laws, of any text.

-- refusals of one tag with one text are told apart by nothing
pub same_text : (tag : Tag) (text : List ℕ) (e f : Error) → IsInvalidValue tag text e → IsInvalidValue tag text f →
    but_text e ≡ but_text f
same_text tag text (errors.InvalidValue t m) (errors.InvalidValue u n) a b = rw (a.0, a.1, b.0, b.1) refl
same_text tag text (errors.InvalidValue t m) _ a b = absurd b
same_text tag text _ f a b = absurd a

-- That the contents octets say a time is a check.
says_time_is : (number : ℕ) (Says : List ℕ → Moment → Type 0) → IsCheckUpTo but_text (says_time number Says)
says_time_is number Says = telling_check_is but_text _ (IsNoTime number) (same_text _ (codes "not a time")) (λ h. h)

-- What is asked of a text: it says one time, which an item may hold. A strict time's text is such, of octets 20 to 7f,
-- and says it.
pub record AreTimeTexts (Says : List ℕ → Moment → Type 0) (IsStrict : Moment → Type 0)
    (octets : Moment → List ℕ) : Type 0 where
  pub one : (text : List ℕ) (m n : Moment) → Says text m → Says text n → m ≡ n
  pub holds : (text : List ℕ) (m : Moment) → Says text m → IsMoment m
  pub strict : (m : Moment) → IsStrict m → Says (octets m) m
  pub visible : (m : Moment) → AllIn is_visible (octets m)
  pub are : (m : Moment) → IsOctets (octets m)

module _ {S : Type 0} (number : ℕ) (value : S → Moment) (Says : List ℕ → Moment → Type 0) (IsStrict : Moment → Type 0)
    (constraints : CheckGives) (octets : Moment → List ℕ) where
  -- Times whose texts are such are lawful.
  pub time_lawful : number < 31 → AreTimeTexts Says IsStrict octets → IsCheck constraints →
      ((class : ℕ) (m : Moment) → IsStrict m →
      constraints (leaf_parts (time_leaf number value Says IsStrict constraints octets) class m) (Ok tt)) →
      IsLawfulLeafUpTo but_text (time_leaf number value Says IsStrict constraints octets)
  time_lawful small texts are meets = record {
    one_equality = moment_set;
    small = small;
    checks = before_is has_visible_octets (says_time number Says)
        (up_to but_text has_visible_octets (content_check_is (AllIn is_visible) _ (λ e. cc)))
        (says_time_is number Says);
    constraints = up_to but_text constraints are;
    one_value = texts.one;
    says_value = λ p v o m s. texts.holds p.content v s;
    der_value = λ v d. texts.holds (octets v) v (texts.strict v d);
    der_octets = λ v d. texts.are v;
    der_says = texts.strict;
    der_checks = λ k v d. (texts.visible v, (v, texts.strict v d));
    der_constraints = meets;
  }

  -- a conversion that asks the tag number, and then reads the text:
  -- of one that says a time the octets need not be looked at
  pub said_converts : ((text : List ℕ) (m : Moment) → Says text m → AllIn is_visible text) → (p : Parts) (x : S) →
      p.id.number ≡ number → Says p.content (value x) →
      LeafGives (time_leaf number value Says IsStrict constraints octets) p (Ok x)
  said_converts visible p x n s = ((n, (visible p.content (value x) s, (value x, s))), s)

  -- An element whose text says no time is refused as the conversion refuses it.
  pub unsaid_converts : (p : Parts) (e : Error) → p.id.number ≡ number → ((m : Moment) → ¬ Says p.content m) →
      RefusesText number p.content e →
      LeafGives (time_leaf number value Says IsStrict constraints octets) p (Err e)
  unsaid_converts p e n none (inl a) = inr (n, inl a)
  unsaid_converts p e n none (inr a) = inr (n, inr (a.0, ((λ m. none m.0 m.1), a.1)))

-- Fields that fit their text.

-- Both parts of a test that holds hold.
of_both : (x y : Bool) → (x && y) ≡ true → (x ≡ true) × (y ≡ true)
of_both true y e = (refl, e)
of_both false y e = absurd (let n = e in cc)

-- A test of two parts holds where both hold.
to_both : (x y : Bool) → x ≡ true → y ≡ true → (x && y) ≡ true
to_both true y e f = f
to_both false y e f = absurd (let n = e in cc)

-- Milliseconds of three digits at most pass the test.
fits_milliseconds : (o : Option ℕ) → MostMilliseconds 999 o → has_three_digits o ≡ true
fits_milliseconds None h = refl
fits_milliseconds (Some m) h = le-leb m 999 h

-- Those that pass it have three digits at most.
are_milliseconds : (o : Option ℕ) → has_three_digits o ≡ true → MostMilliseconds 999 o
are_milliseconds None h = tt
are_milliseconds (Some m) h = leb-true m 999 h

-- A zone that has a place in the text passes the test.
fits_zone : (z : TimeZone) → (z ≡ Z) ⊎ (z ≡ Undefined) → has_place z ≡ true
fits_zone Undefined h = refl
fits_zone Z h = refl
fits_zone (Offset hours minutes) (inl e) = absurd (let n = e in cc)
fits_zone (Offset hours minutes) (inr e) = absurd (let n = e in cc)

-- One that passes it has a place.
is_zone : (z : TimeZone) → has_place z ≡ true → (z ≡ Z) ⊎ (z ≡ Undefined)
is_zone Undefined h = inr refl
is_zone Z h = inl refl
is_zone (Offset hours minutes) h = absurd (let n = h in cc)

-- fields fit their text exactly where the test says so
pub fits_where_tested : (greatest : ℕ) (m : Moment) → fits_text greatest m ≡ true → FitsText greatest m
fits_where_tested greatest m h =
    let year = of_both (nat_le m.year greatest) _ h in
    let month = of_both (nat_le m.month 99) _ year.1 in
    let day = of_both (nat_le m.day 99) _ month.1 in
    let hour = of_both (nat_le m.hour 99) _ day.1 in
    let minute = of_both (nat_le m.minute 99) _ hour.1 in
    let second = of_both (nat_le m.second 99) _ minute.1 in
    let rest = of_both (has_three_digits m.millisecond) (has_place m.zone) second.1 in
    record {
      year = leb-true m.year greatest year.0;
      month = leb-true m.month 99 month.0;
      day = leb-true m.day 99 day.0;
      hour = leb-true m.hour 99 hour.0;
      minute = leb-true m.minute 99 minute.0;
      second = leb-true m.second 99 second.0;
      millisecond = are_milliseconds m.millisecond rest.0;
      zone = is_zone m.zone rest.1;
    }

-- The test holds of fields that fit.
pub tested_where_fits : (greatest : ℕ) (m : Moment) → FitsText greatest m → fits_text greatest m ≡ true
tested_where_fits greatest m f =
    to_both (nat_le m.year greatest) _ (le-leb m.year greatest f.year) (
    to_both (nat_le m.month 99) _ (le-leb m.month 99 f.month) (
    to_both (nat_le m.day 99) _ (le-leb m.day 99 f.day) (
    to_both (nat_le m.hour 99) _ (le-leb m.hour 99 f.hour) (
    to_both (nat_le m.minute 99) _ (le-leb m.minute 99 f.minute) (
    to_both (nat_le m.second 99) _ (le-leb m.second 99 f.second) (
    to_both (has_three_digits m.millisecond) _ (fits_milliseconds m.millisecond f.millisecond)
    (fits_zone m.zone f.zone)))))))

-- so no time is refused whose fields fit
pub accepted : (greatest : ℕ) (m : Moment) → FitsText greatest m → not (fits_text greatest m) ≡ false
accepted greatest m f = ap not (tested_where_fits greatest m f)

-- What a text says is such as an item may hold.

-- A number below 100 is one that 8 bits with a sign hold.
few : (n : ℕ) → n < 100 → (negsuc 127 ≤ℤ pos n) × (pos n ≤ℤ pos 127)
few n h = (omega (arith, ints), omega (arith, ints))

-- So is its negative.
few_west : (n : ℕ) → n < 100 → (negsuc 127 ≤ℤ neg_ℤ (pos n)) × (neg_ℤ (pos n) ≤ℤ pos 127)
few_west n h = (omega (arith, ints), omega (arith, ints))

-- Of two zones that an item may hold either is one.
either_holds : (b : Bool) (x y : TimeZone) → IsZone x → IsZone y → IsZone (if b then x else y)
either_holds true x y p q = p
either_holds false x y p q = q

-- A zone behind UTC of such numbers is one that an item may hold.
west_holds : (hours minutes : ℕ) → hours < 100 → minutes < 100 → IsZone (west hours minutes)
west_holds hours minutes h m =
    either_holds (nat_lt 0 hours) (Offset (neg_ℤ (pos hours)) (pos minutes)) (Offset (pos 0) (neg_ℤ (pos minutes)))
    ((few_west hours h).0, (few_west hours h).1, (few minutes m).0, (few minutes m).1)
    ((few 0 (omega arith)).0, (few 0 (omega arith)).1, (few_west minutes m).0, (few_west minutes m).1)

-- The zone that a text says is one that an item may hold.
zone_holds : (text : List ℕ) (z : TimeZone) → SaysZone text z → IsZone z
zone_holds text z (inl a) = subst IsZone (sym a.1) tt
zone_holds text z (inr (hours, minutes, h, m, inl a)) =
    subst IsZone (sym a.1) ((few hours h).0, (few hours h).1, (few minutes m).0, (few minutes m).1)
zone_holds text z (inr (hours, minutes, h, m, inr a)) = subst IsZone (sym a.1) (west_holds hours minutes h m)

-- So is one that may be left out.
zone_or_none_holds : (text : List ℕ) (z : TimeZone) → SaysZoneOrNone text z → IsZone z
zone_or_none_holds text z (inl a) = subst IsZone (sym a.1) tt
zone_or_none_holds text z (inr a) = zone_holds text z a

-- The milliseconds that a text says are such as 16 bits hold.
fraction_holds : (text : List ℕ) (o : Option ℕ) → SaysFraction text o → MostMilliseconds 65535 o
fraction_holds text None h = tt
fraction_holds text (Some m) (point, count, n, p, c, l, t, e) = of count c l e
  where
    of : (count : ℕ) → count < 3 → n < 10 ^ (1 + count) → m ≡ n * 10 ^ (2 - count) → m ≤ 65535
    of zero c l e = omega (arith, l, e)
    of (suc zero) c l e = omega (arith, l, e)
    of (suc (suc zero)) c l e = omega (arith, l, e)
    of (suc (suc (suc k))) c l e = omega arith

-- So are those of a text that says minutes, and its zone is one that an item may hold.
minutes_hold : (text : List ℕ) (m : Moment) → SaysMinutes text m → MostMilliseconds 65535 m.millisecond × IsZone m.zone
minutes_hold text m s = (subst (MostMilliseconds 65535) (sym s.millisecond) tt, subst IsZone (sym s.zone) tt)

-- Fields in range, with such milliseconds and such a zone, are those of an item.
moment_holds : (m : Moment) → m.year < 2 ^ 32 → InRange m →
    MostMilliseconds 65535 m.millisecond × IsZone m.zone → IsMoment m
moment_holds m y r p =
    let month = r.month in
    let day = r.day in
    let hour = r.hour in
    let minute = r.minute in
    let second = r.second in
    record {
      year = y;
      month = omega arith;
      day = omega arith;
      hour = omega arith;
      minute = omega arith;
      second = omega arith;
      millisecond = p.0;
      zone = p.1;
    }

-- The fields that the text of a UTCTime says are those of an item.
utc_holds : (text : List ℕ) (m : Moment) → SaysUtcTime text m → IsMoment m
utc_holds text m s = let y = s.year in moment_holds m (omega arith) s.range (of s.says)
  where
    of : SaysUtcEnd s.end m → MostMilliseconds 65535 m.millisecond × IsZone m.zone
    of (inl a) = minutes_hold s.end m a
    of (inr (zone, t, z, n)) = (subst (MostMilliseconds 65535) (sym n) tt, zone_holds zone m.zone z)

-- The fields that the text of a GeneralizedTime says are those of an item.
generalized_holds : (text : List ℕ) (m : Moment) → SaysGeneralizedTime text m → IsMoment m
generalized_holds text m s = let y = s.year in moment_holds m (omega arith) s.range (of s.says)
  where
    of : SaysGeneralizedEnd s.end m → MostMilliseconds 65535 m.millisecond × IsZone m.zone
    of (inl a) = minutes_hold s.end m a
    of (inr (fraction, zone, t, f, z)) = (fraction_holds fraction m.millisecond f, zone_or_none_holds zone m.zone z)

-- UTCTime.

-- UTCTimes are lawful.
pub utc_time_lawful : IsLawfulLeafUpTo but_text utc_time_leaf
utc_time_lawful = time_lawful utc_time_number (λ t. moment_of t.0) SaysUtcTime IsStrictUtcTime nothing utc_time_text
    (lit< tt) texts nothing_is (λ k m d. tt)
  where
    texts : AreTimeTexts SaysUtcTime IsStrictUtcTime utc_time_text
    texts = record {
      one = utc_times_unique;
      holds = utc_holds;
      strict = utc_says;
      visible = utc_visible;
      are = utc_octets;
    }

-- A strict UTCTime is not refused in writing.
pub utc_time_accepted : (x : UtcTime) → IsStrictUtcTime (moment_of x.0) → utc_time_refused (moment_of x.0) ≡ false
utc_time_accepted x d = accepted 99 (moment_of x.0) (utc_fits (moment_of x.0) d)

-- GeneralizedTime.

-- The constraints of a GeneralizedTime are a check.
generalized_time_constraints_are : IsCheck generalized_time_constraints
generalized_time_constraints_are = before_is _ _ (content_check_is EndsInZ _ (λ e. cc))
    (check_is (λ p. ¬ HasComma p.content) (λ p. HasComma p.content) _ (λ p m b. m b) (λ p e. cc))

-- GeneralizedTimes are lawful.
pub generalized_time_lawful : IsLawfulLeafUpTo but_text generalized_time_leaf
generalized_time_lawful = time_lawful generalized_time_number
    (λ t. moment_of t.0) SaysGeneralizedTime IsStrictGeneralizedTime generalized_time_constraints generalized_time_text
    (lit< tt) texts generalized_time_constraints_are (λ k m d. (generalized_ends_in_z m, generalized_no_comma m))
  where
    texts : AreTimeTexts SaysGeneralizedTime IsStrictGeneralizedTime generalized_time_text
    texts = record {
      one = generalized_times_unique;
      holds = generalized_holds;
      strict = generalized_says;
      visible = generalized_visible;
      are = generalized_octets;
    }

-- A strict GeneralizedTime is not refused in writing.
pub generalized_time_accepted : (x : GeneralizedTime) → IsStrictGeneralizedTime (moment_of x.0) →
    generalized_time_refused (moment_of x.0) ≡ false
generalized_time_accepted x d = accepted 9999 (moment_of x.0) (generalized_fits (moment_of x.0) d)

-- Times are equal where their fields are.

-- The test of milliseconds says exactly whether they are the same.
milliseconds_decide : (o p : Option ℕ) → Decides (option_eq nat_eq o p) (o ≡ p)
milliseconds_decide None None = (λ h. refl, λ e. refl)
milliseconds_decide None (Some n) = (λ h. absurd (let e = h in cc), λ e. cc)
milliseconds_decide (Some m) None = (λ h. absurd (let e = h in cc), λ e. cc)
milliseconds_decide (Some m) (Some n) =
    (λ h. ap Some ((unsigned_Decides m n).0 h), λ e. (unsigned_Decides m n).1 (let f : m ≡ n = cc in f))

-- what `==` answers of zones
abbrev zone_eq : TimeZone → TimeZone → Bool
zone_eq = zones.ghosts.eq

-- That of zones says exactly whether they are the same.
zones_decide : (a b : TimeZone) → Decides (zone_eq a b) (a ≡ b)
zones_decide Undefined Undefined = (λ h. refl, λ e. refl)
zones_decide Undefined Z = (λ h. absurd (let e = h in cc), λ e. cc)
zones_decide Undefined (Offset i n) = (λ h. absurd (let e = h in cc), λ e. cc)
zones_decide Z Undefined = (λ h. absurd (let e = h in cc), λ e. cc)
zones_decide Z Z = (λ h. refl, λ e. refl)
zones_decide Z (Offset i n) = (λ h. absurd (let e = h in cc), λ e. cc)
zones_decide (Offset h m) Undefined = (λ h. absurd (let e = h in cc), λ e. cc)
zones_decide (Offset h m) Z = (λ h. absurd (let e = h in cc), λ e. cc)
zones_decide (Offset h m) (Offset i n) = (to, from)
  where
    to : (int_eq h i && int_eq m n) ≡ true → Offset h m ≡ Offset i n
    to t =
        let both = of_both (int_eq h i) (int_eq m n) t in
        let hours = (signed_Decides h i).0 both.0 in
        let minutes = (signed_Decides m n).0 both.1 in
        cc

    from : Offset h m ≡ Offset i n → (int_eq h i && int_eq m n) ≡ true
    from e =
        let hours : h ≡ i = cc in
        let minutes : m ≡ n = cc in
        to_both (int_eq h i) (int_eq m n) ((signed_Decides h i).1 hours) ((signed_Decides m n).1 minutes)

-- Times are equal exactly where their fields are.
pub times_equal : (x y : ASN1DateTime) → IsTrue (nat_eq x.year y.year && (nat_eq x.month y.month &&
    (nat_eq x.day y.day && (nat_eq x.hour y.hour && (nat_eq x.minute y.minute && (nat_eq x.second y.second &&
    (option_eq nat_eq x.millisecond y.millisecond && zone_eq x.tz y.tz))))))) ↔ (moment_of x ≡ moment_of y)
times_equal x y = (to, from)
  where
    to : (nat_eq x.year y.year && (nat_eq x.month y.month &&
        (nat_eq x.day y.day && (nat_eq x.hour y.hour && (nat_eq x.minute y.minute && (nat_eq x.second y.second &&
        (option_eq nat_eq x.millisecond y.millisecond && zone_eq x.tz y.tz))))))) ≡ true → moment_of x ≡ moment_of y
    to h =
        let year = of_both (nat_eq x.year y.year) _ h in
        let month = of_both (nat_eq x.month y.month) _ year.1 in
        let day = of_both (nat_eq x.day y.day) _ month.1 in
        let hour = of_both (nat_eq x.hour y.hour) _ day.1 in
        let minute = of_both (nat_eq x.minute y.minute) _ hour.1 in
        let second = of_both (nat_eq x.second y.second) _ minute.1 in
        let rest = of_both (option_eq nat_eq x.millisecond y.millisecond) (zone_eq x.tz y.tz) second.1 in
        same_moment (moment_of x) (moment_of y) ((unsigned_Decides x.year y.year).0 year.0)
        (record {
          month = (unsigned_Decides x.month y.month).0 month.0;
          day = (unsigned_Decides x.day y.day).0 day.0;
          hour = (unsigned_Decides x.hour y.hour).0 hour.0;
          minute = (unsigned_Decides x.minute y.minute).0 minute.0;
        })
        (record {
          second = (unsigned_Decides x.second y.second).0 second.0;
          millisecond = (milliseconds_decide x.millisecond y.millisecond).0 rest.0;
          zone = (zones_decide x.tz y.tz).0 rest.1;
        })

    from : moment_of x ≡ moment_of y → (nat_eq x.year y.year && (nat_eq x.month y.month &&
        (nat_eq x.day y.day && (nat_eq x.hour y.hour && (nat_eq x.minute y.minute && (nat_eq x.second y.second &&
        (option_eq nat_eq x.millisecond y.millisecond && zone_eq x.tz y.tz))))))) ≡ true
    from e =
        to_both (nat_eq x.year y.year) _ ((unsigned_Decides x.year y.year).1 (ap (λ (m : Moment). m.year) e)) (
        to_both (nat_eq x.month y.month) _ ((unsigned_Decides x.month y.month).1 (ap (λ (m : Moment). m.month) e)) (
        to_both (nat_eq x.day y.day) _ ((unsigned_Decides x.day y.day).1 (ap (λ (m : Moment). m.day) e)) (
        to_both (nat_eq x.hour y.hour) _ ((unsigned_Decides x.hour y.hour).1 (ap (λ (m : Moment). m.hour) e)) (
        to_both (nat_eq x.minute y.minute) _
        ((unsigned_Decides x.minute y.minute).1 (ap (λ (m : Moment). m.minute) e)) (
        to_both (nat_eq x.second y.second) _
        ((unsigned_Decides x.second y.second).1 (ap (λ (m : Moment). m.second) e)) (
        to_both (option_eq nat_eq x.millisecond y.millisecond) (zone_eq x.tz y.tz)
        ((milliseconds_decide x.millisecond y.millisecond).1 (ap (λ (m : Moment). m.millisecond) e))
        ((zones_decide x.tz y.tz).1 (ap (λ (m : Moment). m.zone) e))))))))
