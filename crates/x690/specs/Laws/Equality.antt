-- Values that are equal are so in one way: that two are equal is a proposition. So what holds up to a proof that is not
-- in hand makes two values equal all the same.
use Rattle.std.specs.Prelude.{◌≡◌, ℕ, ℤ, List, Option, Some, None}
use Rattle.std.proofs.Common.{◌∙◌, ap, sym, refl}
use Rattle.x690.specs.Collections.{Multiset, ValueSet}
use Rattle.x690.specs.Identifiers.{Identifier, Identifier-set}
use Rattle.x690.specs.declared.times.Moment.{Moment}
use Rattle.x690.specs.declared.times.TimeZone.{TimeZone}
use Rattle.x690.specs.declared.times.TimeZone.TheVariants.{Undefined, Z, Offset}
use mathlib.Core.HLevel.{collapsible→set, prop→set, Unit-prop, Σ_set}
use mathlib.Core.List.{is_set}
use mathlib.Core.Quot.{Quot-set}
use native.Mathlib.Nat.{ℕ_set}
use Rattle.std.proofs.Math.Bool.{Bool-set}
use Rattle.std.proofs.Math.IntN.{ℤ_set}
use mathlib.Core.Option.{is_set as maybe_set}
use mathlib.Core.Option.{Option as Maybe, some, none}

-- Octets are.
pub octets_set : IsSet (List ℕ)
octets_set = is_set ℕ_set

-- Lists of what is are.
pub list_set : {V : Type 0} → IsSet V → IsSet (List V)
list_set values = is_set values

-- Multisets are, whatever their items.
pub multiset_set : {V : Type 0} → IsSet (Multiset V)
multiset_set = Quot-set

-- Sets are.
pub value_set_set : {V : Type 0} → IsSet (ValueSet V)
value_set_set = Quot-set

-- What has one value alone is.
pub unit_set : IsSet (Unit {0})
unit_set = prop→set Unit-prop

-- what another type can be made into and back
pub retract_set : {A B : Type 0} (to : A → B) (from : B → A) → ((a : A) → from (to a) ≡ a) → IsSet B → IsSet A
retract_set to from back are =
    collapsible→set (λ x y p. sym (back x) ∙ ap from (ap to p) ∙ back y)
    (λ x y p q. ap (λ (r : to x ≡ to y). sym (back x) ∙ ap from r ∙ back y) (are (to x) (to y) (ap to p) (ap to q)))

-- Optional values.

abbrev to_maybe : {V : Type 0} → Option V → Maybe V
to_maybe (Some v) = some v
to_maybe None = none

abbrev from_maybe : {V : Type 0} → Maybe V → Option V
from_maybe (some v) = Some v
from_maybe none = None

maybe_back : {V : Type 0} (o : Option V) → from_maybe (to_maybe o) ≡ o
maybe_back (Some v) = refl
maybe_back None = refl

-- Optional values of what is are.
pub option_set : {V : Type 0} → IsSet V → IsSet (Option V)
option_set values = retract_set to_maybe from_maybe maybe_back (maybe_set values)

-- Times.

-- a zone, written anew
data Zone : Type 0 where
  undefined : Zone
  utc : Zone
  offset : ℤ → ℤ → Zone
  deriving IsSet as Zone-set

abbrev to_zone : TimeZone → Zone
to_zone Undefined = undefined
to_zone Z = utc
to_zone (Offset h m) = offset h m

abbrev from_zone : Zone → TimeZone
from_zone undefined = Undefined
from_zone utc = Z
from_zone (offset h m) = Offset h m

zone_back : (z : TimeZone) → from_zone (to_zone z) ≡ z
zone_back Undefined = refl
zone_back Z = refl
zone_back (Offset h m) = refl

-- Zones are.
pub zone_set : IsSet TimeZone
zone_set = retract_set to_zone from_zone zone_back (Zone-set ℤ_set)

-- pairs of what are
pair_set : {A B : Type 0} → IsSet A → IsSet B → IsSet (A × B)
pair_set firsts seconds = Σ_set firsts (λ _. seconds)

-- the fields of a time, in pairs: the date, the time of day, and the fraction with the zone
abbrev Fields : Type 0
Fields = (ℕ × (ℕ × ℕ)) × ((ℕ × (ℕ × ℕ)) × (Option ℕ × TimeZone))

abbrev fields : Moment → Fields
fields m = ((m.year, (m.month, m.day)), ((m.hour, (m.minute, m.second)), (m.millisecond, m.zone)))

abbrev of_fields : Fields → Moment
of_fields ((year, (month, day)), ((hour, (minute, second)), (millisecond, zone))) = record {
  year = year;
  month = month;
  day = day;
  hour = hour;
  minute = minute;
  second = second;
  millisecond = millisecond;
  zone = zone;
}

fields_set : IsSet Fields
fields_set =
    let numbers = pair_set ℕ_set (pair_set ℕ_set ℕ_set) in
    pair_set numbers (pair_set numbers (pair_set (option_set ℕ_set) zone_set))

-- Times are.
pub moment_set : IsSet Moment
moment_set = retract_set fields of_fields (λ m. refl) fields_set

-- Identifiers are.
pub identifier_set : IsSet Identifier
identifier_set = Identifier-set ℕ_set Bool-set
