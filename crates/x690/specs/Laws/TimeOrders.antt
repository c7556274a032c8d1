-- The order of zones.
use Rattle.std.proofs.Common.{◌≡◌, ℕ, ℤ, pos, ◌&&◌, Some, refl, subst}
use Rattle.std.specs.Cmp.{IsTotalOrder, int_cmp_total, nat_cmp_total, on_total, then_total}
use Rattle.std.specs.Ordering.{int_cmp, is_eq, nat_cmp, on, ordering_then, partial_ordering_then, then_cmp}
use Rattle.std.specs.declared.cmp.Ordering.{Ordering}
use Rattle.std.specs.declared.cmp.Ordering.TheVariants.{Less, Equal, Greater}
use Rattle.x690.specs.Times.{zone_cmp}
use Rattle.x690.specs.contracts.times.TimeZonePartialEq.TheImpl as equal_zones
use Rattle.x690.specs.contracts.times.TimeZonePartialOrd.TheImpl as partial_zones
use Rattle.x690.specs.declared.times.TimeZone.{TimeZone}
use Rattle.x690.specs.declared.times.TimeZone.TheVariants.{Undefined, Z, Offset}

-- the same order by three numbers: the place of the variant, the hours and the minutes

abbrev rank : TimeZone → ℕ
rank Undefined = 0
rank Z = 1
rank (Offset hours minutes) = 2

abbrev hours_of : TimeZone → ℤ
hours_of Undefined = pos 0
hours_of Z = pos 0
hours_of (Offset hours minutes) = hours

abbrev minutes_of : TimeZone → ℤ
minutes_of Undefined = pos 0
minutes_of Z = pos 0
minutes_of (Offset hours minutes) = minutes

abbrev by_numbers : TimeZone → TimeZone → Ordering
by_numbers = then_cmp (on rank nat_cmp) (then_cmp (on hours_of int_cmp) (on minutes_of int_cmp))

by_numbers_total : IsTotalOrder by_numbers
by_numbers_total = then_total (on_total rank nat_cmp_total)
    (then_total (on_total hours_of int_cmp_total) (on_total minutes_of int_cmp_total))

same_order : (x y : TimeZone) → by_numbers x y ≡ zone_cmp x y
same_order Undefined Undefined = refl
same_order Undefined Z = refl
same_order Undefined (Offset hours minutes) = refl
same_order Z Undefined = refl
same_order Z Z = refl
same_order Z (Offset hours minutes) = refl
same_order (Offset hours minutes) Undefined = refl
same_order (Offset hours minutes) Z = refl
same_order (Offset hours minutes) (Offset others rest) = refl

-- The order of zones is total.
pub zone_total : IsTotalOrder zone_cmp
zone_total = subst IsTotalOrder (λ i x y. same_order x y i) by_numbers_total

then_equal : (r s : Ordering) → (is_eq r && is_eq s) ≡ is_eq (ordering_then r s)
then_equal Less s = refl
then_equal Equal s = refl
then_equal Greater s = refl

-- Zones are equal where the order does not tell them apart.
pub zone_ties : (x y : TimeZone) → equal_zones.ghosts.eq x y ≡ is_eq (zone_cmp x y)
zone_ties Undefined Undefined = refl
zone_ties Undefined Z = refl
zone_ties Undefined (Offset hours minutes) = refl
zone_ties Z Undefined = refl
zone_ties Z Z = refl
zone_ties Z (Offset hours minutes) = refl
zone_ties (Offset hours minutes) Undefined = refl
zone_ties (Offset hours minutes) Z = refl
zone_ties (Offset hours minutes) (Offset others rest) = then_equal (int_cmp hours others) (int_cmp minutes rest)

then_some : (r s : Ordering) → partial_ordering_then (Some r) (Some s) ≡ Some (ordering_then r s)
then_some Less s = refl
then_some Equal s = refl
then_some Greater s = refl

-- What `partial_cmp` answers of zones is that order.
pub zone_agrees : (x y : TimeZone) → partial_zones.ghosts.partial_cmp x y ≡ Some (zone_cmp x y)
zone_agrees Undefined Undefined = refl
zone_agrees Undefined Z = refl
zone_agrees Undefined (Offset hours minutes) = refl
zone_agrees Z Undefined = refl
zone_agrees Z Z = refl
zone_agrees Z (Offset hours minutes) = refl
zone_agrees (Offset hours minutes) Undefined = refl
zone_agrees (Offset hours minutes) Z = refl
zone_agrees (Offset hours minutes) (Offset others rest) = then_some (int_cmp hours others) (int_cmp minutes rest)
