-- The order of the fields of times.
use Rattle.std.specs.Prelude.{◌≡◌, Some}
use Rattle.std.specs.Cmp.{IsTotalOrder, on_total}
use Rattle.std.specs.Ordering.{is_eq}
use Rattle.x690.specs.contracts.times.MomentOrd.TheImpl.Laws as moments
use Rattle.asn1_rs.specs.contracts.asn1_types.times.ASN1DateTimePartialEq.TheImpl as equal_times
use Rattle.asn1_rs.specs.contracts.asn1_types.times.ASN1DateTimePartialOrd.TheImpl as partial_times
use Rattle.asn1_rs.specs.declared.asn1_types.times.ASN1DateTime.{ASN1DateTime}
use Rattle.asn1_rs.specs.Times.{moment_cmp, moment_of}

-- The order of fields is total.
pub times_total : {T : Type 0} (time : T → ASN1DateTime) →
    IsTotalOrder (λ (a b : T). moment_cmp (moment_of (time a)) (moment_of (time b)))
times_total time = on_total (λ t. moment_of (time t)) moments.total-law

-- What `partial_cmp` answers of times is that order.
pub times_agree : (a b : ASN1DateTime) →
    partial_times.ghosts.partial_cmp a b ≡ Some (moment_cmp (moment_of a) (moment_of b))
times_agree a b = moments.matches_partial_cmp-law (moment_of a) (moment_of b)

-- Times are equal where it does not tell them apart.
pub times_tie : (a b : ASN1DateTime) → equal_times.ghosts.eq a b ≡ is_eq (moment_cmp (moment_of a) (moment_of b))
times_tie a b = moments.matches_eq-law (moment_of a) (moment_of b)
