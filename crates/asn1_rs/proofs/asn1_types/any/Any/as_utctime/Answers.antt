use Rattle.std.proofs.Common.{refl}
use Rattle.x690.specs.Times.{SaysUtcTime, IsStrictUtcTime, utc_time_text}
use Rattle.x690.specs.Laws.Times.Visible.{utc_said_visible}
use Rattle.asn1_rs.specs.declared.asn1_types.times.utc_time.UtcTime.{UtcTime}
use Rattle.asn1_rs.specs.Any.{parts_of}
use Rattle.asn1_rs.specs.Checks.{nothing}
use Rattle.asn1_rs.specs.Times.{moment_of, utc_time_number}
use Rattle.asn1_rs.specs.Laws.Times.{said_converts, unsaid_converts}
use Rattle.asn1_rs.proofs.asn1_types.any.Any.as_utctime.Goals as goal

pub returns-in-Some : goal.returns-in-Some
returns-in-Some c =
    said_converts utc_time_number
    (λ (t : UtcTime). moment_of t.0) SaysUtcTime IsStrictUtcTime nothing utc_time_text utc_said_visible
    (parts_of c.args.self.now) _ c.in_ok-assert_number.ensures (rw c.from.ensures c.in-Some.ensures.says)

pub returns-in-None : goal.returns-in-None
returns-in-None c =
    unsaid_converts utc_time_number (λ (t : UtcTime). moment_of t.0) SaysUtcTime IsStrictUtcTime nothing utc_time_text
    (parts_of c.args.self.now) c.no_time.result c.in_ok-assert_number.ensures
    (c.in-None.ensures.none refl) c.no_time.ensures
