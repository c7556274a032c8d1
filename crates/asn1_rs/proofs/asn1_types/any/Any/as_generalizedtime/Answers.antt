use Rattle.std.proofs.Common.{refl}
use Rattle.x690.specs.Times.{SaysGeneralizedTime, IsStrictGeneralizedTime, generalized_time_text}
use Rattle.x690.specs.Laws.Times.Visible.{generalized_said_visible}
use Rattle.asn1_rs.specs.declared.asn1_types.times.generalized_time.GeneralizedTime.{GeneralizedTime}
use Rattle.asn1_rs.specs.Any.{parts_of}
use Rattle.asn1_rs.specs.Times.{moment_of, generalized_time_number, generalized_time_constraints}
use Rattle.asn1_rs.specs.Laws.Times.{said_converts, unsaid_converts}
use Rattle.asn1_rs.proofs.asn1_types.any.Any.as_generalizedtime.Goals as goal

pub returns-in-Some : goal.returns-in-Some
returns-in-Some c =
    said_converts generalized_time_number (λ (t : GeneralizedTime). moment_of t.0) SaysGeneralizedTime
    IsStrictGeneralizedTime generalized_time_constraints generalized_time_text generalized_said_visible
    (parts_of c.args.self.now) _ c.in_ok-assert_number.ensures (rw c.from.ensures c.in-Some.ensures.says)

pub returns-in-None : goal.returns-in-None
returns-in-None c =
    unsaid_converts generalized_time_number (λ (t : GeneralizedTime). moment_of t.0) SaysGeneralizedTime
    IsStrictGeneralizedTime generalized_time_constraints generalized_time_text (parts_of c.args.self.now)
    c.no_time.result c.in_ok-assert_number.ensures (c.in-None.ensures.none refl) c.no_time.ensures
