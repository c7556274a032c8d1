use Rattle.asn1_schema.specs.Joined.{said}
use Rattle.std.proofs.Common.{sym, ◌∙◌}
use Rattle.asn1_schema.proofs.MomentTexts.{digit_behind, other_octet, no_octet}
use Rattle.asn1_schema.proofs.moments.behind_digits.Goals as goal

pub loop-octet-preserved : goal.loop-octet-preserved
loop-octet-preserved c =
    let inv = c.loop-octet.invariant in
    digit_behind (said c.args.text) inv.0 (said c.loop-octet.rest) (said c.in-Some.others) c.in-Some.octet inv.1 inv.2
    c.in-Some.ensures.some (sym c.is_ascii_digit.ensures.value ∙ c.if-not-is_ascii_digit.false)

pub returns-in_default-clause-all : goal.returns-in_default-clause-all
returns-in_default-clause-all c = no_octet (said c.loop-octet.rest) c.in_default.ensures.none

pub returns-then-not-is_ascii_digit-clause-all : goal.returns-then-not-is_ascii_digit-clause-all
returns-then-not-is_ascii_digit-clause-all c = other_octet (said c.loop-octet.rest) (said c.in-Some.others) c.in-Some.octet
    c.in-Some.ensures.some (sym c.is_ascii_digit.ensures.value ∙ c.if-not-is_ascii_digit.true)
