use Rattle.asn1_schema.specs.Joined.{said}
use Rattle.std.proofs.Common.{sym, ◌∙◌}
use Rattle.asn1_schema.proofs.MomentTexts.{digits_before, digits_only, digits_none, digits_empty}
use Rattle.asn1_schema.proofs.moments.behind_some_digits.Goals as goal

pub returns-then-not-is_ascii_digit-clause-only : goal.returns-then-not-is_ascii_digit-clause-only
returns-then-not-is_ascii_digit-clause-only c = λ rest n b. digits_none (said c.args.text) (said c.in-Some.others) c.in-Some.octet
    c.in-Some.ensures.some (sym c.is_ascii_digit.ensures.value ∙ c.if-not-is_ascii_digit.true) rest b

pub returns-else-not-is_ascii_digit-clause-some : goal.returns-else-not-is_ascii_digit-clause-some
returns-else-not-is_ascii_digit-clause-some c =
    let d = c.behind_digits.ensures.digits in
    digits_before (said c.args.text) (said c.in-Some.others) (said c.behind_digits.result) d.0 c.in-Some.octet
    c.in-Some.ensures.some (sym c.is_ascii_digit.ensures.value ∙ c.if-not-is_ascii_digit.false) d.1 d.2

pub returns-else-not-is_ascii_digit-clause-only : goal.returns-else-not-is_ascii_digit-clause-only
returns-else-not-is_ascii_digit-clause-only c = λ rest n b. digits_only (said c.args.text) (said c.in-Some.others)
    (said c.behind_digits.result) c.in-Some.octet c.in-Some.ensures.some
    (sym c.is_ascii_digit.ensures.value ∙ c.if-not-is_ascii_digit.false) c.behind_digits.ensures.digits
    c.behind_digits.ensures.all rest n b

pub returns-in-None-clause-only : goal.returns-in-None-clause-only
returns-in-None-clause-only c = λ rest n b. digits_empty (said c.args.text) rest c.in-None.ensures.none b
