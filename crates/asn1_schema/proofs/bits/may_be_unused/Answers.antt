use Rattle.std.proofs.Common.{sym, subst, arith}
use Rattle.asn1_schema.specs.declared.coding.Coding.{Coding}
use Rattle.asn1_schema.specs.Bits.{MayBeUnused}
use Rattle.asn1_schema.proofs.UnusedBits.{der_may, der_may_of, none_may}
use Rattle.asn1_schema.proofs.bits.may_be_unused.Goals as goal

pub returns-then-unused-eq0-clause-yes : goal.returns-then-unused-eq0-clause-yes
returns-then-unused-eq0-clause-yes c = λ y. none_may c.args.coding c.args.octets.now c.args.unused (grind (arith, c.if-unused-eq0.true))

pub returns-in-Der-clause-yes : goal.returns-in-Der-clause-yes
returns-in-Der-clause-yes c = λ y.
    subst (λ (z : Coding). MayBeUnused z c.args.unused c.args.octets.now) (sym c.in-Der.is)
    (der_may c.args.octets.now c.in-Some.field-0-1.now c.in-Some.last.now c.args.unused c.in-Some.ensures.cases.0
    (grind (arith, c.if-unused-gt7.false)) (c.ends_in_zeros.ensures.yes y))

pub returns-in-Der-clause-no : goal.returns-in-Der-clause-no
returns-in-Der-clause-no c = λ a. c.ends_in_zeros.ensures.no
    (der_may_of c.args.octets.now c.in-Some.field-0-1.now c.in-Some.last.now c.args.unused c.in-Some.ensures.cases.0
    (subst (λ (z : Coding). MayBeUnused z c.args.unused c.args.octets.now) c.in-Der.is a))
