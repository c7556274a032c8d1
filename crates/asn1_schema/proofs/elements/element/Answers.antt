use Rattle.std.proofs.Common.{sym, subst}
use Rattle.std.specs.Prelude.{IfNone}
use Rattle.asn1_schema.specs.declared.coding.Coding.{Coding}
use Rattle.asn1_schema.specs.Reading.{rules_of}
use Rattle.x690.specs.Joined.{NoPrefix}
use Rattle.asn1_schema.proofs.elements.element.Goals as goal

pub returns-in-Der-clause-none : goal.returns-in-Der-clause-none
returns-in-Der-clause-none c = subst (λ (z : Coding). IfNone c.der_element.result (NoPrefix (rules_of z).ElementOf c.args.octets.now))
    (sym c.in-Der.is) c.der_element.ensures.none

pub returns-in-Ber-clause-none : goal.returns-in-Ber-clause-none
returns-in-Ber-clause-none c = subst (λ (z : Coding). IfNone c.ber_element.result (NoPrefix (rules_of z).ElementOf c.args.octets.now))
    (sym c.in-Ber.is) c.ber_element.ensures.none
