use Rattle.std.proofs.Common.{sym, subst}
use Rattle.asn1_schema.specs.declared.coding.Coding.{Coding}
use Rattle.asn1_schema.specs.Reading.{rules_of}
use Rattle.asn1_schema.specs.Decoding.{TellsMissing, IsTruncatedByCoding}
use Rattle.asn1_schema.proofs.missing.missing_octets.Goals as goal

pub returns-in-Der : goal.returns-in-Der
returns-in-Der c =
    subst (λ (z : Coding). TellsMissing (rules_of z).ElementOf (IsTruncatedByCoding z c.args.octets.now) c.args.octets.now c.der_missing.result)
    (sym c.in-Der.is) c.der_missing.ensures

pub returns-in-Ber : goal.returns-in-Ber
returns-in-Ber c =
    subst (λ (z : Coding). TellsMissing (rules_of z).ElementOf (IsTruncatedByCoding z c.args.octets.now) c.args.octets.now c.ber_missing.result)
    (sym c.in-Ber.is) c.ber_missing.ensures
