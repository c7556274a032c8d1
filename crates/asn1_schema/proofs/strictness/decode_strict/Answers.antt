use Rattle.std.proofs.Common.{arith, sym, ◌∙◌}
use Rattle.asn1_schema.specs.declared.strictness.NotStrict.TheVariants as errors
use Rattle.asn1_schema.proofs.SameErrors.{error_is}
use Rattle.asn1_schema.proofs.StrictIsBer.{strict_is_der}
use Rattle.asn1_schema.proofs.StrictWords.{none_by_der}
use Rattle.asn1_schema.proofs.strictness.decode_strict.Goals as goal

pub returns-in-Err-clause-not_strict : goal.returns-in-Err-clause-not_strict
returns-in-Err-clause-not_strict c some v w =
    none_by_der c.args.table.now c.requires c.args.depth c.args.of c.args.octets.now c.in-Err.error
    (λ z. some (c.not_der.ensures.memory z)) c.in-Err.ensures.fails c.in-Err.ensures.trailing v
    (strict_is_der c.args.table.now c.args.depth c.args.depth c.args.of (omega arith) c.args.octets.now v w)

pub returns-in-Err-clause-not_der : goal.returns-in-Err-clause-not_der
returns-in-Err-clause-not_der c e is =
    let told = error_is {T = Unit {0}} c.not_der.result (errors.NotDer e) is in
    none_by_der c.args.table.now c.requires c.args.depth c.args.of c.args.octets.now c.in-Err.error
    (λ z. let f = sym (c.not_der.ensures.memory z) ∙ told in absurd (cc (f))) c.in-Err.ensures.fails
    c.in-Err.ensures.trailing
