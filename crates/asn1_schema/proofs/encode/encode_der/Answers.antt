use Rattle.std.proofs.Common.{arith}
use Rattle.asn1_schema.specs.declared.encode.EncodeError.TheVariants as errors
use Rattle.asn1_schema.specs.Grammar.{Word}
use Rattle.asn1_schema.specs.Rules.{strict}
use Rattle.asn1_schema.proofs.SameErrors.{error_is}
use Rattle.asn1_schema.proofs.WrittenTapes.{more_in_front, tape_refused}
use Rattle.asn1_schema.proofs.encode.encode_der.Goals as goal

pub returns-else-rest-eq0-clause-refused : goal.returns-else-rest-eq0-clause-refused
returns-else-rest-eq0-clause-refused c is =
    let some = c.if-rest-eq0.false in
    more_in_front (Word strict c.args.table.now c.args.depth c.args.of) c.args.tape.now c.args.buf.now c.put_value.new.buf
    c.in-Ok.rest c.in-Ok.ensures (λ z. absurd (grind (arith, some, z)))

pub returns-in-Err-clause-refused : goal.returns-in-Err-clause-refused
returns-in-Err-clause-refused c is =
    tape_refused (Word strict c.args.table.now c.args.depth c.args.of) c.args.tape.now c.args.buf.now c.put_value.new.buf
    c.in-Err.fault c.in-Err.ensures (c.error_of.ensures (error_is {T = Unit {0}} c.error_of.result errors.Refused is))
