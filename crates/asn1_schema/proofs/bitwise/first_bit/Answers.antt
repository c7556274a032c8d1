use Rattle.asn1_schema.specs.Tape.{marks}
use Rattle.asn1_schema.specs.Same.{all_bits_of}
use Rattle.asn1_schema.proofs.BitsLeft.{bit_taken}
use Rattle.asn1_schema.proofs.bitwise.first_bit.Goals as goal

pub returns-clause-bits : goal.returns-clause-bits
returns-clause-bits c =
    let x = c.args.source in
    bit_taken x.octets.now c.args.behind.now c.args.octet x.skip x.count c.is_bit_set-bit.result
    (all_bits_of (marks x.others.now)) c.requires.skip c.requires.some c.requires.first c.is_bit_set-bit.ensures
