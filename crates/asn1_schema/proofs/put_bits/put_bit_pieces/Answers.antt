use Rattle.std.proofs.Common.{refl}
use Rattle.asn1_schema.proofs.WrittenBits.{bit_pieces_put}
use Rattle.asn1_schema.proofs.put_bits.put_bit_pieces.Goals as goal

pub returns-in-Ok : goal.returns-in-Ok
returns-in-Ok c = bit_pieces_put c.args.tape.now c.args.start c.args.end (record { number = 0; count = c.in-Some.unused })
    c.in-Ok.field-0 c.args.buf.now c.push_pieces.new.buf c.put.new.buf c.put.result c.in-Some.ensures.some refl
    c.in-Ok.ensures c.put.ensures.ok c.put.ensures.err c.put.ensures.octets
