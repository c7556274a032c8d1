use Rattle.std.proofs.Common.{refl}
use Rattle.x690.specs.Digits.{twos_complement_value}
use Rattle.asn1_schema.specs.Values.{integer}
use Rattle.asn1_schema.specs.declared.schema.Kind.TheVariants as kinds
use Rattle.asn1_schema.specs.Writing.{IsContentOfKind}
use Rattle.asn1_schema.proofs.WrittenLeaves.{leaf_written, no_leaf}
use Rattle.asn1_schema.proofs.put_leaves.put_integer.Goals as goal

pub returns-in-Some : goal.returns-in-Some
returns-in-Some c nodes depth =
    let n = twos_complement_value c.in-Some.octets.now in
    leaf_written (IsContentOfKind nodes depth kinds.Integer) c.args.tape.now c.args.at c.args.buf.now
    c.put_at.new.buf c.shortest_integer.result.now (integer n) c.put_at.result c.put_at.ensures.octets
    (n, refl, refl, c.shortest_integer.ensures) c.in-Some.ensures c.put_at.ensures.put

pub returns-in-None : goal.returns-in-None
returns-in-None c nodes depth = no_leaf (IsContentOfKind nodes depth kinds.Integer) c.args.tape.now c.args.at
    integer (λ y. refl) (λ o v h. (h.0, h.1)) c.in-None.ensures c.args.buf.now
