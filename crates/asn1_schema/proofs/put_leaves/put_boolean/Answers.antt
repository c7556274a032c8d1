use Rattle.std.proofs.Common.{refl, [], ◌∷◌}
use Rattle.asn1_schema.specs.Values.{boolean}
use Rattle.asn1_schema.specs.declared.schema.Kind.TheVariants as kinds
use Rattle.asn1_schema.specs.Writing.{IsContentOfKind}
use Rattle.asn1_schema.proofs.WrittenLeaves.{leaf_written, no_leaf}
use Rattle.asn1_schema.proofs.put_leaves.put_boolean.Goals as goal

pub returns-in-Some : goal.returns-in-Some
returns-in-Some c nodes depth = leaf_written (IsContentOfKind nodes depth kinds.Boolean) c.args.tape.now c.args.at c.args.buf.now
    c.put_at.new.buf (c.truth_octet.result ∷ []) (boolean c.in-Some.value) c.put_at.result
    c.put_at.ensures.octets (c.in-Some.value, refl, refl, c.truth_octet.ensures) c.in-Some.ensures c.put_at.ensures.put

pub returns-in-None : goal.returns-in-None
returns-in-None c nodes depth = no_leaf (IsContentOfKind nodes depth kinds.Boolean) c.args.tape.now c.args.at
    boolean (λ y. refl) (λ o v h. (h.0, h.1)) c.in-None.ensures c.args.buf.now
