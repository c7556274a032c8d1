use Rattle.std.proofs.Common.{refl, []}
use Rattle.x690.specs.Laws.Octets.{below_octets}
use Rattle.asn1_schema.specs.Values.{null}
use Rattle.asn1_schema.specs.declared.schema.Kind.TheVariants as kinds
use Rattle.asn1_schema.specs.Writing.{IsContentOfKind}
use Rattle.asn1_schema.proofs.WrittenLeaves.{leaf_written, no_leaf}
use Rattle.asn1_schema.proofs.put_leaves.put_null.Goals as goal

pub returns-in-Some : goal.returns-in-Some
returns-in-Some c nodes depth =
    leaf_written (IsContentOfKind nodes depth kinds.Null) c.args.tape.now c.args.at c.args.buf.now
    c.put_at.new.buf [] null c.put_at.result (below_octets [] tt) (refl, refl, refl) c.in-Some.ensures c.put_at.ensures.put

pub returns-in-None : goal.returns-in-None
returns-in-None c nodes depth = no_leaf (IsContentOfKind nodes depth kinds.Null) c.args.tape.now c.args.at
    (λ (u : Unit {0}). null) (λ y. refl) (λ o v h. (tt, h.0)) c.in-None.ensures c.args.buf.now
