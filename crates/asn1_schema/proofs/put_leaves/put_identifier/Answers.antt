use Rattle.std.proofs.Common.{rules, refl, ◌≡◌, ◌≢◌, subst, sym, ℕ, Bool, List, []}
use Rattle.x690.specs.Arcs.{AreShortest}
use Rattle.asn1_schema.specs.Values.{identifier, leaf}
use Rattle.asn1_schema.specs.declared.schema.Kind.TheVariants as kinds
use Rattle.asn1_schema.specs.Writing.{IsContentOfKind}
use Rattle.asn1_schema.proofs.WrittenLeaves.{leaf_written, no_leaf, refused, wrong_leaf}
use Rattle.asn1_schema.proofs.put_leaves.put_identifier.Goals as goal

same_content : (b : Bool) (x y : List ℕ) → leaf (identifier b x) ≡ leaf (identifier b y) → x ≡ y
same_content b x y e = cc

pub returns-then-not-are_shortest_arcs : goal.returns-then-not-are_shortest_arcs
returns-then-not-are_shortest_arcs c nodes depth =
    let P = IsContentOfKind nodes depth (kinds.Identifier c.args.relative) in
    refused P c.args.tape.now c.args.at c.args.buf.now
    (wrong_leaf P c.args.tape.now c.args.at (identifier c.args.relative c.in-Some.content.now) c.in-Some.ensures.1
    (λ o h. let same = same_content c.args.relative c.in-Some.content.now o h.0 in
    absurd (cc (
      c.if-not-are_shortest_arcs.true,
      c.are_shortest_arcs.ensures.1 (subst (λ (z : List ℕ). (z ≢ []) × AreShortest z)
          (sym same) (h.2, h.3)),
    ))))

pub returns-else-not-are_shortest_arcs : goal.returns-else-not-are_shortest_arcs
returns-else-not-are_shortest_arcs c nodes depth =
    leaf_written (IsContentOfKind nodes depth (kinds.Identifier c.args.relative)) c.args.tape.now c.args.at
    c.args.buf.now
    c.put_at.new.buf c.in-Some.content.now (identifier c.args.relative c.in-Some.content.now) c.put_at.result
    c.put_at.ensures.octets
    (let s = c.are_shortest_arcs.ensures.0 (search rules) in (refl, refl, s.0, s.1)) c.in-Some.ensures c.put_at.ensures.put

pub returns-in-None : goal.returns-in-None
returns-in-None c nodes depth = no_leaf (IsContentOfKind nodes depth (kinds.Identifier c.args.relative)) c.args.tape.now c.args.at
    (λ o. identifier c.args.relative o) (λ y. refl) (λ o v h. (o, h.0)) c.in-None.ensures c.args.buf.now
