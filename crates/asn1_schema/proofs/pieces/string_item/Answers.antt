use Rattle.std.proofs.Common.{refl}
use Rattle.asn1_schema.specs.Pieces.{leaf_of}
use Rattle.asn1_schema.proofs.pieces.string_item.Goals as goal

pub returns-in_default : goal.returns-in_default
returns-in_default c = λ v b. c.in_default.ensures.none b.0 b.2

pub returns-then-not-is_said : goal.returns-then-not-is_said
returns-then-not-is_said c = λ v b.
    let yes = (c.is_said.ensures b.0 b.2).1 b.3 in
    let no = c.if-not-is_said.true in
    absurd (cc)

pub returns : goal.returns
returns c =
    let a = c.in-Some.ensures.some in
    (leaf_of c.args.sort a.said, a.is, (a.said, refl, a.content, (c.is_said.ensures a.said a.content).0 c.if-not-is_said.false))
