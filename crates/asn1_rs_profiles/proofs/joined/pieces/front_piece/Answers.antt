use Rattle.x690.specs.Laws.Nested.Faults.{element_or_fault}
use Rattle.asn1_headers.specs.Ber.{max_depth}
use Rattle.asn1_headers.specs.Elements.{element_parts}
use Rattle.asn1_rs_profiles.proofs.Joining.{other_tag}
use Rattle.asn1_rs_profiles.proofs.joined.pieces.front_piece.Goals as goal

pub returns-then-not-is_piece-clause-none : goal.returns-then-not-is_piece-clause-none
returns-then-not-is_piece-clause-none c = other_tag c.args.octets.now c.in-Ok.rest.now
    (element_parts c.in-Ok.header c.in-Ok.content.now) c.in-Ok.ensures.gives.front
    (λ tag. let yes = c.has_piece_tag-is_piece.ensures.1 tag in let no = c.if-not-is_piece.true in absurd (cc))

pub returns-clause-none : goal.returns-clause-none
returns-clause-none c = λ word rest p is a tag.
    element_or_fault max_depth c.args.octets.now word rest p a.0 c.in-Err.ensures.gives.0 c.in-Err.ensures.gives.1 a.1
    is
