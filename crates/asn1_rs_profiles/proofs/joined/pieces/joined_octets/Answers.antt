use Rattle.std.proofs.Common.{◌∙◌, sym, arith}
use Rattle.asn1_headers.specs.Ber.{max_depth}
use Rattle.asn1_headers.specs.Elements.{element_parts}
use Rattle.asn1_rs_profiles.specs.Joined.Laws.{primitive_says}
use Rattle.asn1_rs_profiles.proofs.Joining.{whole_joined, whole_refused}
use Rattle.asn1_rs_profiles.proofs.joined.pieces.joined_octets.Goals as goal

pub returns-then-not-constructed : goal.returns-then-not-constructed
returns-then-not-constructed c =
    let bit = sym c.constructed.ensures ∙ c.if-not-constructed.true in
    let p = element_parts c.args.header.now c.args.content.now in
    (primitive_says max_depth p (λ e. absurd (omega (arith, e))) bit, λ e. tt)

pub returns-in-Ok : goal.returns-in-Ok
returns-in-Ok c =
    let bit = sym c.constructed.ensures ∙ c.if-not-constructed.false in (
      whole_joined (element_parts c.args.header.now c.args.content.now) c.new-joined.result.items
          c.push_pieces.new.joined.items bit c.new-joined.ensures.items c.in-Ok.ensures,
      λ e. absurd (cc),
    )

pub returns : goal.returns
returns c =
    let bit = sym c.constructed.ensures ∙ c.if-not-constructed.false in (
      bit,
      whole_refused (element_parts c.args.header.now c.args.content.now) c.new-joined.result.items
          c.push_pieces.new.joined.items bit c.in-Err.e c.in-Err.ensures,
    )
