use Rattle.std.proofs.Common.{subst, arith, refl, ◌<◌, ◌^◌}
use Rattle.asn1_headers.specs.declared.tag.Tag.{Tag}
use Rattle.asn1_headers.specs.Header.{identifier_of}
use Rattle.x690.specs.Strict.{element_octets}
use Rattle.asn1vec_answers.proofs.ShownLaws.{strict_element}
use Rattle.asn1vec_answers.proofs.any.AnyEncoded.is_told.Goals as goal

pub returns-clause-written : goal.returns-clause-written
returns-clause-written c = λ none few.
    let number : c.tag-number.result.0 < 2 ^ 32 = omega (arith, c.tag-number.type_inv) in
    let strict = strict_element c.args.self.now (subst (λ (t : Tag). t.0 < 2 ^ 32) c.tag-number.ensures number)
    c.are_octets.ensures.each c.are_octets.ensures.counted in
    (element_octets (identifier_of c.args.self.now.header) c.args.self.now.content.now, strict, (few, refl))

pub returns-clause-refused : goal.returns-clause-refused
returns-clause-refused c = λ e may io.
    let number : c.tag-number.result.0 < 2 ^ 32 = omega (arith, c.tag-number.type_inv) in
    let strict = strict_element c.args.self.now (subst (λ (t : Tag). t.0 < 2 ^ 32) c.tag-number.ensures number)
    c.are_octets.ensures.each c.are_octets.ensures.counted in
    (element_octets (identifier_of c.args.self.now.header) c.args.self.now.content.now, strict, (may, io))
