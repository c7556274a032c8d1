use Rattle.std.proofs.Common.{refl}
use Rattle.asn1_schema.specs.Reading.{rules_of, head_parts}
use Rattle.asn1_schema.proofs.Taken.{tagged_apart, lawful_of}
use Rattle.asn1_schema.proofs.tagged.tagged_element.Goals as goal

pub returns-in_default-clause-none : goal.returns-in_default-clause-none
returns-in_default-clause-none c = λ b. c.in_default.ensures.none b.word b.rest b.parts b.is b.element

pub returns-then-not-is_tagged-clause-none : goal.returns-then-not-is_tagged-clause-none
returns-then-not-is_tagged-clause-none c = tagged_apart (rules_of c.args.coding) (lawful_of c.args.coding) c.args.nodes.now c.args.of
    c.args.octets.now c.in-Some.rest.now (head_parts c.in-Some.head c.in-Some.content.now) c.in-Some.ensures.some
    (λ h. let y = c.if-not-is_tagged.ensures.no h in absurd (cc))

pub returns-clause-tagged : goal.returns-clause-tagged
returns-clause-tagged c = c.if-not-is_tagged.ensures.yes refl
