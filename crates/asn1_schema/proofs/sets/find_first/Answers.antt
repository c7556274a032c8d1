use Rattle.std.proofs.Common.{◌≡◌, refl}
use Rattle.asn1_schema.specs.Reading.{rules_of, head_parts}
use Rattle.asn1_schema.proofs.Taken.{lawful_of, front_shorter}
use Rattle.asn1_schema.proofs.TakenSets.{first_found, first_further, first_missed}
use Rattle.asn1_schema.proofs.sets.find_first.Goals as goal

pub returns-then-is_tagged-clause-some : goal.returns-then-is_tagged-clause-some
returns-then-is_tagged-clause-some c = λ es j. first_found c.args.coding c.args.nodes.now c.args.of c.loop-tail.rest.now
    c.in-Some.tail.now c.in-Some.content.now c.in-Some.head es (c.loop-tail.invariant es j) c.in-Some.ensures.some
    (c.if-is_tagged.ensures.yes refl)

pub loop-tail-smaller : goal.loop-tail-smaller
loop-tail-smaller c = front_shorter (rules_of c.args.coding) (lawful_of c.args.coding) (λ p v. ⊥) c.loop-tail.rest.now
    c.in-Some.tail.now (head_parts c.in-Some.head c.in-Some.content.now) c.in-Some.ensures.some

pub loop-tail-preserved : goal.loop-tail-preserved
loop-tail-preserved c = λ es j. first_further c.args.coding c.args.nodes.now c.args.of c.loop-tail.rest.now
    c.in-Some.tail.now c.in-Some.content.now c.in-Some.head es (c.loop-tail.invariant es j) c.in-Some.ensures.some
    (λ h. let f = c.if-is_tagged.ensures.no h in absurd (cc))

pub returns-clause-none : goal.returns-clause-none
returns-clause-none c = λ es j. first_missed c.args.coding c.args.nodes.now c.args.of c.loop-tail.rest.now es
    (c.loop-tail.invariant es j) c.in_default.ensures.none
