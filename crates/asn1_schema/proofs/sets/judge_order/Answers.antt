use Rattle.std.proofs.Common.{◌≡◌, refl}
use Rattle.asn1_schema.specs.Reading.{rules_of, head_parts}
use Rattle.asn1_schema.proofs.Taken.{lawful_of, front_shorter}
use Rattle.asn1_schema.proofs.TakenSets.{order_truncated, order_broken, order_further}
use Rattle.asn1_schema.proofs.sets.judge_order.Goals as goal

pub returns-in_default-clause-no : goal.returns-in_default-clause-no
returns-in_default-clause-no c = λ a. absurd (order_truncated c.args.coding c.args.octets.now c.loop-rest.last c.loop-rest.rest.now
    c.loop-rest.invariant c.in_default.ensures.none (λ e. let f = c.loop-rest-test.ensures.no e in absurd (cc)) a)

pub returns-then-not-may_follow-clause-no : goal.returns-then-not-may_follow-clause-no
returns-then-not-may_follow-clause-no c = λ a. absurd (order_broken c.args.coding c.args.octets.now c.loop-rest.last
    c.loop-rest.rest.now c.in-Some.tail.now c.in-Some._content.now c.in-Some.head c.loop-rest.invariant
    c.in-Some.ensures.some (λ m. let f = c.if-not-may_follow.ensures.no m in absurd (cc)) a)

pub loop-rest-smaller : goal.loop-rest-smaller
loop-rest-smaller c = front_shorter (rules_of c.args.coding) (lawful_of c.args.coding) (λ p v. ⊥) c.loop-rest.rest.now
    c.in-Some.tail.now (head_parts c.in-Some.head c.in-Some._content.now) c.in-Some.ensures.some

pub loop-rest-preserved : goal.loop-rest-preserved
loop-rest-preserved c = order_further c.args.coding c.args.octets.now c.loop-rest.last c.loop-rest.rest.now
    c.in-Some.tail.now c.in-Some._content.now c.in-Some.head c.loop-rest.invariant c.in-Some.ensures.some
    (c.if-not-may_follow.ensures.yes refl)
