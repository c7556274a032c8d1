use Rattle.std.proofs.Common.{◌≡◌, ◌-◌, sym, subst, refl, arith, length}
use Rattle.x690.specs.Identifiers.{Identifier}
use Rattle.asn1_schema.specs.Rules.{IsTagBefore}
use Rattle.asn1_schema.specs.Reading.{id_of, head_parts}
use Rattle.asn1_schema.proofs.Lawful.{der_lawful}
use Rattle.asn1_schema.specs.Rules.{der}
use Rattle.asn1_schema.proofs.Taken.{front_shorter}
use Rattle.asn1_schema.proofs.Settled.{not_one, one_id, no_room, room_before, room_further, room_at_end, room_size}
use Rattle.asn1_schema.proofs.settling.room_for.Goals as goal

pub returns-in_default-clause-room : goal.returns-in_default-clause-room
returns-in_default-clause-room c = λ e es d j t all ta up. absurd (not_one c.args.one.now e c.in_default.ensures.none d)

pub returns-then-is_tag_before-clause-room : goal.returns-then-is_tag_before-clause-room
returns-then-is_tag_before-clause-room c = λ e es d j t.
    let i = one_id c.args.one.now c.in-Some.field-0-0.now e (head_parts c.in-Some.head c.in-Some.field-0-2.now)
    c.in-Some.ensures.some d in
    let s = c.loop-tail.invariant.so_far e es i j in
    room_before e es c.args.others.now c.loop-tail.left.now c.in-Some-element.tail.now
    (head_parts c.in-Some-element.next c.in-Some-element.field-0-2.now)
    (length c.args.others.now - length c.loop-tail.left.now) s t
    (room_size e es c.args.others.now c.loop-tail.left.now s) c.in-Some-element.ensures.some
    (subst (λ (z : Identifier). IsTagBefore z (id_of c.in-Some-element.next)) (sym i) (c.if-is_tag_before.ensures.yes refl))

pub returns-then-not-is_tag_before-clause-room : goal.returns-then-not-is_tag_before-clause-room
returns-then-not-is_tag_before-clause-room c = λ e es d j t.
    let i = one_id c.args.one.now c.in-Some.field-0-0.now e (head_parts c.in-Some.head c.in-Some.field-0-2.now)
    c.in-Some.ensures.some d in
    no_room e es c.args.others.now c.loop-tail.left.now c.in-Some-element.tail.now
    (head_parts c.in-Some-element.next c.in-Some-element.field-0-2.now) (c.loop-tail.invariant.so_far e es i j)
    c.in-Some-element.ensures.some
    (λ b. let f = c.if-is_tag_before.ensures.no
    (subst (λ (z : Identifier). IsTagBefore z (id_of c.in-Some-element.next)) i b) in absurd (cc))
    (λ b. let f = c.if-not-is_tag_before.ensures.no
    (subst (λ (z : Identifier). IsTagBefore (id_of c.in-Some-element.next) z) i b) in absurd (cc))

pub loop-tail-preserved : goal.loop-tail-preserved
loop-tail-preserved c =
    let shorter = front_shorter der der_lawful (λ p v. ⊥) c.loop-tail.left.now c.in-Some-element.tail.now
    (head_parts c.in-Some-element.next c.in-Some-element.field-0-2.now) c.in-Some-element.ensures.some in
    let w = c.loop-tail.invariant.within in
    record {
      within = omega (arith, shorter, w);
      so_far = λ e es i j. room_further e es c.args.others.now c.loop-tail.left.now c.in-Some-element.tail.now
          (head_parts c.in-Some-element.next c.in-Some-element.field-0-2.now) (c.loop-tail.invariant.so_far e es i j)
          c.in-Some-element.ensures.some
          (subst (λ (z : Identifier). IsTagBefore (id_of c.in-Some-element.next) z) (sym i)
          (c.if-not-is_tag_before.ensures.yes refl));
    }

pub returns-clause-room : goal.returns-clause-room
returns-clause-room c = λ e es d j t.
    let i = one_id c.args.one.now c.in-Some.field-0-0.now e (head_parts c.in-Some.head c.in-Some.field-0-2.now)
    c.in-Some.ensures.some d in
    let s = c.loop-tail.invariant.so_far e es i j in
    room_at_end e es c.args.others.now c.loop-tail.left.now (length c.args.others.now - length c.loop-tail.left.now) s t
    (room_size e es c.args.others.now c.loop-tail.left.now s) c.in_default-element.ensures.none
