use Rattle.std.proofs.Common.{sym, subst, refl}
use Rattle.asn1_schema.specs.declared.coding.Coding.{Coding}
use Rattle.asn1_schema.specs.Values.{any}
use Rattle.asn1_schema.specs.Reading.{rules_of, id_of, head_parts}
use Rattle.asn1_schema.proofs.Depths.{unless}
use Rattle.asn1_schema.proofs.any.any_item.Goals as goal

pub returns-in-Ok : goal.returns-in-Ok
returns-in-Ok c = λ nodes of d h. (
  any (id_of c.args.head) c.args.content.now,
  refl,
  (
    refl,
    subst (λ (z : Coding). (rules_of z).Inside d (head_parts c.args.head c.args.content.now)) (sym c.in-Der.is)
        (c.in-Ok.ensures.judges d h),
  ),
)

pub returns-in-Err : goal.returns-in-Err
returns-in-Err c = λ nodes of d h. unless c.in-Err.e _ _ (λ n v a. n
    (subst (λ (z : Coding). (rules_of z).Inside d (head_parts c.args.head c.args.content.now)) c.in-Der.is a.1))
    (c.in-Err.ensures.judges d h)

pub returns-in-Ber : goal.returns-in-Ber
returns-in-Ber c = λ nodes of d h. (
  any (id_of c.args.head) c.args.content.now,
  refl,
  (
    refl,
    subst (λ (z : Coding). (rules_of z).Inside d (head_parts c.args.head c.args.content.now)) (sym c.in-Ber.is) tt,
  ),
)
