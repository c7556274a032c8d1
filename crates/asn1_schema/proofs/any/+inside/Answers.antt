use Rattle.std.proofs.Common.{refl, ◌-◌, arith}
use Rattle.std.proofs.lemmas.Bool.{not-true, not-false}
use Rattle.asn1_schema.specs.Reading.{head_parts}
use Rattle.asn1_schema.specs.Rules.{IsStrictInside}
use Rattle.asn1_schema.proofs.Depths.{unless, least, fault_least, within, admits_map}
use Rattle.asn1_schema.proofs.AnyParts.{AreStrict, inside_primitive, inside_none, inside_made, inside_of, strict_end, strict_more, strict_less, strict_none}
use Rattle.asn1_schema.proofs.any.+inside.Goals as goal

pub judge_inside-returns-then-not-head-clause-judges : goal.judge_inside-returns-then-not-head-clause-judges
judge_inside-returns-then-not-head-clause-judges t c = λ d h. inside_primitive d (head_parts c.args.head c.args.content.now)
    (not-true c.args.head.constructed c.if-not-head.true)

pub judge_inside-returns-then-depth-eq0-clause-judges : goal.judge_inside-returns-then-depth-eq0-clause-judges
judge_inside-returns-then-depth-eq0-clause-judges t c = λ d h. inside_none d (head_parts c.args.head c.args.content.now)
    (grind (arith, c.if-depth-eq0.true, h)) (not-false c.args.head.constructed c.if-not-head.false)

pub judge_inside-returns-clause-judges : goal.judge_inside-returns-clause-judges
judge_inside-returns-clause-judges t c = λ d h.
    let p = head_parts c.args.head c.args.content.now in
    let l = least c.args.depth c.judge_elements.result d h in
    admits_map (AreStrict (d - 1) c.args.content.now) (IsStrictInside d p)
    (inside_made d p (grind (arith, c.if-depth-eq0.false, l)))
    (inside_of d p (not-false c.args.head.constructed c.if-not-head.false)) c.judge_elements.result
    (c.judge_elements.ensures.judges (d - 1) (within c.args.depth c.judge_elements.result d (grind (arith, c.if-depth-eq0.false)) h))

pub judge_elements-returns-in_default-clause-judges : goal.judge_elements-returns-in_default-clause-judges
judge_elements-returns-in_default-clause-judges t c = λ d h a. absurd (strict_none d c.loop-rest.rest.now
    (λ e. let f = c.loop-rest-test.ensures.no e in absurd (cc)) c.in_default.ensures.none (c.loop-rest.invariant.down d h a))

pub judge_elements-returns-in-Err-clause-judges : goal.judge_elements-returns-in-Err-clause-judges
judge_elements-returns-in-Err-clause-judges t c = λ d h.
    let p = head_parts c.in-Some.head c.in-Some.content.now in
    let l = fault_least c.args.depth c.in-Err.e d h in
    unless c.in-Err.e _ _ (λ n a. n (strict_less d c.loop-rest.rest.now c.in-Some.tail.now p
    c.in-Some.ensures.some (c.loop-rest.invariant.down d l a)).1) (c.in-Err.ensures.judges d h)

pub judge_elements-returns-clause-judges : goal.judge_elements-returns-clause-judges
judge_elements-returns-clause-judges t c = λ d h. c.loop-rest.invariant.up d h (strict_end d c.loop-rest.rest.now (c.loop-rest-test.ensures.yes refl))

pub judge_elements-loop-rest-preserved : goal.judge_elements-loop-rest-preserved
judge_elements-loop-rest-preserved t c = record {
  up = λ d l a. c.loop-rest.invariant.up d l (strict_more d c.loop-rest.rest.now c.in-Some.tail.now
      (head_parts c.in-Some.head c.in-Some.content.now) c.in-Some.ensures.some (c.in-Ok.ensures.judges d l) a);
  down =
      λ d l a. (strict_less d c.loop-rest.rest.now c.in-Some.tail.now (head_parts c.in-Some.head c.in-Some.content.now)
      c.in-Some.ensures.some (c.loop-rest.invariant.down d l a)).0;
}
