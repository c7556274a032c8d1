use Rattle.std.proofs.Common.{◌<◌, sym, subst, take, arith}
use Rattle.asn1_schema.specs.Grammar.{IsText}
use Rattle.asn1_schema.specs.Joined.{said}
use Rattle.asn1_schema.proofs.TextFronts.{front_none, front_less, front_more}
use Rattle.asn1_schema.proofs.texts.are_text.Goals as goal

pub returns-then-characters-eq0 : goal.returns-then-characters-eq0
returns-then-characters-eq0 c = (
  λ f. absurd (cc),
  λ a. absurd (front_none (IsText c.args.kind) (said c.loop-source.source)
      (take c.first_four-count.result.1 c.first_four-count.result.0) c.text_front-characters.result
      c.text_front-characters.ensures c.first_four-count.ensures.first (grind (arith, c.if-characters-eq0.true))
      (c.loop-source.invariant.less a)),
)

pub loop-source-preserved : goal.loop-source-preserved
loop-source-preserved c =
    let some : 0 < c.text_front-characters.result = grind (arith, c.if-characters-eq0.false) in
    let part = take c.first_four-count.result.1 c.first_four-count.result.0 in
    record {
      less = λ a. subst (IsText c.args.kind) (sym c.behind-source.ensures)
          (front_less (IsText c.args.kind) (said c.loop-source.source) part c.text_front-characters.result
          c.text_front-characters.ensures c.first_four-count.ensures.first some (c.loop-source.invariant.less a));
      more = λ a. c.loop-source.invariant.more
          (front_more (IsText c.args.kind) (said c.loop-source.source) part c.text_front-characters.result
          c.text_front-characters.ensures c.first_four-count.ensures.first some
          (subst (IsText c.args.kind) c.behind-source.ensures a));
    }
