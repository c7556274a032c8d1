use Rattle.asn1_module.proofs.Ends.{end_of_end, end_behind, nothing_ends, put_behind}
use Rattle.asn1_module.proofs.tokens.push_tokens.Goals as goal

pub returns-then-matches : goal.returns-then-matches
returns-then-matches c = λ texts own found same all.
    put_behind texts own _ _ _ _ _ _ _ c.in_ok-push.ensures.items c.loop.invariant.ends c.in_ok-token.ensures.parts
    c.in_ok-token.ensures.place c.in_ok-token.ensures.text found same (c.loop.invariant.kept texts own found same all)

pub loop-preserved : goal.loop-preserved
loop-preserved c = record {
  ends = end_of_end c.args.text.now c.loop.rest.now c.in_ok-token.tail.now c.loop.invariant.ends
      (end_behind c.loop.rest.now _ c.in_ok-token.tail.now c.in_ok-token.ensures.parts);
  kept = λ texts own found same all.
      put_behind texts own _ _ _ _ _ _ _ c.in_ok-push.ensures.items c.loop.invariant.ends c.in_ok-token.ensures.parts
      c.in_ok-token.ensures.place c.in_ok-token.ensures.text found same (c.loop.invariant.kept texts own found same all);
}

pub returns : goal.returns
returns c = λ texts own found same all.
    put_behind texts own _ c.args.text.now _ _ _ _ _ c.in_ok-push-2.ensures.items (nothing_ends c.args.text.now)
    c.in_ok-token-2.ensures.parts c.in_ok-token-2.ensures.place c.in_ok-token-2.ensures.text found same
    (c.loop.invariant.kept texts own found same all)
