use Rattle.std.proofs.Common.{sym, ap, ◌∙◌, List, ℕ, drop}
use Rattle.std.proofs.lemmas.List.{drop-drop}
use Rattle.asn1_schema.specs.Joined.{said}
use Rattle.asn1_schema.proofs.joined.behind.Goals as goal

pub loop-preserved : goal.loop-preserved
loop-preserved c = ap (λ (z : List ℕ). drop 1 z) (sym c.in-Some.ensures.some)
    ∙ ap (λ (z : List ℕ). drop 1 z) c.loop.invariant ∙ drop-drop 1 c.loop.counter (said c.args.source)
