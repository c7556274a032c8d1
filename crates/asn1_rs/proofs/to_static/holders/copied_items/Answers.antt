use Rattle.std.proofs.Common.{◌≡◌, ◌+◌, ◌∙◌, sym, ap, arith, ℕ, suc, take, [], ◌∷◌, ◌++◌}
use Rattle.std.proofs.Math.Seq.{take-suc}
use Rattle.asn1_rs.proofs.OneItemMore.{zip_push}
use Rattle.asn1_rs.proofs.to_static.holders.copied_items.Goals as goal

pub loop-item-preserved : goal.loop-item-preserved
loop-item-preserved g c =
    let i = c.loop-item.item-index in
    let items = c.args.items.now in
    let one : i + 1 ≡ suc i = omega arith in
    let next : take (i + 1) items ≡ take i items ++ c.item-item.result ∷ [] =
    ap (λ (n : ℕ). take n items) one ∙ take-suc items i c.item-item.result c.loop-item-test.true
    ∙ ap (λ x. take i items ++ x ∷ []) (sym c.item-item.is) in
    rw (next, c.in-Ok.ensures.items) (zip_push g.T.ToStatic.copies (take i items) c.loop-item.copies.items
    c.item-item.result c.in_ok-copy.copy c.loop-item.invariant c.in_ok-copy.ensures.copied)
