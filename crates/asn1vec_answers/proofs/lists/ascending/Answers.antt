use Rattle.std.proofs.Common.{◌∙◌, sym, subst}
use Rattle.std.proofs.lemmas.Cmp.{int_cmp_total}
use Rattle.std.proofs.lemmas.Iterator.{items_from_drains}
use Rattle.std.proofs.lemmas.Iterator.Consumers.{YieldsList-from_copied, YieldsList-from_rest}
use Rattle.std.proofs.lemmas.List.{map-id}
use Rattle.std.proofs.lemmas.Map.Lookups.{exact_signed}
use Rattle.std.proofs.lemmas.Result.{IfOk-weaker}
use Rattle.std.specs.BTreeSet.{IsFromIterResult}
use Rattle.std.specs.Ordering.{int_cmp}
use Rattle.asn1vec_answers.proofs.InOrder.{collected_in_order}
use Rattle.asn1vec_answers.proofs.lists.ascending.Goals as goal

pub returns : goal.returns
returns c =
    let keys = c.args.set.now.keys in
    IfOk-weaker c.from_iter.result _ _ (λ w h.
    collected_in_order int_cmp int_cmp_total exact_signed keys w
    (subst (λ zs. IsFromIterResult int_cmp zs w)
    (sym (map-id h.1) ∙ items_from_drains h.1 h.3 (YieldsList-from_copied (YieldsList-from_rest keys cc))) h.4))
    c.from_iter.ensures.ran
