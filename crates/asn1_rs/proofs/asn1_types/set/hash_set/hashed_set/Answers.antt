use Rattle.std.proofs.Common.{rules, ◌≡◌, ◌∙◌, sym, subst, length}
use Rattle.std.proofs.lemmas.List.{map-id}
use Rattle.std.specs.HashSet.{IsFromIterResult as IsHashedOf}
use Rattle.std.proofs.lemmas.Iterator.{items_from_drains}
use Rattle.std.proofs.lemmas.Iterator.Adapters.{YieldsList-from_vec}
use Rattle.asn1_rs.proofs.Sets.{if_ok}
use Rattle.asn1_rs.proofs.asn1_types.set.hash_set.hashed_set.Goals as goal

pub returns : goal.returns
returns g c =
    let len : c.args.items.len ≡ length c.args.items.items = search rules in
    if_ok c.from_iter.result (λ w h.
    subst (λ zs. IsHashedOf g.T.PartialEq.eq zs w)
    (sym (map-id h.1) ∙ items_from_drains h.1 h.3 (YieldsList-from_vec c.args.items.items h.2.0 (h.2.1 ∙ len))) h.4)
    c.from_iter.ensures.ran
