use Rattle.std.proofs.Common.{◌++◌, ◌∙◌, ◌==◌, ap, sym, ℕ, List, length}
use Rattle.std.specs.Cow.{cow_slice_items}
use Rattle.std.proofs.lemmas.Bool.{false≢true}
use Rattle.x690.specs.Arcs.{subidentifier_octets}
use Rattle.asn1_rs.specs.Laws.Oid.Making.{relative_made}
use Rattle.asn1_rs.proofs.asn1_types.oid.Oid.from_relative.Goals as goal

pub returns : goal.returns
returns c =
    let arcs = c.args.s.now in
    let octets = c.in_ok-push_subidentifiers.ensures
    ∙ ap (λ (xs : List ℕ). xs ++ subidentifier_octets arcs) c.in_ok-octets.ensures.items in
    relative_made arcs c.new_relative.result
    (λ e. false≢true (sym c.if-is_empty.false ∙ c.is_empty.ensures ∙ ap (λ (xs : List ℕ). length xs == 0) e))
    c.new_relative.ensures.kind (ap cow_slice_items c.new_relative.ensures.octets ∙ octets)
