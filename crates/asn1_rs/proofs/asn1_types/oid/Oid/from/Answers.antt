use Rattle.std.proofs.Common.{◌++◌, ◌∙◌, ap, ℕ, List}
use Rattle.std.specs.Cow.{cow_slice_items}
use Rattle.x690.specs.Arcs.{subidentifier_octets}
use Rattle.x690.specs.Strict.{tag_digits}
use Rattle.asn1_rs.specs.Laws.Oid.Making.{absolute_made}
use Rattle.asn1_rs.proofs.asn1_types.oid.Oid.from.Goals as goal

pub returns : goal.returns
returns c =
    let first = c.in_ok-first.first in
    let more = c.in_ok-first.more.now in
    let front = c.in_ok-push_subidentifier.ensures
    ∙ ap (λ (xs : List ℕ). xs ++ tag_digits first) c.in_ok-octets.ensures.items in
    let octets = c.in_ok-push_subidentifiers.ensures ∙ ap (λ (xs : List ℕ). xs ++ subidentifier_octets more) front in
    absolute_made c.args.s.now first more c.new.result c.in_ok-first.ensures.joined.0 c.in_ok-first.ensures.joined.1
    c.new.ensures.kind (ap cow_slice_items c.new.ensures.octets ∙ octets)
