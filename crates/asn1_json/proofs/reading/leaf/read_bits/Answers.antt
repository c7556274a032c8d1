use Rattle.std.proofs.Common.{◌≡◌, ◌∙◌, ap, sym, refl, subst, ℕ, Bool, ◌*◌, ◌-◌, List, [], length, take}
use Rattle.json.specs.Json.{Members, object}
use Rattle.json.specs.Value.{members_view, value_view}
use Rattle.json.proofs.Trees.{view-Object}
use Rattle.asn1_schema.specs.declared.schema.Kind.TheVariants as kinds
use Rattle.asn1_schema.specs.Grammar.{bits_in}
use Rattle.asn1_schema.specs.Values as values
use Rattle.asn1_json.specs.DenotedLeaves.{DenotesBits}
use Rattle.asn1_json.proofs.MadeLeaves.{put_leaf, no_leaf, some_is, none_is, same_members}
use Rattle.asn1_json.proofs.Unread.{no_object}
use Rattle.asn1_json.proofs.reading.leaf.read_bits.Goals as goal

pub returns-in-Some : goal.returns-in-Some
returns-in-Some c = λ named.
    let u = c.in-Some.unused in
    let bs : List ℕ → List Bool = λ o. take (8 * length o - u) (bits_in o) in
    let l = values.bits (bs c.deref-in-Some.result.now) in
    let j = value_view c.args.value.now in
    let ms = members_view c.deref.result.now in
    let is : j ≡ object ms = ap value_view c.in-Object.is ∙ view-Object c.in-Object.members ∙ ap (λ z. object (members_view z)) (sym c.deref.ensures.value) in
    let said = some_is _ _ c.in_ok-unused.field-0 (u, c.in-Some.octets) c.in-Some.is c.in_ok-unused.ensures in
    let same = ap bs (sym c.deref-in-Some.ensures.value) in
    put_leaf l [] (kinds.Bits named) j _ _ _ c.put.result (c.put.ensures l refl)
    (ms, bs c.in-Some.octets.items, is, said.0, ap values.bits (sym same))
    (λ m d has. d.4 ∙ ap values.bits (said.1 d.1 (subst (λ (x : Members). DenotesBits x d.1) (same_members d.0 ms (sym d.2 ∙ is)) d.3) ∙ same))

pub returns-in-None : goal.returns-in-None
returns-in-None c = λ named refused.
    let j = value_view c.args.value.now in
    let ms = members_view c.deref.result.now in
    let is : j ≡ object ms = ap value_view c.in-Object.is ∙ view-Object c.in-Object.members ∙ ap (λ z. object (members_view z)) (sym c.deref.ensures.value) in
    let none = none_is _ _ c.in_ok-unused.field-0 c.in-None.is c.in_ok-unused.ensures in
    no_leaf [] (kinds.Bits named) j _ (λ m d. none d.1 (subst (λ (x : Members). DenotesBits x d.1) (same_members d.0 ms (sym d.2 ∙ is)) d.3))

pub returns-in_default : goal.returns-in_default
returns-in_default c = λ named refused.
    no_leaf [] (kinds.Bits named) (value_view c.args.value.now) _ (λ m d. no_object c.args.value.now c.in_default.not-Object d.0 d.2)
