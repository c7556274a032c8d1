use Rattle.std.proofs.Common.{◌++◌, refl, subst}
use Rattle.std.specs.Prelude.{drop}
use Rattle.asn1_engine.specs.Trees.{IsFirstLine, sum_within}
use Rattle.asn1_typed.specs.Refusals.{IsToldRefusal}
use Rattle.asn1_typed.proofs.Appended.{two}
use Rattle.asn1_typed.proofs.refusals.push_refusal_and_element.Goals as goal

pub returns : goal.returns
returns c =
    let input = c.args.input in
    let refusal = c.args.refusal.now in
    let line = c.in_ok-push_refusal.ensures in
    let element = c.in_ok-push_first_line.ensures in
    let here = sum_within input.offset refusal.octet in
    let first : IsFirstLine 64 here (drop refusal.octet input.octets.now) element.0 =
    subst (λ o. IsFirstLine 64 here o element.0) c.behind-rest.ensures
    (subst (λ k. IsFirstLine 64 k c.behind-rest.result.now element.0) c.saturating_add-offset.ensures element.1) in
    let told : IsToldRefusal c.args.schema.now.nodes.items c.args.schema.now.names.items input refusal (line.0 ++ element.0) =
    record { line = line.0; is_line = line.1; element = element.0; is_element = first; is = refl } in
    (line.0 ++ element.0, told, two _ _ _ _ _ line.2 element.2)
