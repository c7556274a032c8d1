use Rattle.std.proofs.Common.{rules, SFits}
use Rattle.std.specs.Int.{w128}
use Rattle.std.proofs.lemmas.Int.{to_z-of_z}
use Rattle.std.proofs.Common.{◌≤◌, drop, length-drop, arith}
use Rattle.std.proofs.lemmas.List.{take_all}
use Rattle.x690.specs.Signed.{signed_octets}
use Rattle.x690.specs.Laws.Signed.{signed_octets_content}
use Rattle.asn1_schema.specs.Tape.{leaf_mark}
use Rattle.asn1_json.proofs.ByKind.{none_of}
use Rattle.std.proofs.Common.{◌≡◌, ◌∙◌, ap, sym, refl, ℕ, ℤ, ◌-◌, length, take, Some}
use Rattle.x690.specs.Digits.{twos_complement_value}
use Rattle.json.specs.Json.{string}
use Rattle.asn1_schema.specs.declared.schema.Kind.TheVariants as kinds
use Rattle.asn1_schema.specs.Values.{LeafValue}
use Rattle.asn1_schema.specs.Values as values
use Rattle.asn1_json.specs.Types.{labels_at}
use Rattle.asn1_json.proofs.MadeLeaves.{put_leaf, no_leaf}
use Rattle.asn1_json.proofs.reading.leaf.read_name.Goals as goal

pub returns : goal.returns
returns c = λ numbers extensible.
    let n : ℤ = c.in-Some.number in
    let start : ℕ = c.signed_into-start.result in
    let out = c.signed_into-start.new.out in
    let fits : SFits w128 n = search rules in
    let named = sym c.number.ensures ∙ c.in-Some.is in
    let le : length (drop start out) ≤ 17 - start = omega (arith, length-drop start out, c.signed_into-start.array_long) in
    let octets : take (17 - start) (drop start out) ≡ signed_octets n = take_all (17 - start) (drop start out) le ∙ (simp to_z-of_z at c.signed_into-start.ensures.octets) in
    let said = ap twos_complement_value octets ∙ (signed_octets_content n).value in
    put_leaf (values.enumerated n) (labels_at c.args.by.types.names.now (Some c.args.at)) (kinds.Enumerated numbers extensible)
    (string c.args.name.now) _ _ _ c.put.result (c.put.ensures (values.enumerated n) (ap (λ (z : ℤ). leaf_mark (values.enumerated z)) said))
    (n, named, refl) (λ m d has. d.2 ∙ ap values.enumerated (let f = sym d.1 ∙ named in cc (f)))

pub returns-in_default : goal.returns-in_default
returns-in_default c = λ numbers extensible refused.
    no_leaf (labels_at c.args.by.types.names.now (Some c.args.at)) (kinds.Enumerated numbers extensible) (string c.args.name.now) _
    (λ m d. let f = sym (sym c.number.ensures ∙ none_of c.number.result c.in_default.not-Some) ∙ d.1 in absurd (cc (f)))
