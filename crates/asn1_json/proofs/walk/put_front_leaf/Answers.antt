use Rattle.std.proofs.Common.{◌≡◌, ◌∙◌, ap, ◌<◌, List, ◌++◌, length, length-append, arith}
use Rattle.std.proofs.lemmas.Bool.Decides.{nat_tests}
use Rattle.asn1_schema.specs.Values.{LeafValue}
use Rattle.asn1_schema.specs.declared.tape.Item.{Item}
use Rattle.asn1_json.specs.Leaves.{leaf_tokens}
use Rattle.asn1_json.specs.Types.{labels_at}
use Rattle.asn1_json.specs.Tokens.{given_types}
use Rattle.asn1_json.proofs.Pieces.{some_marks}
use Rattle.asn1_json.proofs.walk.put_front_leaf.Goals as goal

pub returns-clause-tokens : goal.returns-clause-tokens
returns-clause-tokens g c = λ kept rest l at v.
    let labels = labels_at (given_types c.args.types).names c.args.at in
    c.in_ok-put_leaf.ensures
    ∙ ap (λ (x : LeafValue). g.W.TokenWriter.written c.args.out.now ++ leaf_tokens labels x)
    (c.pieces_of.ensures kept l (c.split_value.ensures.value kept rest at) v)

pub returns-clause-shorter : goal.returns-clause-shorter
returns-clause-shorter g c =
    let value = c.split_value.result.0.now in
    let behind = c.split_value.result.1.now in
    let some : 0 < length value = grind (arith, nat_tests) in
    let all = ap (λ (x : List Item). length x) c.split_value.ensures.joined ∙ length-append value behind in
    omega (arith, some, all)

pub returns-then-is_empty-clause-none : goal.returns-then-is_empty-clause-none
returns-then-is_empty-clause-none g c = λ _ kept rest at.
    let none : length c.split_value.result.0.now ≡ 0 = grind (arith, nat_tests) in
    some_marks kept c.split_value.result.0.now none (c.split_value.ensures.value kept rest at)
