use Rattle.std.proofs.Common.{◌++◌, codes, refl, ap, ◌∙◌}
use Rattle.asn1_engine.specs.Trees.{sum_within}
use Rattle.asn1_words.specs.Words.{number_text}
use Rattle.asn1_typed.specs.Kinds.{named_text}
use Rattle.asn1_typed.specs.Refusals.{octet_text}
use Rattle.asn1_typed.specs.Strict.{IsDifferenceLine}
use Rattle.asn1_typed.proofs.Appended.{three, four}
use Rattle.asn1_typed.proofs.strict.push_difference.Goals as goal

pub returns : goal.returns
returns c =
    let input = c.args.input in
    let schema = c.args.schema.now in
    let front = c.in_ok-push_octet.ensures in
    let found = c.in_ok-push_number_and_names.ensures in
    let octet = front.1 ∙ ap (λ o. c.args.text.now.items ++ (octet_text input o ++ front.0)) c.place_of.ensures in
    let default = found.1 ∙
    ap (λ o. c.push_str-2.new.text.items ++ (number_text (sum_within input.offset o) ++ found.0)) c.place_of-2.ensures in
    let type = three _ _ _ _ _ _ _ octet c.in_ok-push_str.ensures c.in_ok-push_named.ensures in
    let line = octet_text input c.args.octet ++ front.0 ++ codes " (" ++ named_text 16 schema.nodes.items schema.names.items c.args.of ++
    codes "): the strict encoding of the value differs here; a default stands at octet " ++
    (number_text (sum_within input.offset c.default_at-found.result) ++ found.0) ++ codes "\n" in
    let told : IsDifferenceLine schema c.args.of input c.args.octet line = record {
      path = front.0;
      default = c.default_at-found.result;
      default_path = found.0;
      within = c.default_at-found.ensures;
      is = refl;
    } in
    (line, told, four _ _ _ _ _ _ _ _ _ type c.in_ok-push_str-2.ensures default c.in_ok-push_str-3.ensures)
