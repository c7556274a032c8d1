use Rattle.std.proofs.Common.{◌++◌, codes, refl, ap, ◌∙◌}
use Rattle.asn1_typed.specs.Kinds.{named_text}
use Rattle.asn1_typed.specs.Refusals.{octet_text}
use Rattle.asn1_typed.specs.Strict.{IsNoEncodingLine}
use Rattle.asn1_typed.proofs.Appended.{two, three}
use Rattle.asn1_typed.proofs.strict.push_no_encoding.Goals as goal

pub returns : goal.returns
returns c =
    let input = c.args.input in
    let schema = c.args.schema.now in
    let front = c.in_ok-push_octet.ensures in
    let octet = front.1 ∙ ap (λ o. c.args.text.now.items ++ (octet_text input o ++ front.0)) c.place_of.ensures in
    let type = three _ _ _ _ _ _ _ octet c.in_ok-push_str.ensures c.in_ok-push_named.ensures in
    let line = octet_text input c.in_ok-found.found ++ front.0 ++ codes " (" ++
    named_text 16 schema.nodes.items schema.names.items c.args.of ++
    codes "): the value has no strict encoding: a SET OF does not ascend\n" in
    let told : IsNoEncodingLine schema c.args.of input line = record {
      octet = c.in_ok-found.found;
      path = front.0;
      within = c.in_ok-found.ensures;
      is = refl;
    } in
    (line, told, two _ _ _ _ _ type c.in_ok-push_str-2.ensures)
