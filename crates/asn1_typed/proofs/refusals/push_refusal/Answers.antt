use Rattle.std.proofs.Common.{◌++◌, codes, refl, ap, ◌∙◌}
use Rattle.asn1_typed.specs.Kinds.{named_text}
use Rattle.asn1_typed.specs.Refusals.{octet_text, reason_text}
use Rattle.asn1_typed.proofs.Appended.{two, three}
use Rattle.asn1_typed.proofs.refusals.push_refusal.Goals as goal

pub returns : goal.returns
returns c =
    let table = c.args.schema.now.nodes.items in
    let names = c.args.schema.now.names.items in
    let refusal = c.args.refusal.now in
    let front = c.in_ok-push_octet.ensures in
    let type = three _ _ _ _ _ _ _ front.1 c.in_ok-push_str.ensures c.in_ok-push_named.ensures in
    let why = three _ _ _ _ _ _ _ type c.in_ok-push_str-2.ensures
    (c.in_ok-push_str-3.ensures ∙ ap (λ l. c.push_str-2.new.text.items ++ l) c.reason_words.ensures) in (
      octet_text c.args.input refusal.octet ++ front.0 ++ codes " (" ++ named_text 16 table names refusal.of ++ codes "): " ++
          reason_text refusal.reason ++ codes "\n",
      (front.0, refl),
      two _ _ _ _ _ why c.in_ok-push_str-4.ensures,
    )
