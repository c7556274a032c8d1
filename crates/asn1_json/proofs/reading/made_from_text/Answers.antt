use Rattle.std.proofs.Common.{◌≡◌, sym, subst, List}
use Rattle.json.specs.Value.{value_view}
use Rattle.asn1_schema.specs.declared.schema.Node.{Node}
use Rattle.asn1_schema.specs.declared.names.TypeNames.{TypeNames}
use Rattle.asn1_schema.specs.Tape.{value_of}
use Rattle.asn1_json.specs.Denotes.{Denotes}
use Rattle.asn1_json.proofs.ByKind.{if_ok}
use Rattle.asn1_json.proofs.reading.made_from_text.Goals as goal

pub returns-in-Ok-clause-ok : goal.returns-in-Ok-clause-ok
returns-in-Ok-clause-ok c = if_ok _ _ c.made_from.result (λ made k. record {
  json = value_view c.in-Ok.value;
  kept = k.0;
  utf8 = c.utf8.text;
  is = c.in-Ok.ensures.ok;
  denotes = subst (λ (t : List Node). Denotes (record { table = t; names = c.args.schema.now.names.items }) c.args.depth 129 c.args.of (value_view c.in-Ok.value) (value_of k.0))
      c.as_slice-table.ensures.value
      (subst (λ (n : List TypeNames). Denotes (record { table = c.as_slice-table.result.now; names = n }) c.args.depth 129 c.args.of (value_view c.in-Ok.value) (value_of k.0))
      c.as_slice-names.ensures.value k.2);
  tape = k.1;
}) c.made_from.ensures.ok
