use Rattle.asn1_schema.proofs.Appended.{appended_to_none}
use Rattle.asn1_json.proofs.reading.made_from.Goals as goal

pub returns-in-Ok-clause-ok : goal.returns-in-Ok-clause-ok
returns-in-Ok-clause-ok c = (
  c.in-Ok.ensures.kept,
  appended_to_none c.new-made.result c.read_value.new.made _ c.new-made.ensures c.in-Ok.ensures.put,
  c.in-Ok.ensures.denotes,
)
