use Rattle.std.proofs.Common.{sym, ◌∙◌}
use Rattle.asn1_schema.proofs.tagged.is_tagged.Goals as goal

pub returns-in-Some-clause-yes : goal.returns-in-Some-clause-yes
returns-in-Some-clause-yes c = λ h. record { node = c.in-Some.node.now; found = c.in-Some.ensures.some; tagged = sym c.has_a_tag.ensures ∙ h }
