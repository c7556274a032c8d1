use Rattle.std.proofs.Common.{◌↔◌, sym, subst, IsTrue, List, ℕ}
use Rattle.asn1_schema.specs.declared.coding.Coding.{Coding}
use Rattle.asn1_schema.specs.Reading.{rules_of}
use Rattle.asn1_schema.specs.Rules.{IsTime}
use Rattle.asn1_schema.proofs.moments.is_time.Goals as goal

pub returns-in-Ber : goal.returns-in-Ber
returns-in-Ber c = subst (λ (e : Coding). IsTrue c.is_time_text.result ↔ (rules_of e).Time c.args.kind c.args.content.now)
    (sym c.in-Ber.is) (subst (λ (o : List ℕ). IsTrue c.is_time_text.result ↔ IsTime c.args.kind o) c.of_octets.ensures
    c.is_time_text.ensures)
