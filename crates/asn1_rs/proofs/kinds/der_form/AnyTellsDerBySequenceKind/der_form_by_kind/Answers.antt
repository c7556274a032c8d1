use Rattle.asn1_rs.proofs.DerForm.{list_told}
use Rattle.asn1_rs.proofs.kinds.der_form.AnyTellsDerBySequenceKind.der_form_by_kind.Goals as goal

pub returns : goal.returns
returns g c = list_told g.T.Grammar.grammar.value g.T.Grammar.grammar.IsDer c.decide_each.result
    (g.L.Listed.items c.args.self.now) c.decide_each.ensures
