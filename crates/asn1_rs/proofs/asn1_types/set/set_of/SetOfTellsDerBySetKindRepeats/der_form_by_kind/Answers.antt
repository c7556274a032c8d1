use Rattle.asn1_rs.specs.Set.{items_of}
use Rattle.asn1_rs.proofs.DerForm.{multiset_told}
use Rattle.asn1_rs.proofs.asn1_types.set.set_of.SetOfTellsDerBySetKindRepeats.der_form_by_kind.Goals as goal

pub returns : goal.returns
returns g c = multiset_told g.T.Grammar.grammar.value g.T.Grammar.grammar.IsDer c.decide_each.result
    (items_of c.args.self.now) c.decide_each.ensures
