use Rattle.asn1_rs_profiles.proofs.Comparing.{no_word, not_as_written}
use Rattle.asn1_rs_profiles.proofs.strict.read_as_written.Goals as goal

pub returns-in-Err-clause-exact : goal.returns-in-Err-clause-exact
returns-in-Err-clause-exact g c = no_word g.T.Grammar.grammar g.met.T.LawfulItem.lawful_item g.T.ToDer.writing
    c.args.octets.now c.in-Err.e c.in-Err.ensures.exact

pub returns-in-Err-compare-clause-exact : goal.returns-in-Err-compare-clause-exact
returns-in-Err-compare-clause-exact g c = not_as_written g.T.Grammar.grammar g.met.T.LawfulItem.lawful_item
    g.T.ToDer.writing c.args.octets.now c.in-Ok.value c.in-Ok.ensures.exact c.in-Err-compare.e c.in-Err-compare.ensures
