use Rattle.asn1_rs.proofs.laws.functions.check_is_exact.Goals as goal

pub returns-clause-exact : goal.returns-clause-exact
returns-clause-exact g c = g.met.T.LawfulCheck.checks.exact

pub returns-clause-asks_no_memory : goal.returns-clause-asks_no_memory
returns-clause-asks_no_memory g c = g.met.T.LawfulCheck.checks.asks_no_memory
