use Rattle.std.proofs.Common.{rules}
use Rattle.asn1_rs.proofs.laws.functions.conversion_is_exact.Goals as goal

pub returns-clause-exact : goal.returns-clause-exact
returns-clause-exact g c = (g.met.T.LawfulBody c.lifetimes (search rules)).body_exact

pub returns-clause-asks_no_memory : goal.returns-clause-asks_no_memory
returns-clause-asks_no_memory g c =
    λ any e none gives. (g.met.T.LawfulBody c.lifetimes (search rules)).body_no_memory none any e gives
