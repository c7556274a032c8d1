use Rattle.asn1_rs.specs.Laws.Set.{distinct_pass}
use Rattle.asn1_rs.proofs.asn1_types.set.hash_set.HashSetHasMembers.members_pass.Goals as goal

pub returns : goal.returns
returns g c = distinct_pass g.T.PartialEq.eq c.args.self.now.keys c.len-count.ensures.unique
