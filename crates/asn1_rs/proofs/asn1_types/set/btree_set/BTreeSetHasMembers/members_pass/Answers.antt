use Rattle.asn1_rs.specs.Laws.Set.{ascending_pass}
use Rattle.asn1_rs.proofs.asn1_types.set.btree_set.BTreeSetHasMembers.members_pass.Goals as goal

pub returns : goal.returns
returns g c = ascending_pass g.T.Ord.cmp g.T.PartialEq.eq g.met.T.Ord.matches_eq c.args.self.now.keys c.len-count.ensures.ordered
