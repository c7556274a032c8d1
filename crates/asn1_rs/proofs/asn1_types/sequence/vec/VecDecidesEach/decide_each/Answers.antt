use Rattle.asn1_rs.proofs.Lists.{slice_gives_items}
use Rattle.asn1_rs.proofs.asn1_types.sequence.vec.VecDecidesEach.decide_each.Goals as goal

pub returns : goal.returns
returns g c = c.decide_items.ensures c.args.self.now.items (slice_gives_items c.args.self.now.items (cc))
