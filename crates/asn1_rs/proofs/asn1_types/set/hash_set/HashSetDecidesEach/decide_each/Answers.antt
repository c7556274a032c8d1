use Rattle.asn1_rs.proofs.Lists.{keys_give_items}
use Rattle.asn1_rs.proofs.asn1_types.set.hash_set.HashSetDecidesEach.decide_each.Goals as goal

pub returns : goal.returns
returns g c = c.decide_items.ensures c.args.self.now.keys (keys_give_items c.args.self.now.keys c.iter.ensures.rest)
