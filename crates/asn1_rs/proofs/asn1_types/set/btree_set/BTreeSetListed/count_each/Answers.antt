use Rattle.asn1_rs.proofs.Lists.{keys_give_items}
use Rattle.asn1_rs.proofs.asn1_types.set.btree_set.BTreeSetListed.count_each.Goals as goal

pub returns-clause-count : goal.returns-clause-count
returns-clause-count g c =
    c.count_items.ensures.count c.args.self.now.keys (keys_give_items c.args.self.now.keys c.iter.ensures.rest)

pub returns-clause-refused : goal.returns-clause-refused
returns-clause-refused g c =
    c.count_items.ensures.refused c.args.self.now.keys (keys_give_items c.args.self.now.keys c.iter.ensures.rest)

pub returns-clause-accepted : goal.returns-clause-accepted
returns-clause-accepted g c = λ e.
    c.count_items.ensures.accepted c.args.self.now.keys e (keys_give_items c.args.self.now.keys c.iter.ensures.rest)
