use Rattle.std.proofs.Common.{◌∙◌, ◌∷◌}
use Rattle.asn1_rs.proofs.Lists.{keys_give_items}
use Rattle.asn1_rs.proofs.asn1_types.set.btree_set.BTreeSetWritesAscending.encode_each.Goals as goal

pub returns-clause-each : goal.returns-clause-each
returns-clause-each g c =
    c.encode_items.ensures.each c.args.self.now.keys (keys_give_items c.args.self.now.keys c.iter.ensures.rest)

pub returns-clause-refused : goal.returns-clause-refused
returns-clause-refused g c =
    c.encode_items.ensures.refused c.args.self.now.keys (keys_give_items c.args.self.now.keys c.iter.ensures.rest)

pub returns-clause-accepted : goal.returns-clause-accepted
returns-clause-accepted g c = λ e.
    c.encode_items.ensures.accepted c.args.self.now.keys e (keys_give_items c.args.self.now.keys c.iter.ensures.rest)

pub returns-clause-uncounted : goal.returns-clause-uncounted
returns-clause-uncounted g c = λ e.
    c.encode_items.ensures.uncounted c.args.self.now.keys e (keys_give_items c.args.self.now.keys c.iter.ensures.rest)

pub returns-clause-at_once : goal.returns-clause-at_once
returns-clause-at_once g c =
    λ x xs e is. c.encode_items.ensures.at_once x xs e (keys_give_items (x ∷ xs) (c.iter.ensures.rest ∙ is))
