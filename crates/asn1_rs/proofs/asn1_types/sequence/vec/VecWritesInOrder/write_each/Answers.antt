use Rattle.asn1_rs.proofs.Lists.{slice_gives_items}
use Rattle.asn1_rs.proofs.asn1_types.sequence.vec.VecWritesInOrder.write_each.Goals as goal

pub returns-clause-wrote : goal.returns-clause-wrote
returns-clause-wrote g c =
    c.write_items.ensures.wrote c.args.self.now.items (slice_gives_items c.args.self.now.items (cc))

pub returns-clause-refused : goal.returns-clause-refused
returns-clause-refused g c =
    c.write_items.ensures.refused c.args.self.now.items (slice_gives_items c.args.self.now.items (cc))

pub returns-clause-accepted : goal.returns-clause-accepted
returns-clause-accepted g c =
    λ e. c.write_items.ensures.accepted c.args.self.now.items e (slice_gives_items c.args.self.now.items (cc))

pub returns-clause-uncounted : goal.returns-clause-uncounted
returns-clause-uncounted g c =
    λ e. c.write_items.ensures.uncounted c.args.self.now.items e (slice_gives_items c.args.self.now.items (cc))
