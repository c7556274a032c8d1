use Rattle.asn1_rs.proofs.Lists.{slice_gives_items}
use Rattle.asn1_rs.proofs.asn1_types.sequence.vec.VecListed.count_each.Goals as goal

pub returns-clause-count : goal.returns-clause-count
returns-clause-count g c =
    c.count_items.ensures.count c.args.self.now.items (slice_gives_items c.args.self.now.items (cc))

pub returns-clause-refused : goal.returns-clause-refused
returns-clause-refused g c =
    c.count_items.ensures.refused c.args.self.now.items (slice_gives_items c.args.self.now.items (cc))

pub returns-clause-accepted : goal.returns-clause-accepted
returns-clause-accepted g c =
    λ e. c.count_items.ensures.accepted c.args.self.now.items e (slice_gives_items c.args.self.now.items (cc))
