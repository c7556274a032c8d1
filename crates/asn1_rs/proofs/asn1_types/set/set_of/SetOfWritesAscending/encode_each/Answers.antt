use Rattle.std.proofs.Common.{◌∷◌}
use Rattle.asn1_rs.proofs.Lists.{slice_gives_items}
use Rattle.asn1_rs.proofs.asn1_types.set.set_of.SetOfWritesAscending.encode_each.Goals as goal

pub returns-clause-each : goal.returns-clause-each
returns-clause-each g c =
    c.encode_items.ensures.each c.args.self.now.items.items (slice_gives_items c.args.self.now.items.items (cc))

pub returns-clause-refused : goal.returns-clause-refused
returns-clause-refused g c =
    c.encode_items.ensures.refused c.args.self.now.items.items (slice_gives_items c.args.self.now.items.items (cc))

pub returns-clause-accepted : goal.returns-clause-accepted
returns-clause-accepted g c = λ e.
    c.encode_items.ensures.accepted c.args.self.now.items.items e (slice_gives_items c.args.self.now.items.items (cc))

pub returns-clause-uncounted : goal.returns-clause-uncounted
returns-clause-uncounted g c = λ e.
    c.encode_items.ensures.uncounted c.args.self.now.items.items e (slice_gives_items c.args.self.now.items.items (cc))

pub returns-clause-at_once : goal.returns-clause-at_once
returns-clause-at_once g c = λ x xs e is. c.encode_items.ensures.at_once x xs e (slice_gives_items (x ∷ xs) (cc))
