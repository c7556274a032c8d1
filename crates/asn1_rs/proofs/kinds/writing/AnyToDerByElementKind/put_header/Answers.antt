use Rattle.std.proofs.Common.{false, ◌++◌, length}
use Rattle.asn1_rs.specs.Kinds.Writing.{universal_header}
use Rattle.asn1_rs.proofs.Refused.{counted_put, put_refuses, put_at_once, put_first}
use Rattle.asn1_rs.proofs.kinds.writing.AnyToDerByElementKind.put_header.Goals as goal

pub returns-clause-wrote : goal.returns-clause-wrote
returns-clause-wrote g c = λ _. rw (
  ← c.TAG-tag.ensures,
  ← c.is_container.ensures,
) (c.put_counted_header.ensures.wrote (length (g.T.WritesElement.octets c.args.self.now)) c.count_octets.ensures.count)

pub returns-clause-refused : goal.returns-clause-refused
returns-clause-refused g c = λ _.
    let octets = g.T.WritesElement.octets c.args.self.now in
    let header = universal_header (g.T.Tagged.TAG).0 octets in
    let own = g.T.WritesElement.refusal c.args.self.now in
    let is = g.T.WritesElement.is_refused c.args.self.now in
    put_refuses own is (length (header ++ octets)) _ _ c.put_counted_header.result (counted_put own is (length octets)
    (length (header ++ octets)) _ _ c.count_octets.result c.put_counted_header.result c.count_octets.ensures.refused
    (c.put_counted_header.ensures.why false header octets) c.put_counted_header.ensures.refused)

pub returns-clause-at_once : goal.returns-clause-at_once
returns-clause-at_once g c = λ e _ o.
    let octets = g.T.WritesElement.octets c.args.self.now in
    let header = universal_header (g.T.Tagged.TAG).0 octets in
    let own = g.T.WritesElement.refusal c.args.self.now in
    let is = g.T.WritesElement.is_refused c.args.self.now in
    put_at_once own is (length (header ++ octets)) _ _ c.put_counted_header.result (counted_put own is (length octets)
    (length (header ++ octets)) _ _ c.count_octets.result c.put_counted_header.result c.count_octets.ensures.refused
    (c.put_counted_header.ensures.why false header octets) c.put_counted_header.ensures.refused) e o

pub returns-clause-first : goal.returns-clause-first
returns-clause-first g c = λ e o.
    let octets = g.T.WritesElement.octets c.args.self.now in
    let header = universal_header (g.T.Tagged.TAG).0 octets in
    let own = g.T.WritesElement.refusal c.args.self.now in
    let is = g.T.WritesElement.is_refused c.args.self.now in
    put_first own is (length (header ++ octets)) _ _ c.put_counted_header.result (counted_put own is (length octets)
    (length (header ++ octets)) _ _ c.count_octets.result c.put_counted_header.result c.count_octets.ensures.refused
    (c.put_counted_header.ensures.why false header octets) c.put_counted_header.ensures.refused) e o
