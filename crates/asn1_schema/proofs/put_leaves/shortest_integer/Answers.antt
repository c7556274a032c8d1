use Rattle.asn1_schema.proofs.put_leaves.shortest_integer.Goals as goal

pub returns : goal.returns
returns c = record {
  octets = c.behind_redundant.ensures.octets;
  shortest = c.in_default.ensures.none c.loop-others.invariant.some;
  value = c.loop-others.invariant.same;
}
