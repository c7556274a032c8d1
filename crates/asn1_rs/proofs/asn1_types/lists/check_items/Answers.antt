use Rattle.asn1_rs.proofs.Lists.{checked_push, checked_end, checked_all, checked_less, some_octets}
use Rattle.asn1_rs.proofs.asn1_types.lists.check_items.Goals as goal

pub loop-left-preserved : goal.loop-left-preserved
loop-left-preserved g c = checked_push g.T.CheckDerConstraints.check_gives c.args.content.now c.loop-left.left.now
    c.in-Ok.rest.now (some_octets c.loop-left.left.now c.is_empty.result c.loop-left-test.true c.is_empty.ensures)
    c.loop-left.invariant c.in-Ok.ensures

pub loop-left-smaller : goal.loop-left-smaller
loop-left-smaller g c = checked_less g.T.CheckDerConstraints.check_gives c.loop-left.left.now c.in-Ok.rest.now
    c.in-Ok.ensures.0 c.in-Ok.ensures.1

pub returns-in-Err : goal.returns-in-Err
returns-in-Err g c = checked_end g.T.CheckDerConstraints.check_gives c.args.content.now c.loop-left.left.now c.in-Err.e
    (some_octets c.loop-left.left.now c.is_empty.result c.loop-left-test.true c.is_empty.ensures) c.loop-left.invariant
    c.in-Err.ensures

pub returns : goal.returns
returns g c = checked_all g.T.CheckDerConstraints.check_gives c.args.content.now c.loop-left.left.now c.is_empty.result
    c.loop-left-test.false c.is_empty.ensures c.loop-left.invariant
