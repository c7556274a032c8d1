use Rattle.std.proofs.Common.{◌-◌, arith, inl, refl}
use Rattle.asn1_rs.specs.ToDer.{whole_octets, whole_refuses}
use Rattle.asn1_rs.proofs.Lists.{item_all}
use Rattle.asn1_rs.proofs.Prepending.{Prepended_item_err, Prepended_item_sum, VectorRefuses_item}
use Rattle.asn1_rs.proofs.Prepending.{MayRefuse_item_sum_back}
use Rattle.asn1_rs.proofs.asn1_types.lists.prepend_items.Goals as goal

pub returns-in-Err-clause-prepended : goal.returns-in-Err-clause-prepended
returns-in-Err-clause-prepended g c = λ t.
    let told = item_all (whole_octets g.T.ToDer.writing) c.args.items.now (c.loop-at.at - 1) c.index-items-at.result
    (omega arith) c.index-items-at.is g.T.ToDer.writing.tells t in
    Prepended_item_err (whole_octets g.T.ToDer.writing) c.args.items.now (c.loop-at.at - 1) c.index-items-at.result
    (omega arith) c.index-items-at.is c.loop-at.at (omega arith) (c.loop-at.invariant.done t)
    (c.in-Err.ensures.prepended told)

pub returns-in-Err-clause-refused : goal.returns-in-Err-clause-refused
returns-in-Err-clause-refused g c = λ t.
    let told = item_all (whole_octets g.T.ToDer.writing) c.args.items.now (c.loop-at.at - 1) c.index-items-at.result
    (omega arith) c.index-items-at.is g.T.ToDer.writing.tells t in
    VectorRefuses_item (whole_octets g.T.ToDer.writing) c.args.items.now (c.loop-at.at - 1) c.index-items-at.result
    (omega arith) c.index-items-at.is c.loop-at.at (omega arith) c.in-Err.e
    (whole_refuses g.T.ToDer.writing) (c.loop-at.invariant.done t) (c.in-Err.ensures.refused told)

pub returns-in-None-clause-prepended : goal.returns-in-None-clause-prepended
returns-in-None-clause-prepended g c = λ t.
    let told = item_all (whole_octets g.T.ToDer.writing) c.args.items.now (c.loop-at.at - 1) c.index-items-at.result
    (omega arith) c.index-items-at.is g.T.ToDer.writing.tells t in
    Prepended_item_sum (whole_octets g.T.ToDer.writing) c.args.items.now (c.loop-at.at - 1) c.index-items-at.result
    (omega arith) c.index-items-at.is c.loop-at.at (omega arith) (c.loop-at.invariant.done t)
    (c.in-Ok.ensures.prepended told) (refl, omega (arith, c.in-None.ensures))

pub returns-in-None-clause-refused : goal.returns-in-None-clause-refused
returns-in-None-clause-refused g c = λ t.
    let told = item_all (whole_octets g.T.ToDer.writing) c.args.items.now (c.loop-at.at - 1) c.index-items-at.result
    (omega arith) c.index-items-at.is g.T.ToDer.writing.tells t in
    inl (MayRefuse_item_sum_back (whole_octets g.T.ToDer.writing) c.args.items.now (c.loop-at.at - 1)
    c.index-items-at.result
    (omega arith) c.index-items-at.is c.loop-at.at (omega arith) _
    (c.loop-at.invariant.done t) (c.in-Ok.ensures.prepended told)
    (refl, omega (arith, c.in-None.ensures)))
