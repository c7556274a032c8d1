use Rattle.std.proofs.Common.{◌≡◌, ◌-◌, ◌++◌, ◌∙◌, arith, ap, sym, refl, length, length-append, map, drop}
use Rattle.std.specs.List.{flat_map}
use Rattle.asn1_headers.specs.Laws.Prepending.{Prepended_all}
use Rattle.asn1_rs.specs.ToDer.{whole_octets, whole_refuses}
use Rattle.asn1_rs.proofs.Lists.{item_all}
use Rattle.asn1_rs.proofs.Prepending.{Prepended_item_err, VectorRefuses_item}
use Rattle.asn1_rs.proofs.asn1_types.lists.prepend_and_count.Goals as goal

pub returns-in-Err-clause-prepended : goal.returns-in-Err-clause-prepended
returns-in-Err-clause-prepended g c = λ t.
    let told = item_all (whole_octets g.T.ToDer.writing) c.args.items.now (c.loop-left.left - 1)
    c.index-items-left.result
    (omega arith) c.index-items-left.is g.T.ToDer.writing.tells t in
    Prepended_item_err (whole_octets g.T.ToDer.writing) c.args.items.now (c.loop-left.left - 1)
    c.index-items-left.result (omega arith) c.index-items-left.is c.loop-left.left (omega arith)
    (Prepended_all refl (c.loop-left.invariant.done t)) (c.in-Err.ensures.prepended told)

pub returns-in-Err-clause-refused : goal.returns-in-Err-clause-refused
returns-in-Err-clause-refused g c = λ t.
    let told = item_all (whole_octets g.T.ToDer.writing) c.args.items.now (c.loop-left.left - 1)
    c.index-items-left.result
    (omega arith) c.index-items-left.is g.T.ToDer.writing.tells t in
    VectorRefuses_item (whole_octets g.T.ToDer.writing) c.args.items.now (c.loop-left.left - 1)
    c.index-items-left.result
    (omega arith) c.index-items-left.is c.loop-left.left (omega arith) c.in-Err.e
    (whole_refuses g.T.ToDer.writing) (Prepended_all refl (c.loop-left.invariant.done t))
    (c.in-Err.ensures.refused told)

pub returns-clause-prepended : goal.returns-clause-prepended
returns-clause-prepended g c = λ t.
    let f = whole_octets g.T.ToDer.writing in
    let all : c.loop-left.left ≡ 0 = omega (arith, c.loop-left-test.false) in
    let put = c.loop-left.invariant.done t ∙ ap (λ k. flat_map f (drop k c.args.items.now) ++ c.args.buf.now) all in
    let long = ap length put ∙ length-append (flat_map f c.args.items.now) c.args.buf.now in
    Prepended_all {new = c.loop-left.buf} (omega (arith, long)) put

pub returns-clause-counted : goal.returns-clause-counted
returns-clause-counted g c = λ t.
    let f = whole_octets g.T.ToDer.writing in
    let all : c.loop-left.left ≡ 0 = omega (arith, c.loop-left-test.false) in
    ap (λ k. drop k c.loop-left.lengths) (sym all) ∙ c.loop-left.invariant.counted t
    ∙ ap (λ k. map length (map f (drop k c.args.items.now))) all
