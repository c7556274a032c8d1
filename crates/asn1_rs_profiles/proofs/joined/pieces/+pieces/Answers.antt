use Rattle.std.proofs.Common.{rules, ◌<◌, ◌∙◌, refl, arith, length}
use Rattle.asn1_rs_profiles.proofs.Joining.{all_appended, joins_constructed, joins_primitive, next_refused}
use Rattle.asn1_rs_profiles.proofs.Joining.{none_appended, none_next, one_appended, piece_shorter, too_deep}
use Rattle.asn1_rs_profiles.proofs.joined.pieces.+pieces.Goals as goal

pub push_piece-returns-then-depth-eq0 : goal.push_piece-returns-then-depth-eq0
push_piece-returns-then-depth-eq0 t c = λ p k is. too_deep c.args.depth p c.args.content.now c.args.joined.now.items
    c.args.joined.now.items is (omega (arith, c.if-depth-eq0.true))

pub push_piece-returns-then-constructed : goal.push_piece-returns-then-constructed
push_piece-returns-then-constructed t c = λ p k is. joins_constructed c.args.depth p c.args.content.now
    c.args.joined.now.items c.push_pieces.new.joined.items is c.push_pieces.result
    (λ e. absurd (omega (arith, e, c.if-depth-eq0.false))) (k ∙ c.if-constructed.true) c.push_pieces.ensures

pub push_piece-returns : goal.push_piece-returns
push_piece-returns t c = λ p k is. joins_primitive c.args.depth p c.args.content.now
    c.args.joined.now.items c.push_octets.new.joined.items is c.push_octets.result
    (λ e. absurd (omega (arith, e, c.if-depth-eq0.false))) (k ∙ c.if-constructed.false) c.push_octets.ensures

pub push_pieces-loop-rest-init : goal.push_pieces-loop-rest-init
push_pieces-loop-rest-init t c = none_appended c.args.depth c.args.content.now c.args.joined.now.items

pub push_pieces-returns-in_default : goal.push_pieces-returns-in_default
push_pieces-returns-in_default t c = none_next c.args.depth c.args.content.now c.args.joined.now.items
    c.loop-rest.rest.now c.loop-rest.joined.items c.loop-rest.joined.items c.loop-rest.invariant
    (λ e. let f = c.loop-rest-test.ensures.no e in absurd (cc)) c.in_default.ensures.none

pub push_pieces-returns-in-Err : goal.push_pieces-returns-in-Err
push_pieces-returns-in-Err t c = let b = c.in-Some.ensures.some in
    next_refused c.args.depth c.args.content.now c.args.joined.now.items c.loop-rest.rest.now c.loop-rest.joined.items
    c.loop-rest.invariant c.in-Some.constructed c.in-Some.inner.now c.in-Some.tail.now b
    c.push_piece.new.joined.items c.in-Err.e (λ e. let f = c.loop-rest-test.ensures.no e in absurd (cc))
    (c.in-Err.ensures b.parts b.bit b.inner)

pub push_pieces-loop-rest-smaller : goal.push_pieces-loop-rest-smaller
push_pieces-loop-rest-smaller t c =
    let l : length c.in-Some.tail.now < length c.loop-rest.rest.now = piece_shorter c.loop-rest.rest.now
    c.in-Some.constructed c.in-Some.inner.now c.in-Some.tail.now c.in-Some.ensures.some in
    search rules

pub push_pieces-loop-rest-preserved : goal.push_pieces-loop-rest-preserved
push_pieces-loop-rest-preserved t c = let b = c.in-Some.ensures.some in
    one_appended c.args.depth c.args.content.now c.args.joined.now.items c.loop-rest.rest.now c.loop-rest.joined.items
    c.loop-rest.invariant c.in-Some.constructed c.in-Some.inner.now c.in-Some.tail.now b
    c.push_piece.new.joined.items (c.in-Ok.ensures b.parts b.bit b.inner)

pub push_pieces-returns : goal.push_pieces-returns
push_pieces-returns t c = all_appended c.args.depth c.args.content.now c.args.joined.now.items c.loop-rest.rest.now
    c.loop-rest.joined.items c.loop-rest.invariant (c.loop-rest-test.ensures.yes refl)
