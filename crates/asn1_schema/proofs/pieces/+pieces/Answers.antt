use Rattle.std.proofs.Common.{rules, ◌≡◌, ◌∙◌, refl, ◌-◌, ◌<◌, arith, length}
use Rattle.std.proofs.lemmas.Bool.{not-true, not-false}
use Rattle.asn1_schema.specs.Reading.{rules_of, head_parts}
use Rattle.asn1_schema.specs.Pieces.{string_of, IsPiece, ArePieces}
use Rattle.asn1_schema.proofs.Depths.{least, fault_least, within}
use Rattle.asn1_schema.proofs.Taken.{lawful_of, front_shorter}
use Rattle.asn1_schema.proofs.TakenPieces.{pieces_allowed, string_none, string_primitive, string_content, string_pieces, pieces_of_string, pieces_map, no_piece_yet, none_follows, piece_more, piece_refused, no_piece, pieces_done}
use Rattle.asn1_schema.proofs.pieces.+pieces.Goals as goal

pub read_piece-returns-then-depth-eq0 : goal.read_piece-returns-then-depth-eq0
read_piece-returns-then-depth-eq0 t c = λ d h xs a. string_none (rules_of c.args.coding)
    (string_of c.args.coding c.args.sort) d (head_parts c.args.head c.args.content.now) xs
    (grind (arith, c.if-depth-eq0.true, h)) a.1

pub read_piece-returns-then-not-head : goal.read_piece-returns-then-not-head
read_piece-returns-then-not-head t c = λ d h.
    let l = least c.args.depth c.put_piece.result d h in
    let S = string_of c.args.coding c.args.sort in
    let p = head_parts c.args.head c.args.content.now in
    let class : c.args.head.class ≡ 0 = grind (arith, c.if-head-ne0.false) in
    let number : c.args.head.number ≡ c.piece_number.result = grind (arith, c.if-head-piece_number.false) in
    let primitive = not-true c.args.head.constructed c.if-not-head.true in
    pieces_map c.args.coding c.args.sort (S.Content c.args.content.now) (IsPiece c.args.coding S d p)
    (λ xs a. (
      (class, number ∙ c.piece_number.ensures c.args.coding),
      string_primitive (rules_of c.args.coding) S d p xs (grind (arith, c.if-depth-eq0.false, l)) primitive a,
    ))
    (λ xs a. string_content (rules_of c.args.coding) S d p xs primitive a.1)
    c.args.tape.now.items c.put_piece.new.tape.items c.put_piece.result c.put_piece.ensures

pub read_piece-returns-in-Ber : goal.read_piece-returns-in-Ber
read_piece-returns-in-Ber t c = λ d h.
    let l = least c.args.depth c.read_pieces.result d h in
    let S = string_of c.args.coding c.args.sort in
    let p = head_parts c.args.head c.args.content.now in
    let class : c.args.head.class ≡ 0 = grind (arith, c.if-head-ne0.false) in
    let number : c.args.head.number ≡ c.piece_number.result = grind (arith, c.if-head-piece_number.false) in
    let constructed = not-false c.args.head.constructed c.if-not-head.false in
    pieces_map c.args.coding c.args.sort (ArePieces c.args.coding S (d - 1) c.args.content.now)
    (IsPiece c.args.coding S d p)
    (λ xs a. (
      (class, number ∙ c.piece_number.ensures c.args.coding),
      string_pieces c.args.coding S d p xs (grind (arith, c.if-depth-eq0.false, l))
          (pieces_allowed c.args.coding c.in-Ber.field-0 c.in-Ber.is) constructed a,
    ))
    (λ xs a. (pieces_of_string c.args.coding S d p xs constructed a.1).1)
    c.args.tape.now.items c.read_pieces.new.tape.items c.read_pieces.result
    (c.read_pieces.ensures (d - 1) (within c.args.depth c.read_pieces.result d (grind (arith, c.if-depth-eq0.false)) h))

pub read_pieces-loop-rest-init : goal.read_pieces-loop-rest-init
read_pieces-loop-rest-init t c = λ d l. no_piece_yet c.args.coding c.args.sort
    (ArePieces c.args.coding (string_of c.args.coding c.args.sort) d c.args.content.now) c.args.content.now
    c.args.tape.now.items

pub read_pieces-returns-then-not-whole : goal.read_pieces-returns-then-not-whole
read_pieces-returns-then-not-whole t c = λ d h. none_follows c.args.coding c.args.sort d
    (ArePieces c.args.coding (string_of c.args.coding c.args.sort) d c.args.content.now) c.loop-rest.rest.now
    c.loop-rest.whole c.args.tape.now.items c.loop-rest.tape.items
    (c.loop-rest.invariant d h) (λ e. let f = c.loop-rest-test.ensures.no e in absurd (cc))
    (λ f. let n = c.if-not-whole.true in absurd (cc))

pub read_pieces-returns-in_default : goal.read_pieces-returns-in_default
read_pieces-returns-in_default t c = λ d h. no_piece c.args.coding c.args.sort d
    (ArePieces c.args.coding (string_of c.args.coding c.args.sort) d c.args.content.now) c.loop-rest.rest.now
    c.loop-rest.whole c.args.tape.now.items c.loop-rest.tape.items
    (c.loop-rest.invariant d h) (λ e. let f = c.loop-rest-test.ensures.no e in absurd (cc)) c.in_default.ensures.none

pub read_pieces-loop-rest-smaller : goal.read_pieces-loop-rest-smaller
read_pieces-loop-rest-smaller t c =
    let l : length c.in-Some.tail.now < length c.loop-rest.rest.now = front_shorter (rules_of c.args.coding)
    (lawful_of c.args.coding) (λ p v. Unit {0}) c.loop-rest.rest.now c.in-Some.tail.now
    (head_parts c.in-Some.head c.in-Some.inner.now) c.in-Some.ensures.some in
    search rules

pub read_pieces-loop-rest-preserved : goal.read_pieces-loop-rest-preserved
read_pieces-loop-rest-preserved t c = λ d l. piece_more c.args.coding c.args.sort d
    (ArePieces c.args.coding (string_of c.args.coding c.args.sort) d c.args.content.now) c.loop-rest.rest.now
    c.loop-rest.whole c.args.tape.now.items c.loop-rest.tape.items
    (c.loop-rest.invariant d l) c.in-Some.tail.now (head_parts c.in-Some.head c.in-Some.inner.now) c.in-Ok.may_follow
    c.read_piece.new.tape.items c.if-not-whole.false c.in-Some.ensures.some (c.in-Ok.ensures d l)

pub read_pieces-returns-in-Err : goal.read_pieces-returns-in-Err
read_pieces-returns-in-Err t c = λ d h. piece_refused c.args.coding c.args.sort d
    (ArePieces c.args.coding (string_of c.args.coding c.args.sort) d c.args.content.now) c.loop-rest.rest.now
    c.loop-rest.whole c.args.tape.now.items c.loop-rest.tape.items
    (c.loop-rest.invariant d (fault_least c.args.depth c.in-Err.e d h)) c.in-Some.tail.now (head_parts c.in-Some.head c.in-Some.inner.now)
    c.read_piece.new.tape.items c.in-Err.e (λ e. let f = c.loop-rest-test.ensures.no e in absurd (cc))
    c.in-Some.ensures.some (c.in-Err.ensures d h)

pub read_pieces-returns : goal.read_pieces-returns
read_pieces-returns t c = λ d h. pieces_done c.args.coding c.args.sort d
    (ArePieces c.args.coding (string_of c.args.coding c.args.sort) d c.args.content.now) c.loop-rest.rest.now
    c.loop-rest.whole c.args.tape.now.items c.loop-rest.tape.items
    (c.loop-rest.invariant d h) (c.loop-rest-test.ensures.yes refl)
