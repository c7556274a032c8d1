use Rattle.std.proofs.Common.{◌≡◌, sym, subst, refl, ◌+◌, ◌-◌, List, length, take, drop, arith}
use Rattle.std.specs.Prelude.{map}
use Rattle.std.proofs.lemmas.List.{length-map}
use Rattle.asn1_schema.specs.declared.tape.Item.{Item}
use Rattle.asn1_schema.specs.declared.coding.Coding.TheVariants as codings
use Rattle.asn1_schema.specs.Tape.{mark, marks}
use Rattle.asn1_schema.specs.Pieces.{Elem, string_of, piece_mark, ArePieces, IsSaid, IsConstructedOf}
use Rattle.asn1_schema.proofs.Depths.{least}
use Rattle.asn1_schema.proofs.TakenPieces.{closed_read, pieces_refused, one_string, pieces_behind, place_of_pieces}
use Rattle.asn1_schema.proofs.pieces.read_constructed.Goals as goal

pub returns-in-Err-read_pieces : goal.returns-in-Err-read_pieces
returns-in-Err-read_pieces c = λ d h.
    let e = codings.Ber c.args.max in
    pieces_refused e c.args.sort (Unit {0}) (IsConstructedOf e c.args.sort d c.args.content.now)
    (ArePieces e (string_of e c.args.sort) d c.args.content.now) (λ v a. (a.0, a.2)) c.args.tape.now.items
    c.put_item.new.tape.items c.read_pieces.new.tape.items c.read_pieces.new.tape.items c.in-Err-read_pieces.e
    (c.in-Err-read_pieces.ensures d h)

pub close_pieces-requires : goal.close_pieces-requires
close_pieces-requires c =
    let a = c.in-Ok-read_pieces.ensures c.args.depth (omega arith) in
    place_of_pieces c.args.sort c.args.tape.now.items c.put_item.new.tape.items c.read_pieces.new.tape.items a.pieces
    c.len-place.result (omega (arith, c.len-place.ensures)) c.in-Ok.ensures.ok a.is

pub returns-then-not-are_said : goal.returns-then-not-are_said
returns-then-not-are_said c = λ d h v b.
    let e = codings.Ber c.args.max in
    let a = c.in-Ok-read_pieces.ensures d h in
    let here = subst (λ (z : List Item). marks (take (length z - (c.len-place.result + 1)) (drop (c.len-place.result + 1) z))
    ≡ map (piece_mark c.args.sort) a.pieces) (sym c.deref.ensures.value) (pieces_behind c.args.sort c.args.tape.now.items
    c.put_item.new.tape.items c.read_pieces.new.tape.items a.pieces c.len-place.result (omega (arith, c.len-place.ensures)) c.in-Ok.ensures.ok a.is) in
    let same = one_string c.args.max c.args.sort d c.args.content.now b.0 _ b.2 a.holds in
    let yes = (c.are_said.ensures c.args.max a.pieces here).1 (subst (IsSaid e c.args.sort) same b.3) in
    let no = c.if-not-are_said.true in
    absurd (cc)

pub returns-else-not-are_said : goal.returns-else-not-are_said
returns-else-not-are_said c = λ d h.
    let e = codings.Ber c.args.max in
    let a = c.in-Ok-read_pieces.ensures d (least c.args.depth c.close_pieces.result d h) in
    let here = subst (λ (z : List Item). marks (take (length z - (c.len-place.result + 1)) (drop (c.len-place.result + 1) z))
    ≡ map (piece_mark c.args.sort) a.pieces) (sym c.deref.ensures.value) (pieces_behind c.args.sort c.args.tape.now.items
    c.put_item.new.tape.items c.read_pieces.new.tape.items a.pieces c.len-place.result (omega (arith, c.len-place.ensures)) c.in-Ok.ensures.ok a.is) in
    let said = (c.are_said.ensures c.args.max a.pieces here).0 c.if-not-are_said.false in
    closed_read c.args.sort (IsConstructedOf e c.args.sort d c.args.content.now)
    (λ (xs : List (Elem c.args.sort)). ArePieces e (string_of e c.args.sort) d c.args.content.now xs × IsSaid e c.args.sort xs)
    (λ xs q. (xs, refl, q.0, q.1)) c.args.tape.now.items c.put_item.new.tape.items c.read_pieces.new.tape.items
    c.close_pieces.new.tape.items c.close_pieces.result c.in-Ok.ensures.ok a.pieces (a.holds, said) a.is
    (λ front os e l. let m = length-map c.args.tape.now.items mark in
    c.close_pieces.ensures.closed front os e (omega (arith, c.len-place.ensures, m, l)))
    c.close_pieces.ensures.err
