use Rattle.asn1_schema.specs.Pieces.{string_of}
use Rattle.asn1_schema.proofs.TakenPieces.{piece_put, piece_unput}
use Rattle.asn1_schema.proofs.pieces.put_piece.Goals as goal

pub returns-in-Ok : goal.returns-in-Ok
returns-in-Ok c =
    let S = string_of c.args.coding c.args.sort in
    piece_put c.args.coding c.args.sort (S.Content c.args.content.now) c.args.content.now c.in-Some.item c.in-Some.whole
    c.args.tape.now.items c.put_item.new.tape.items c.in-Some.ensures.some c.in-Some.ensures.some.content c.in-Ok.ensures.ok

pub returns-in-Err : goal.returns-in-Err
returns-in-Err c =
    let S = string_of c.args.coding c.args.sort in
    piece_unput c.args.coding c.args.sort (S.Content c.args.content.now) c.args.tape.now.items c.put_item.new.tape.items
    c.in-Err.e c.in-Err.ensures.err
