use Rattle.std.proofs.Common.{◌≡◌, ap, List, Bool, arith}
use Rattle.std.proofs.lemmas.List.{length-map}
use Rattle.asn1_schema.specs.declared.coding.Coding.TheVariants as codings
use Rattle.asn1_schema.specs.declared.pieces.Sort.TheVariants as sorts
use Rattle.asn1_schema.specs.Grammar.{trimmed, of_bits}
use Rattle.asn1_schema.specs.Values.{bits, leaf}
use Rattle.asn1_schema.specs.Tape.{mark, marks}
use Rattle.asn1_schema.specs.Reading.{rules_of}
use Rattle.asn1_schema.specs.Pieces.{ArePieces}
use Rattle.asn1_schema.specs.Bits.{IsNamedConstructed}
use Rattle.asn1_schema.proofs.Depths.{least}
use Rattle.asn1_schema.proofs.TakenPieces.{closed_read, pieces_refused, place_of_pieces, place_behind}
use Rattle.asn1_schema.proofs.named.named_constructed.Goals as goal

pub returns-in-Err-read_pieces : goal.returns-in-Err-read_pieces
returns-in-Err-read_pieces c = λ d h.
    let e = codings.Ber c.args.max in
    pieces_refused e sorts.Bits (Unit {0}) (IsNamedConstructed e d c.args.content.now)
    (ArePieces e (of_bits (rules_of e)) d c.args.content.now) (λ v a. (a.0, a.2)) c.args.tape.now.items
    c.put_item.new.tape.items c.read_pieces.new.tape.items c.read_pieces.new.tape.items c.in-Err-read_pieces.e
    (c.in-Err-read_pieces.ensures d h)

pub close_pieces-requires : goal.close_pieces-requires
close_pieces-requires c =
    let a = c.in-Ok-read_pieces.ensures c.args.depth (omega arith) in
    let t = c.trim_pieces.ensures (marks c.put_item.new.tape.items) a.pieces a.is
    (place_behind c.args.tape.now.items c.put_item.new.tape.items c.len-place.result (omega (arith, c.len-place.ensures)) c.in-Ok.ensures.ok) in
    place_of_pieces sorts.Bits c.args.tape.now.items c.put_item.new.tape.items c.trim_pieces.new.tape.items t.left
    c.len-place.result (omega (arith, c.len-place.ensures)) c.in-Ok.ensures.ok t.is

pub returns-in-Ok-read_pieces : goal.returns-in-Ok-read_pieces
returns-in-Ok-read_pieces c = λ d h.
    let e = codings.Ber c.args.max in
    let a = c.in-Ok-read_pieces.ensures d (least c.args.depth c.close_pieces.result d h) in
    let t = c.trim_pieces.ensures (marks c.put_item.new.tape.items) a.pieces a.is
    (place_behind c.args.tape.now.items c.put_item.new.tape.items c.len-place.result (omega (arith, c.len-place.ensures)) c.in-Ok.ensures.ok) in
    closed_read sorts.Bits (IsNamedConstructed e d c.args.content.now)
    (λ (xs : List Bool). (bs : List Bool) × (xs ≡ trimmed bs) × ArePieces e (of_bits (rules_of e)) d c.args.content.now bs)
    (λ xs q. (q.0, (ap (λ (z : List Bool). leaf (bits z)) q.1, tt), q.2)) c.args.tape.now.items c.put_item.new.tape.items
    c.trim_pieces.new.tape.items c.close_pieces.new.tape.items c.close_pieces.result c.in-Ok.ensures.ok t.left
    (_, t.trims, a.holds) t.is
    (λ front os e l. let m = length-map c.args.tape.now.items mark in
    c.close_pieces.ensures.closed front os e (omega (arith, c.len-place.ensures, m, l)))
    c.close_pieces.ensures.err
