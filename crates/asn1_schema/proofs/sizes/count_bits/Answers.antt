use Rattle.std.proofs.Common.{◌≡◌, ap, drop, List, arith}
use Rattle.std.proofs.lemmas.List.{drop_all}
use Rattle.asn1_schema.specs.declared.tape.Item.{Item}
use Rattle.asn1_schema.specs.Tape.{marks}
use Rattle.asn1_schema.specs.Sizes.{all_bits}
use Rattle.asn1_schema.proofs.sizes.count_bits.Goals as goal

pub returns : goal.returns
returns c =
    let end = c.loop-piece-test.false in
    let none : all_bits (marks (drop c.loop-piece.piece-index c.args.pieces.now)) ≡ 0 =
    ap (λ (xs : List Item). all_bits (marks xs)) (drop_all c.loop-piece.piece-index c.args.pieces.now (omega (arith, end))) in
    let few = c.loop-piece.invariant.few in
    let count = c.loop-piece.invariant.count in
    omega (arith, few, count, none)
