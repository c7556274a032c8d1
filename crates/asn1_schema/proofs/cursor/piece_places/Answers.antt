use Rattle.std.proofs.Common.{refl, sym, arith, length, ◌-◌, ◌≡◌}
use Rattle.std.proofs.lemmas.List.{length-map}
use Rattle.asn1_schema.specs.Tape.{mark}
use Rattle.asn1_schema.proofs.JoinedBits.{stand_between, stand_alone}
use Rattle.asn1_schema.proofs.cursor.piece_places.Goals as goal

pub returns-then-is_in_pieces-clause-pieces : goal.returns-then-is_in_pieces-clause-pieces
returns-then-is_in_pieces-clause-pieces c = λ kept bs m v.
    let p = c.if-is_in_pieces.ensures.yes refl in
    stand_between c.args.value.now kept bs m v p.0 p.1 p.2 (c.max.result - 1) c.max.result refl c.max.ensures

pub returns-else-is_in_pieces-clause-pieces : goal.returns-else-is_in_pieces-clause-pieces
returns-else-is_in_pieces-clause-pieces c = λ kept bs m v.
    stand_alone c.args.value.now kept bs m v (λ n others e. let t = c.if-is_in_pieces.ensures.no n others e in absurd (cc))
