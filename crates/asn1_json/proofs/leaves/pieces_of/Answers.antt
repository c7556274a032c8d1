use Rattle.std.proofs.Common.{◌∙◌, sym}
use Rattle.asn1_schema.specs.Tape.{marks}
use Rattle.asn1_json.proofs.Pieces.{pieces_join, leaf_joins}
use Rattle.asn1_json.proofs.leaves.pieces_of.Goals as goal

pub returns-then-has_pieces : goal.returns-then-has_pieces
returns-then-has_pieces c = λ kept l at v. pieces_join kept l (marks c.args.value.now) (marks c.inside.result.now) at v
    (sym c.has_pieces.ensures ∙ c.if-has_pieces.true) c.inside.ensures

pub returns : goal.returns
returns c = λ kept l at v. leaf_joins kept l (marks c.args.value.now) at v (sym c.has_pieces.ensures ∙ c.if-has_pieces.false)
