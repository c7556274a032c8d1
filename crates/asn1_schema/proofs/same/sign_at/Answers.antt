use Rattle.std.proofs.Common.{◌∙◌, ap, List}
use Rattle.asn1_schema.specs.declared.tape.Item.{Item}
use Rattle.asn1_schema.specs.Tape.{mark, marks}
use Rattle.asn1_schema.specs.Same.{signs_from}
use Rattle.std.proofs.Common.{◌∷◌, drop}
use Rattle.asn1_schema.proofs.Signs.{pieces_at}
use Rattle.asn1_schema.proofs.same.sign_at.Goals as goal

pub returns-in-Pieces-clause-sign : goal.returns-in-Pieces-clause-sign
returns-in-Pieces-clause-sign c =
    let others = c.args.others.now in
    ap (λ (xs : List Item). signs_from 0 (marks xs)) c.requires
    ∙ (ap (λ (x : Item). signs_from 0 (mark x ∷ marks others)) c.in-Pieces.is
    ∙ pieces_at others c.first_items-pieces.result.now c.behind-in-Pieces.result.now c.in-Pieces.n
    c.first_items-pieces.ensures (c.behind-in-Pieces.ensures ∙ ap (λ (xs : List Item). drop 1 xs) c.behind.ensures))
