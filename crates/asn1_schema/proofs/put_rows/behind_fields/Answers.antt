use Rattle.std.proofs.Common.{◌≡◌, ◌∙◌, ap, subst, ℕ, arith}
use Rattle.asn1_schema.specs.Tape.{marks, tapes_of}
use Rattle.asn1_schema.specs.Writing.{row_behind}
use Rattle.asn1_schema.proofs.MembersCounted.{one_behind}
use Rattle.asn1_schema.proofs.put_rows.behind_fields.Goals as goal

pub loop-preserved : goal.loop-preserved
loop-preserved c = λ kept e. c.behind_first-rest.ensures (row_behind c.loop.counter kept) (c.loop.invariant kept e)
    ∙ ap tapes_of (one_behind c.loop.counter kept)

pub returns : goal.returns
returns c = λ kept e.
    let end = c.loop-test.false in
    let most = c.loop.auto.counter-end in
    let same : c.loop.counter ≡ c.args.places = grind (arith, end, most) in
    subst (λ (n : ℕ). marks c.loop.rest.now ≡ tapes_of (row_behind n kept)) same (c.loop.invariant kept e)
