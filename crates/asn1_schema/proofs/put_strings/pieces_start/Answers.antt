use Rattle.std.proofs.Common.{rules, ℕ, [], ◌∷◌, ◌++◌, ◌-◌, ◌≡◌, sym, ◌∙◌, arith}
use Rattle.asn1_schema.specs.Tape.{pieces_mark}
use Rattle.asn1_schema.proofs.SameParts.{same_last}
use Rattle.asn1_schema.proofs.TruncatedTapes.{before_truncated}
use Rattle.asn1_schema.proofs.put_strings.pieces_start.Goals as goal

same_count : (k n : ℕ) → pieces_mark k ≡ pieces_mark n → k ≡ n
same_count k n e = cc

pub returns-then-begun-count : goal.returns-then-begun-count
returns-then-begun-count c front inner some l e =
    let few = c.if-count-end.false in
    let f = before_truncated c.args.tape.now (c.args.end - c.args.count) c.args.end (front ++ pieces_mark c.args.count ∷ []) inner
    c.requires e (omega (arith, l, few)) in
    let u = same_last (_) front (pieces_mark c.in-Some.begun) (pieces_mark c.args.count) (sym c.in-Some.ensures.1 ∙ f) in
    let same = same_count c.in-Some.begun c.args.count u.1 in
    absurd (search rules)

pub returns-in-None : goal.returns-in-None
returns-in-None c front inner some l e =
    let few = c.if-count-end.false in
    let f = before_truncated c.args.tape.now (c.args.end - c.args.count) c.args.end (front ++ pieces_mark c.args.count ∷ []) inner
    c.requires e (omega (arith, l, few)) in
    c.in-None.ensures c.args.count front f
