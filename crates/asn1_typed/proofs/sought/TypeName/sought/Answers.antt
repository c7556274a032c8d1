use Rattle.std.proofs.Common.{◌∙◌, sym}
use Rattle.asn1_typed.proofs.Found.{found_more}
use Rattle.asn1_typed.proofs.sought.TypeName.sought.Goals as goal

pub loop-named-preserved : goal.loop-named-preserved
loop-named-preserved c =
    c.and_at-found.ensures ∙ found_more c.args.self.now c.args.types.now c.loop-named.named-index _ c.loop-named.found c.loop-named-test.true
    (sym c.is_of.ensures ∙ c.if-not-is_of.false) c.loop-named.invariant
