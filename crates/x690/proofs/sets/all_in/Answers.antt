use Rattle.std.proofs.Common.{◌≡◌, ◌∙◌, arith, ap, sym}
use Rattle.std.specs.List.{list_all}
use Rattle.std.proofs.lemmas.List.{take_all}
use Rattle.std.proofs.lemmas.List.Folds.{list_all_more}
use Rattle.x690.proofs.sets.all_in.Goals as goal

pub loop-octet-preserved : goal.loop-octet-preserved
loop-octet-preserved g c =
    let more =
    list_all_more g.S.CharacterSet.in_set c.args.octets.now c.loop-octet.octet-index 0 c.loop-octet-test.true in
    cc

pub returns : goal.returns
returns g c =
    let whole = take_all c.loop-octet.octet-index c.args.octets.now (omega arith) in
    let same : c.loop-octet.all ≡ list_all g.S.CharacterSet.in_set c.args.octets.now =
    c.loop-octet.invariant ∙ ap (list_all g.S.CharacterSet.in_set) whole in
    (λ h. sym same ∙ h, λ h. same ∙ h)
