use Rattle.std.proofs.Common.{subst, sym}
use Rattle.std.specs.Prelude.{All}
use Rattle.std.proofs.lemmas.List.Elements.{All-push}
use Rattle.asn1_module.specs.Modules.{HasPlace}
use Rattle.asn1_module.proofs.modules.push_type.Goals as goal

pub returns : goal.returns
returns c = λ all is.
    subst (All (HasPlace c.args.count)) (sym c.in_ok-push.ensures.items)
    (All-push (HasPlace c.args.count) _ _ all is)
