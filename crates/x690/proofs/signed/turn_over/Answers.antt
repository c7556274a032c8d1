use Rattle.std.proofs.Common.{◌-◌, rules}
use Rattle.std.proofs.lemmas.List.Edits.{map_over_more}
use Rattle.x690.proofs.signed.turn_over.Goals as goal

pub loop-octet-preserved : goal.loop-octet-preserved
loop-octet-preserved c = search (rules, map_over_more (λ octet. 255 - octet))
