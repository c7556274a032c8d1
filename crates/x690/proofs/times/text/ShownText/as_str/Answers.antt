use Rattle.std.proofs.Common.{take, arith}
use Rattle.std.specs.Str.{IsUtf8}
use Rattle.std.proofs.lemmas.Grind.{common_steps}
use Rattle.std.proofs.lemmas.Str.{IsUtf8-from_ascii}
use Rattle.x690.proofs.times.text.ShownText.as_str.Goals as goal

pub unwrap-requires : goal.unwrap-requires
unwrap-requires c =
    let inside = c.self.inside in
    let text : IsUtf8 (take inside.len inside.octets) = IsUtf8-from_ascii _ c.self.invariant.1 in
    grind (arith, common_steps, text)
