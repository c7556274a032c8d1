use Rattle.std.proofs.Common.{◌≡◌, ◌∙◌, ap, Some}
use Rattle.json.specs.Json.{Json}
use Rattle.json.specs.Value.{value_view}
use Rattle.asn1_json.proofs.Views.{string_view}
use Rattle.asn1_json.proofs.MadeLeaves.{some_is}
use Rattle.asn1_json.proofs.reading.bits.string_member.Goals as goal

pub returns-in-String : goal.returns-in-String
returns-in-String c =
    c.in-Some.ensures ∙ ap (λ (j : Json). Some j) (ap value_view c.in-String.is ∙ string_view _ c.in-String.text)
