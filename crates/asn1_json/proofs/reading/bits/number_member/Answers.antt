use Rattle.std.proofs.Common.{◌≡◌, ◌∙◌, ap, Some}
use Rattle.json.specs.Json.{Json}
use Rattle.json.specs.Value.{value_view}
use Rattle.asn1_json.proofs.Views.{number_view}
use Rattle.asn1_json.proofs.MadeLeaves.{some_is}
use Rattle.asn1_json.proofs.reading.bits.number_member.Goals as goal

pub returns-in-Number : goal.returns-in-Number
returns-in-Number c =
    c.in-Some.ensures ∙ ap (λ (j : Json). Some j) (ap value_view c.in-Number.is ∙ number_view _ c.in-Number.text)
