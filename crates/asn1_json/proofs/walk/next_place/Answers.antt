use Rattle.std.proofs.Common.{◌∙◌, sym}
use Rattle.std.proofs.lemmas.Bool.{ltb-false}
use Rattle.asn1_json.specs.Tokens.{given_types, count_of_fields}
use Rattle.asn1_json.proofs.Steps.{beyond}
use Rattle.asn1_json.proofs.walk.next_place.Goals as goal

pub returns : goal.returns
returns c = λ vs.
    let types = given_types c.args.types in
    beyond types c.args.at c.args.place vs
    (ltb-false c.args.place (count_of_fields types c.args.at) (sym c.has_field.ensures.is ∙ c.if-has_field.false))
