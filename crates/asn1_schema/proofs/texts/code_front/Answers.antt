use Rattle.asn1_schema.proofs.TextFronts.{code_some, code_none}
use Rattle.asn1_schema.proofs.texts.code_front.Goals as goal

pub returns-in-Some : goal.returns-in-Some
returns-in-Some g c = code_some g.C.CharacterCode.octets_of g.C.CharacterCode.is c.args.octets.now c.requires c.in-Some.field-0-0
    c.in-Some.others.now c.in-Some.ensures.some

pub returns-in-None : goal.returns-in-None
returns-in-None g c = code_none g.C.CharacterCode.octets_of g.C.CharacterCode.is c.args.octets.now c.requires c.in-None.ensures.none
