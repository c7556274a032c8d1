use Rattle.std.specs.Prelude.{Ok}
use Rattle.asn1_rs_uses.proofs.AnyTexts.{text_refused}
use Rattle.asn1_rs_uses.proofs.borrowed.any_text.Goals as goal

pub returns-clause-refused : goal.returns-clause-refused
returns-clause-refused c = text_refused c.args.octets.now c.in_ok-any.any c.in_ok-any.field-0-0.now
    (c.any_is_the_element.ensures.ber c.args.octets.now (Ok (c.in_ok-any.field-0-0.now, c.in_ok-any.any))
    c.in_ok-any.ensures.gives) c.as_any_string.result c.as_any_string.ensures
