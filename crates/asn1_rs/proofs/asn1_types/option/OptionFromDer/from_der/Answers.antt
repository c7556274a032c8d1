use Rattle.x690.specs.Rules.{der_rule}
use Rattle.asn1_headers.specs.Answers.{seen}
use Rattle.asn1_headers.specs.Header.Reading.{der_violation}
use Rattle.asn1_rs.specs.Laws.Optional.{answers_none, answers_some}
use Rattle.asn1_rs.proofs.asn1_types.option.OptionFromDer.from_der.Goals as goal

pub returns-then-is_left_out : goal.returns-then-is_left_out
returns-then-is_left_out g c =
    answers_none der_rule g.T.FromDer.der_gives c.args.bytes.now c.TAG.result g.T.Tagged.TAG c.is_left_out.result
    c.TAG.ensures (c.is_left_out.ensures der_rule der_violation c.header_by_der.ensures) c.if-is_left_out.true

pub returns : goal.returns
returns g c = answers_some der_rule g.T.FromDer.der_gives c.args.bytes.now c.TAG.result g.T.Tagged.TAG
    c.is_left_out.result c.TAG.ensures (c.is_left_out.ensures der_rule der_violation c.header_by_der.ensures)
    c.if-is_left_out.false (seen c.from_der.result) c.from_der.ensures (seen c.held.result) c.held.ensures
