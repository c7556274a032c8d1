use Rattle.x690.specs.Rules.{ber_rule}
use Rattle.asn1_headers.specs.Answers.{seen}
use Rattle.asn1_headers.specs.Header.Reading.{ber_violation}
use Rattle.asn1_rs.specs.Laws.Optional.{answers_none, answers_some}
use Rattle.asn1_rs.proofs.asn1_types.option.OptionFromBer.from_ber.Goals as goal

pub returns-then-is_left_out : goal.returns-then-is_left_out
returns-then-is_left_out g c =
    answers_none ber_rule g.T.FromBer.ber_gives c.args.bytes.now c.TAG.result g.T.Tagged.TAG c.is_left_out.result
    c.TAG.ensures (c.is_left_out.ensures ber_rule ber_violation c.header_by_ber.ensures) c.if-is_left_out.true

pub returns : goal.returns
returns g c = answers_some ber_rule g.T.FromBer.ber_gives c.args.bytes.now c.TAG.result g.T.Tagged.TAG
    c.is_left_out.result c.TAG.ensures (c.is_left_out.ensures ber_rule ber_violation c.header_by_ber.ensures)
    c.if-is_left_out.false (seen c.from_ber.result) c.from_ber.ensures (seen c.held.result) c.held.ensures
