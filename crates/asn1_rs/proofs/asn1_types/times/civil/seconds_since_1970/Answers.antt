use Rattle.std.proofs.Common.{◌≡◌, ◌∙◌, ap, arith}
use Rattle.std.proofs.lemmas.Int.{ints}
use Rattle.jiff.specs.Words.{epoch_day}
use Rattle.asn1_rs.proofs.asn1_types.times.civil.seconds_since_1970.Goals as goal

pub overflow_sub-result : goal.overflow_sub-result
overflow_sub-result c = omega (arith, ints, c.args.offset.in_range)

pub returns : goal.returns
returns c =
    let day : c.to_unix_epoch_day.result ≡ epoch_day c.args.civil.date =
    c.to_unix_epoch_day.ensures.value ∙ ap epoch_day (c.to_plain.ensures ∙ c.date.ensures) in
    omega (arith, ints, c.args.offset.in_range)
