use Rattle.std.proofs.Common.{◌^◌, ◌<◌, ◌∙◌, arith}
use Rattle.asn1_words.proofs.Numbers.{number_text_by_decimal}
use Rattle.asn1_words.proofs.words.long_decimals.Goals as goal

pub returns : goal.returns
returns c =
    let few : c.args.number < 10 ^ 64 = omega (arith, c.ranges.number.fits) in
    c.format.ensures.text ∙ number_text_by_decimal c.args.number few
