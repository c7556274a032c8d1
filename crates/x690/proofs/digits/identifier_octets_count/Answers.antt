use Rattle.std.proofs.Common.{◌/◌, sym, arith}
use Rattle.std.proofs.lemmas.Int.Digits.{length-digits_of-le}
use Rattle.x690.specs.Laws.StrictIdentifiers.{identifier_octets_count_low, identifier_octets_count_high}
use Rattle.x690.proofs.digits.identifier_octets_count.Goals as goal

pub returns-then-number-lt31-clause-count : goal.returns-then-number-lt31-clause-count
returns-then-number-lt31-clause-count c class constructed =
    sym (identifier_octets_count_low (record {
      class = class;
      constructed = constructed;
      number = c.args.number;
    }) c.if-number-lt31.true)

pub returns-else-number-lt31-clause-count : goal.returns-else-number-lt31-clause-count
returns-else-number-lt31-clause-count c class constructed =
    omega (
      arith,
      identifier_octets_count_high
          (record { class = class; constructed = constructed; number = c.args.number }) c.if-number-lt31.false,
    )

pub returns-else-number-lt31-clause-few : goal.returns-else-number-lt31-clause-few
returns-else-number-lt31-clause-few c =
    omega (arith, length-digits_of-le 128 4 (c.args.number / 128) (omega arith) (omega arith))
