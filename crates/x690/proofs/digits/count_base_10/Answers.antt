use Rattle.std.proofs.Common.{arith}
use Rattle.std.proofs.lemmas.Int.Digits.{length-digits_of-le}
use Rattle.x690.proofs.digits.count_base_10.Goals as goal

pub returns-clause-few : goal.returns-clause-few
returns-clause-few c =
    omega (arith, c.count_digits.ensures, length-digits_of-le 10 10 c.args.number (omega arith) (omega arith))
