use Rattle.std.proofs.Common.{refl, arith}
use Rattle.asn1vec_answers.specs.declared.digits.TheConstants.{NUMBERS}
use Rattle.asn1vec_answers.proofs.Hexadecimal.{digit_in, number_in}
use Rattle.asn1vec_answers.proofs.digits.number_of.Goals as goal

pub returns-clause-digit : goal.returns-clause-digit
returns-clause-digit c = digit_in NUMBERS refl c.args.digit (omega arith)

pub returns-clause-none : goal.returns-clause-none
returns-clause-none c = λ d. number_in NUMBERS refl d c.args.digit
