use Rattle.std.proofs.Common.{◌/◌, ◌%◌, arith}
use Rattle.asn1_schema.proofs.moments.number_of.Goals as goal

pub returns-in_default-clause-none : goal.returns-in_default-clause-none
returns-in_default-clause-none c = λ n e f. c.in_default.ensures.none (n / 10 % 10) (omega arith) e

pub returns-in-None-clause-none : goal.returns-in-None-clause-none
returns-in-None-clause-none c = λ n e f. c.in-None.ensures.none (n % 10) (omega arith) f
