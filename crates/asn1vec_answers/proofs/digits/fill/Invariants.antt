use Rattle.std.proofs.Common.{◌*◌, take}
use Rattle.asn1vec_answers.specs.Request.{AreHexadecimalDigits}
use Rattle.asn1vec_answers.proofs.digits.fill.Given as goal

abbrev pub invariant-pairs : goal.invariant-pairs
invariant-pairs l = AreHexadecimalDigits (take l.i l.octets) (take (2 * l.i) l.digits)
