use Rattle.std.proofs.Common.{◌∷◌, []}
use Rattle.asn1_headers.specs.Laws.Prepending.{Prepended_last}
use Rattle.asn1_rs.proofs.asn1_types.bit_string.prepend_bits.Goals as goal

pub returns-in-Err-clause-prepended : goal.returns-in-Err-clause-prepended
returns-in-Err-clause-prepended c = Prepended_last (c.args.unused_bits ∷ []) c.in-Err.ensures.prepended
