use Rattle.std.proofs.Common.{length}
use Rattle.x690.specs.Strict.{header_octets}
use Rattle.asn1_headers.specs.Laws.Prepending.{Prepended_last}
use Rattle.asn1_headers.proofs.buffer.prepend_element.Goals as goal

pub returns-in-Err-clause-prepended : goal.returns-in-Err-clause-prepended
returns-in-Err-clause-prepended c = λ octets old p.
    Prepended_last (header_octets c.args.class c.args.constructed c.args.number (length octets)) (rw c.in-Err.is at p)
