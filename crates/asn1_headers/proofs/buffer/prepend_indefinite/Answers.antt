use Rattle.std.proofs.Common.{◌∷◌, [], Err}
use Rattle.x690.specs.Strict.{identifier_octets}
use Rattle.asn1_headers.specs.Header.Writing.{parts_identifier}
use Rattle.asn1_headers.specs.Laws.Prepending.{Prepended_last, Prepended_put}
use Rattle.asn1_headers.proofs.buffer.prepend_indefinite.Goals as goal

pub returns-in-Ok-clause-prepended : goal.returns-in-Ok-clause-prepended
returns-in-Ok-clause-prepended c =
    rw (c.answered.ensures, ← c.number.ensures, ← c.identifier_into-front.ensures.written)
    (c.put_behind.ensures.prepended (128 ∷ []) c.args.buf.now c.in-Ok.ensures.0 c.in-Ok.ensures.1)

pub returns-in-Err-clause-prepended : goal.returns-in-Err-clause-prepended
returns-in-Err-clause-prepended c = rw c.refusal.ensures
    (Prepended_last (identifier_octets (parts_identifier c.args.parts))
    (Prepended_put (128 ∷ []) _ _ (Err c.in-Err.e) c.in-Err.ensures))
