use Rattle.x690.specs.Laws.Signed.{signed_octets_count, octets_say_signed}
use Rattle.x690.proofs.signed.octets_hold_their_integers.Goals as goal

pub returns : goal.returns
returns c = record { strict = signed_octets_count; each = octets_say_signed }
