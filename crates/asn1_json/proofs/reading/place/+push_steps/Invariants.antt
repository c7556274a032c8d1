use Rattle.std.proofs.Common.{length}
use Rattle.asn1_json.proofs.reading.place.+push_steps.Given as goal

abbrev pub decreases-push_steps : goal.decreases-push_steps
decreases-push_steps a = length a.steps.now
