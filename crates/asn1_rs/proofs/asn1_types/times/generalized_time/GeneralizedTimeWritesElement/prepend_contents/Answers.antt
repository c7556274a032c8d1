use Rattle.std.proofs.Common.{refl}
use Rattle.asn1_headers.specs.Laws.Prepending.{Prepended_refused}
use Rattle.asn1_rs.proofs.asn1_types.times.generalized_time.GeneralizedTimeWritesElement.prepend_contents.Goals as goal

pub returns-in_default-clause-prepended : goal.returns-in_default-clause-prepended
returns-in_default-clause-prepended c = Prepended_refused _ _ _ _ refl refl
