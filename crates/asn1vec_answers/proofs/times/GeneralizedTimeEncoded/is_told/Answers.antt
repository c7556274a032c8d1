use Rattle.std.proofs.Common.{refl}
use Rattle.asn1_headers.specs.declared.error.Error.TheVariants.{InvalidDateTime}
use Rattle.asn1_rs.specs.Times.{IsInvalidDateTime, moment_of, generalized_time_leaf, generalized_time_refused}
use Rattle.asn1vec_answers.proofs.WrittenTimes.{generalized_few}
use Rattle.asn1vec_answers.proofs.ShownLaws.{unless_octets, unless_refused, unless_own}
use Rattle.asn1vec_answers.specs.Types.{leaf_octets}
use Rattle.asn1vec_answers.proofs.times.GeneralizedTimeEncoded.is_told.Goals as goal

pub returns-clause-written : goal.returns-clause-written
returns-clause-written c = let m = moment_of c.args.self.now.0 in
    unless_octets (generalized_time_refused m) InvalidDateTime IsInvalidDateTime
    (leaf_octets generalized_time_leaf m) refl

pub returns-clause-refused : goal.returns-clause-refused
returns-clause-refused c = let m = moment_of c.args.self.now.0 in
    unless_refused (generalized_time_refused m) InvalidDateTime (leaf_octets generalized_time_leaf m)
    (λ _. generalized_few m c.assert_value_valid.ensures.millisecond)

pub returns-clause-own : goal.returns-clause-own
returns-clause-own c = let m = moment_of c.args.self.now.0 in
    unless_own (generalized_time_refused m) InvalidDateTime IsInvalidDateTime (leaf_octets generalized_time_leaf m)
    (λ e own. own)
