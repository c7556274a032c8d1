use Rattle.std.proofs.Common.{◌≡◌, ◌-◌, Ok, Err, arith, length}
use Rattle.asn1_rs.specs.Any.{DerElementGives}
use Rattle.asn1_rs.specs.Any.Writing.{element_writing}
use Rattle.asn1_rs.specs.ToDer.{whole_octets}
use Rattle.asn1_rs_profiles.proofs.Kept.{front_taken}
use Rattle.asn1_rs_profiles.proofs.signed.reading.element_with_octets.Goals as goal

pub returns-in-Ok : goal.returns-in-Ok
returns-in-Ok c =
    let bytes = c.args.bytes.now in
    let rest = c.in-Ok.rest.now in
    let element = c.in-Ok.element in
    let begins : DerElementGives bytes (Ok (rest, element)) =
    c.any_is_the_element.ensures.der bytes (Ok (rest, element)) c.in-Ok.ensures in
    let again = c.elements_by_der_are_written_again.ensures bytes (rest, element) begins in
    let count : c.saturating_sub.result ≡ length bytes - length rest = omega (arith, c.saturating_sub.ensures) in
    (begins, front_taken bytes (whole_octets element_writing element) rest c.saturating_sub.result again count)

pub returns-in-Err : goal.returns-in-Err
returns-in-Err c = c.any_is_the_element.ensures.der c.args.bytes.now (Err c.in-Err.refusal) c.in-Err.ensures
