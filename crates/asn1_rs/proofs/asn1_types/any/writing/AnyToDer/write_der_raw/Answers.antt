use Rattle.std.proofs.Common.{false, ◌++◌, length, arith}
use Rattle.asn1_rs.specs.Any.Writing.{content_of, element_header}
use Rattle.asn1_rs.specs.ToDer.{Either}
use Rattle.asn1_rs.specs.Laws.Any.Writing.{counted_header}
use Rattle.asn1_rs.proofs.Sets.{if_ok}
use Rattle.asn1_rs.proofs.Writing.{only_may, few_octets}
use Rattle.asn1_rs.proofs.asn1_types.any.writing.AnyToDer.write_der_raw.Goals as goal

pub returns-clause-raw : goal.returns-clause-raw
returns-clause-raw g c = c.put_behind.ensures.wrote _ _ c.put_strict_header-header.ensures.wrote

pub returns-clause-failed : goal.returns-clause-failed
returns-clause-failed g c = c.put_behind.ensures.failed _ _ c.put_strict_header-header.ensures.wrote
    (c.put_strict_header-header.ensures.failed _ _)

pub returns-clause-der : goal.returns-clause-der
returns-clause-der g c = λ e.
    rw (← (counted_header c.args.self.now e)) (c.put_behind.ensures.wrote _ _ c.put_strict_header-header.ensures.wrote)

pub returns-clause-refused : goal.returns-clause-refused
returns-clause-refused g c =
    λ e. only_may c.put_behind.result false (length (element_header c.args.self.now ++ content_of c.args.self.now))
    (Either (λ _. ⊥) (λ _. ⊥)) (rw (← (counted_header c.args.self.now e)) (c.put_behind.ensures.failed _ _
    c.put_strict_header-header.ensures.wrote (c.put_strict_header-header.ensures.failed _ _)))

pub returns-clause-counted : goal.returns-clause-counted
returns-clause-counted g c = if_ok c.put_behind.result (λ n w. (_, w.0, w.1))
    (c.put_behind.ensures.wrote _ _ c.put_strict_header-header.ensures.wrote).ok

pub returns-clause-fits : goal.returns-clause-fits
returns-clause-fits g c = c.put_behind.ensures.fits
    (few_octets _ 15 16 (omega arith) c.put_strict_header-header.ensures.few)
    (c.put_strict_header-header.ensures.failed false 0)
