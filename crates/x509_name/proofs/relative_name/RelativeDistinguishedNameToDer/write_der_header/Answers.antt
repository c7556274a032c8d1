use Rattle.std.proofs.Common.{arith, refl, true, ◌≤◌, ◌++◌, length, length-append}
use Rattle.x690.specs.Strict.{header_octets}
use Rattle.asn1_headers.specs.Error.{written_refusal}
use Rattle.x509_name.specs.RelativeName.{HasNoAttribute, relative_name_content}
use Rattle.x509_name.proofs.Headers.{counted_refuses}
use Rattle.x509_name.proofs.Writing.{counted_at_once, own_kept}
use Rattle.x509_name.proofs.relative_name.RelativeDistinguishedNameToDer.write_der_header.Goals as goal

pub returns-in-Err-clause-wrote : goal.returns-in-Err-clause-wrote
returns-in-Err-clause-wrote g c = λ t. rw c.refusal_of_count.ensures (own_kept c.in-Err.e _ _)

pub returns-in-Err-clause-refused : goal.returns-in-Err-clause-refused
returns-in-Err-clause-refused g c = λ t.
    let content = relative_name_content c.args.self.now in
    let shorter : length content ≤ length (header_octets 0 true 17 (length content) ++ content) =
    simp length-append (omega arith) in
    rw c.refusal_of_count.ensures (counted_refuses c.in-Err.e (HasNoAttribute c.args.self.now) _ _ shorter
    (c.in-Err.ensures.refused tt))

pub returns-in-Err-clause-at_once : goal.returns-in-Err-clause-at_once
returns-in-Err-clause-at_once g c = λ e t o.
    let content = relative_name_content c.args.self.now in
    let shorter : length content ≤ length (header_octets 0 true 17 (length content) ++ content) =
    simp length-append (omega arith) in
    rw c.refusal_of_count.ensures (
      written_refusal c.in-Err.e,
      counted_at_once c.in-Err.e (HasNoAttribute c.args.self.now) _ _ shorter (c.in-Err.ensures.refused tt),
      record { refused = refl; kept = refl },
    )
