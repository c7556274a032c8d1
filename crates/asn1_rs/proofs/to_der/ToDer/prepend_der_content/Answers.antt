use Rattle.std.proofs.Common.{arith, length, refl}
use Rattle.asn1_headers.specs.Laws.Prepending.{Prepended_refused}
use Rattle.asn1_rs.proofs.Prepending.{vector_before}
use Rattle.asn1_rs.proofs.to_der.ToDer.prepend_der_content.Goals as goal

pub returns-in-Err-clause-prepended : goal.returns-in-Err-clause-prepended
returns-in-Err-clause-prepended g c = λ t. Prepended_refused _ _ _ _ refl c.without_io.ensures.io

pub returns-in-Err-clause-refused : goal.returns-in-Err-clause-refused
returns-in-Err-clause-refused g c = λ t.
    vector_before c.in-Err.e c.without_io.result _ (length (g.Self.ToDer.writing.content c.args.self.now)) _
    (g.Self.ToDer.writing.content_refuses c.args.self.now) (omega arith) c.without_io.ensures.refused
    c.without_io.ensures.same (c.in-Err.ensures.refused t)
