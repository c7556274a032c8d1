use Rattle.std.proofs.Common.{length}
use Rattle.asn1_rs.specs.ToDer.{whole_octets}
use Rattle.asn1_rs_uses.proofs.Unrefused.{count_alone, count_asks, either_none, vector_alone, vector_asks}
use Rattle.asn1_rs_uses.proofs.Unrefused.{writing_alone, writing_asks}
use Rattle.asn1_rs_uses.proofs.labels.by_each_call.Goals as goal

pub returns-clause-refused : goal.returns-clause-refused
returns-clause-refused g c = λ der.
    let x = c.args.x.now in
    let octets = whole_octets g.T.ToDer.writing x in
    let n = length octets in
    let law = c.counts_are_of_the_strict_encoding.ensures in
    let told = law.tells x in
    let none = law.writable x der in
    let whole = either_none _ _ none.1 none.2 in
    record {
      counted = count_asks n _ c.to_der_len.result
          (count_alone n _ _ none.0 c.to_der_len.result (c.to_der_len.ensures.refused told));
      written = writing_asks n _ c.write_der.result
          (writing_alone n _ _ whole c.write_der.result (c.write_der.ensures.refused told));
      strictly = writing_asks n _ c.write_strict.result (c.write_strict.ensures.der der);
      vector = vector_alone n _ whole c.to_der_vec.result (c.to_der_vec.ensures.refused told);
      strict = vector_asks octets _ c.strict_vec.result (c.strict_vec.ensures.der der);
    }
