use Rattle.std.proofs.Common.{false}
use Rattle.asn1_rs.proofs.Writing.{neither_own, may_keep}
use Rattle.asn1_rs.proofs.header.HeaderToDer.TheImpl.Goals as goal

pub to_der_len-tells : goal.to_der_len-tells
to_der_len-tells g c =
    record { count = λ _. c.ensures.count; refused = λ _. c.ensures.refused; accepted = λ e _ o. absurd o }

pub der_content_len-tells : goal.der_content_len-tells
der_content_len-tells g c =
    record { count = λ _. c.ensures.count; refused = λ _. c.ensures.refused; accepted = λ e _ o. absurd o }

pub write_der_raw-tells : goal.write_der_raw-tells
write_der_raw-tells g c = record {
  der = λ _ r. c.ensures.der r;
  refused = λ _ r. c.ensures.refused r;
  accepted = λ e _ r o. absurd o;
  uncounted = λ e _ r o. absurd o;
  at_once = λ e _ r o. absurd o;
  counted = λ _. c.ensures.counted;
  first = λ e o. absurd o;
  kept = λ _ r. may_keep _ _ _ _ (c.ensures.failed false 0);
}

pub to_der_vec_raw-tells : goal.to_der_vec_raw-tells
to_der_vec_raw-tells g c = record {
  der = λ _ r. c.ensures.der r;
  refused = λ _ r. c.ensures.refused r;
  accepted = λ e _ r o. absurd (neither_own e o);
  uncounted = λ e _ r o. absurd o;
  memory = c.ensures.memory;
  first = λ e o. absurd o;
}
