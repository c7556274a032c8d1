use Rattle.std.proofs.Common.{rules}
use Rattle.std.proofs.lemmas.Bool.{false≢true}
use Rattle.std.proofs.lemmas.Result.{err_from_is_err_and}
use Rattle.asn1_rs.specs.ToDer.{IsWritable, whole_octets, whole_refuses}
use Rattle.asn1_rs.proofs.OneItemMore.{yields_push, joined_next, joined_end}
use Rattle.asn1_rs.proofs.Writing.{is_writable}
use Rattle.asn1_rs.proofs.asn1_types.kept.joined.joined_encodings.Goals as goal

pub returns-in_err-octets : goal.returns-in_err-octets
returns-in_err-octets g c =
    let p = err_from_is_err_and c.from_residual.result c.from_residual.ensures.1 in
    rw (p.1, p.2) (
      c.loop-item.yielded,
      c.in-Some.item,
      c.next.new.self,
      yields_push g.I.Iterator.next_gives _ _ _ c.loop-item.yielded c.in-Some.item (search rules)
          (rw c.in-Some.is at c.next.ensures.steps),
      record {
        before = λ t. (c.loop-item.invariant t).1;
        refused = joined_end (whole_octets g.T.ToDer.writing) c.loop-item.yielded c.in-Some.item g.T.ToDer.writing.tells
            (whole_refuses g.T.ToDer.writing) _ c.in_err-octets.ensures.refused;
        at_once = λ f t o. c.in_err-octets.ensures.at_once f t o;
        first = λ f o. (let h = c.in_err-octets.ensures.first f o in cc);
        no_io = c.in_err-octets.ensures.memory;
      },
    )

pub loop-item-preserved : goal.loop-item-preserved
loop-item-preserved g c =
    joined_next (whole_octets g.T.ToDer.writing) c.loop-item.yielded c.in-Some.item g.T.ToDer.writing.tells
    (IsWritable g.T.ToDer.writing) c.loop-item.octets.items _ c.loop-item.invariant
    (λ t. (
      c.in_ok-octets.ensures.wrote t,
      is_writable g.T.ToDer.writing c.in-Some.item (λ e o. false≢true (c.in_ok-octets.ensures.uncounted e t o))
          (λ e o. false≢true (c.in_ok-octets.ensures.accepted e t o)),
    ))
