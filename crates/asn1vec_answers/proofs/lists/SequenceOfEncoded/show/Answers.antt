use Rattle.asn1_rs.specs.Sequence.SequenceOf.{sequence_items}
use Rattle.asn1vec_answers.proofs.Walks.{slice_yields}
use Rattle.asn1vec_answers.proofs.lists.SequenceOfEncoded.show.Goals as goal

pub returns : goal.returns
returns g c = c.push_items.ensures (sequence_items c.args.self.now)
    (slice_yields c.iter.result (sequence_items c.args.self.now) (cc))
