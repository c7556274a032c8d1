use Rattle.asn1_rs.specs.Set.{items_of}
use Rattle.asn1vec_answers.proofs.Walks.{slice_yields}
use Rattle.asn1vec_answers.proofs.lists.SetOfEncoded.show.Goals as goal

pub returns : goal.returns
returns g c =
    c.push_items.ensures (items_of c.args.self.now) (slice_yields c.iter.result (items_of c.args.self.now) (cc))
