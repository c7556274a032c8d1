use Rattle.asn1vec_answers.proofs.Walks.{slice_yields}
use Rattle.asn1vec_answers.proofs.lists.VecEncoded.show.Goals as goal

pub returns : goal.returns
returns g c = c.push_items.ensures c.args.self.now.items (slice_yields c.iter.result c.args.self.now.items (cc))
