use Rattle.asn1vec_answers.proofs.Walks.{keys_yield}
use Rattle.asn1vec_answers.proofs.lists.BTreeSetEncoded.show.Goals as goal

pub returns : goal.returns
returns g c =
    c.push_items.ensures c.args.self.now.keys (keys_yield c.iter.result c.args.self.now.keys c.iter.ensures.rest)
