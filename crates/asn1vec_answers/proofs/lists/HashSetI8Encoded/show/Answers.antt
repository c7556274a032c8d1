use Rattle.std.proofs.Common.{sym}
use Rattle.asn1vec_answers.proofs.Walks.{keys_yield}
use Rattle.asn1vec_answers.proofs.lists.HashSetI8Encoded.show.Goals as goal

pub returns : goal.returns
returns c =
    let keys = c.in_ok-ordered.ordered.keys in
    rw (sym c.in_ok-ordered.ensures) (c.push_items.ensures keys (keys_yield c.iter.result keys c.iter.ensures.rest))
