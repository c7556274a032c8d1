use Rattle.x690.specs.Laws.Collections.{content_one_list, content_one_multiset, content_one_set}
use Rattle.x690.proofs.collections.contents_have_one_collection.Goals as goal

pub returns : goal.returns
returns g c =
    let R = g.E.Encodings.Strict in
    let are = g.E.Encodings.are in
    record { lists = content_one_list R are; multisets = content_one_multiset R are; sets = content_one_set R are }
