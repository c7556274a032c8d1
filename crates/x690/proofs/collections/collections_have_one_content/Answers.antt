use Rattle.x690.specs.Laws.Collections.{list_one_content, multiset_one_content, set_one_content}
use Rattle.x690.proofs.collections.collections_have_one_content.Goals as goal

pub returns : goal.returns
returns g c =
    let R = g.E.Encodings.Strict in
    let are = g.E.Encodings.are in
    record { lists = list_one_content R are; multisets = multiset_one_content R are; sets = set_one_content R are }
