use Rattle.x690.specs.Collections.{IsListContent, IsMultisetContent, IsSetContent}
use Rattle.x690.specs.Laws.Collections.{list_one_content, multiset_one_content, set_one_content, content_one_list}
use Rattle.x690.specs.Laws.Collections.{content_one_multiset, content_one_set}
use Rattle.x690.specs.Laws.Words.{content_encodings}
use Rattle.x690.proofs.collections.collections_are_encoded.Goals as goal

pub returns-clause-lists : goal.returns-clause-lists
returns-clause-lists g c = λ id.
    let R = g.E.Encodings.Strict in
    let are = g.E.Encodings.are in
    content_encodings id (IsListContent R) (list_one_content R are) (content_one_list R are)

pub returns-clause-multisets : goal.returns-clause-multisets
returns-clause-multisets g c = λ id.
    let R = g.E.Encodings.Strict in
    let are = g.E.Encodings.are in
    content_encodings id (IsMultisetContent R) (multiset_one_content R are) (content_one_multiset R are)

pub returns-clause-sets : goal.returns-clause-sets
returns-clause-sets g c = λ id.
    let R = g.E.Encodings.Strict in
    let are = g.E.Encodings.are in
    content_encodings id (IsSetContent R) (set_one_content R are) (content_one_set R are)
