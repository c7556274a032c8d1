-- The text of a name of some relative names.
use Rattle.std.proofs.Common.{◌≡◌, ◌==◌, List, [], ◌∷◌, map, length, false, codes}
use Rattle.std.specs.List.{join_by}
use Rattle.asn1vec_answers.specs.Shown.{distinguished_name_text, relative_name_text}
use Rattle.asn1vec_answers.proofs.Walks.{joined_seen}
use Rattle.x509_name.specs.RelativeName.{listed_values}
use Rattle.x509_name.specs.declared.relative_name.RelativeDistinguishedName.{RelativeDistinguishedName}

pub some_rows : (rows : List RelativeDistinguishedName) → false ≡ (length rows == 0) →
    join_by (λ (r : RelativeDistinguishedName). relative_name_text (listed_values r)) (codes "/") rows ≡
    distinguished_name_text (map listed_values rows)
some_rows [] some = absurd (cc)
some_rows (row ∷ rows) some = joined_seen listed_values relative_name_text (codes "/") (row ∷ rows)
