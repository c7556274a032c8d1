use Rattle.std.proofs.Common.{◌≡◌, ◌∙◌, ◌++◌, ◌==◌, ap, false, length, List, ℕ}
use Rattle.std.proofs.lemmas.Result.{on_ok_weaker}
use Rattle.asn1vec_answers.proofs.NameTexts.{some_rows}
use Rattle.asn1vec_answers.proofs.Walks.{slice_yields}
use Rattle.asn1vec_answers.proofs.distinguished.NameEncoded.show.Goals as goal
use Rattle.x509_name.specs.Name.{relative_names}

pub returns : goal.returns
returns c =
    let rows = relative_names c.args.self.now in
    let value = c.deref.ensures.value in
    let count = c.deref.ensures.len in
    let empty = c.if-is_empty.ensures in
    let some : false ≡ (length rows == 0) = cc in
    on_ok_weaker c.push_joined.result (λ more. more
    ∙ ap (λ (l : List ℕ). c.args.text.now.items ++ l) (some_rows rows some))
    (c.push_joined.ensures rows (slice_yields c.iter.result rows (cc)))
