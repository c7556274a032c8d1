use Rattle.std.proofs.Common.{◌∙◌, ◌++◌, ap, codes, List, ℕ}
use Rattle.std.proofs.lemmas.Result.{on_ok_weaker}
use Rattle.asn1vec_answers.specs.Shown.{attribute_text}
use Rattle.asn1vec_answers.proofs.Walks.{joined_seen, slice_yields}
use Rattle.asn1vec_answers.proofs.distinguished.RelativeDistinguishedNameEncoded.show.Goals as goal
use Rattle.x509_name.specs.Attribute.{attribute_value}
use Rattle.x509_name.specs.RelativeName.{attributes}

pub returns : goal.returns
returns c =
    let row = attributes c.args.self.now in
    on_ok_weaker c.push_joined.result (λ more. more ∙ ap (λ (l : List ℕ). c.args.text.now.items ++ l)
    (joined_seen attribute_value attribute_text (codes "+") row))
    (c.push_joined.ensures row (slice_yields c.iter.result row (cc)))
