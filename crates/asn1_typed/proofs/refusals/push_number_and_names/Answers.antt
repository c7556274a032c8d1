use Rattle.std.proofs.Common.{◌++◌, ap, ◌∙◌}
use Rattle.asn1_words.specs.Words.{number_text}
use Rattle.asn1_typed.proofs.Appended.{two}
use Rattle.asn1_typed.proofs.refusals.push_number_and_names.Goals as goal

pub returns : goal.returns
returns c =
    let octet = c.in_ok-push_number.ensures ∙ ap (λ n. c.args.text.now.items ++ number_text n) c.saturating_add.ensures in
    (c.as_slice.result.now, two _ _ _ _ _ octet c.in_ok-extend_from_slice.ensures.items)
