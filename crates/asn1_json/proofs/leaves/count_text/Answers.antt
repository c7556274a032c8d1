use Rattle.std.proofs.Common.{◌≡◌, ◌∙◌, ap, sym, subst, List, ℕ, ◌++◌, IsUtf8}
use Rattle.asn1_words.specs.Words.{number_text}
use Rattle.asn1_json.proofs.Decimals.{number_is_utf8}
use Rattle.asn1_json.proofs.leaves.count_text.Goals as goal

pub string_of-requires : goal.string_of-requires
string_of-requires c =
    let z = c.args.count in
    let is : c.as_slice.result.now ≡ number_text z =
    c.as_slice.ensures.value ∙ c.in_ok-push_number.ensures ∙ ap (λ (t : List ℕ). t ++ number_text z) c.new-text.ensures.items in
    subst IsUtf8 (sym is) (number_is_utf8 z)
