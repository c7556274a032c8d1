use Rattle.std.proofs.Common.{◌≡◌, ◌∙◌, ap, sym, subst, List, ℕ, ◌++◌, IsUtf8}
use Rattle.x690.specs.Digits.{twos_complement_value}
use Rattle.asn1_words.specs.Words.{integer_text}
use Rattle.asn1_json.proofs.Decimals.{integer_is_utf8}
use Rattle.asn1_json.proofs.leaves.integer_text.Goals as goal

pub string_of-requires : goal.string_of-requires
string_of-requires c =
    let z = twos_complement_value c.args.content.now in
    let is : c.as_slice.result.now ≡ integer_text z =
    c.as_slice.ensures.value ∙ c.in_ok-push_integer.ensures ∙ ap (λ (t : List ℕ). t ++ integer_text z) c.new-text.ensures.items in
    subst IsUtf8 (sym is) (integer_is_utf8 z)
