use Rattle.std.proofs.Common.{◌≡◌, ◌∙◌, ap, sym, subst, List, ℕ, ◌++◌, IsUtf8}
use Rattle.asn1_words.specs.Numbers.{arcs, dotted_arcs}
use Rattle.asn1_json.proofs.Decimals.{arcs_are_utf8}
use Rattle.asn1_json.proofs.leaves.arcs_text.Goals as goal

pub string_of-requires : goal.string_of-requires
string_of-requires c =
    let z = arcs c.args.relative c.args.content.now in
    let is : c.as_slice.result.now ≡ dotted_arcs z =
    c.as_slice.ensures.value ∙ c.in_ok-push_arcs.ensures ∙ ap (λ (t : List ℕ). t ++ dotted_arcs z) c.new-text.ensures.items in
    subst IsUtf8 (sym is) (arcs_are_utf8 z)
