use Rattle.std.proofs.Common.{◌≡◌, ◌∷◌, [], ◌++◌, false, refl, sym, ap, ◌∙◌}
use Rattle.x690.specs.Strict.{header_octets, identifier_octets, length_octets}
use Rattle.asn1_rs.specs.Boolean.{truth_octet}
use Rattle.asn1_rs.proofs.asn1_types.boolean.truth_piece.Goals as goal

header_of_one : header_octets 0 false 1 1 ≡ 1 ∷ 1 ∷ []
unfolding header_octets identifier_octets length_octets
header_of_one = refl

pub returns : goal.returns
returns c = (
  refl,
  c.new.ensures.count,
  c.new.ensures.octets ∙ ap (λ octet. 1 ∷ 1 ∷ octet ∷ []) c.octet_of-octet.ensures
      ∙ ap (λ front. front ++ truth_octet c.args.truth ∷ []) (sym header_of_one),
)
