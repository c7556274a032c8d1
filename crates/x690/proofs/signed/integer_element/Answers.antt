use Rattle.std.proofs.Common.{◌≡◌, ℕ, ◌+◌, ◌++◌, false, length, take, ap, ◌∙◌, arith, FitsSigned}
use Rattle.std.specs.Int.{w64, to_be_bytes}
use Rattle.std.proofs.lemmas.Int.{to_z-of_z}
use Rattle.x690.specs.Signed.{signed_octets}
use Rattle.x690.specs.Strict.{header_octets}
use Rattle.x690.proofs.Bytes.{element_bytes}
use Rattle.x690.proofs.signed.integer_element.Goals as goal

pub returns-clause-element : goal.returns-clause-element
returns-clause-element c =
    let content = c.highest_octets-content in
    let fits : FitsSigned w64 c.args.n = c.ranges.n in
    let octets : take content.result.1 (to_be_bytes w64 content.result.0) ≡ signed_octets c.args.n =
    simp to_z-of_z at content.ensures.octets in
    let count : content.result.1 ≡ length (signed_octets c.args.n) = simp to_z-of_z at content.ensures.count in
    let word : take content.result.1 (to_be_bytes w64 c.from-2.result) ≡ signed_octets c.args.n =
    ap (λ (w : ℕ). take content.result.1 (to_be_bytes w64 w)) c.from-2.ensures ∙ octets in
    ap (take (2 + content.result.1)) c.to_be_bytes.ensures
    ∙ element_bytes c.from.result content.result.1 c.from-2.result c.args.n
    (omega (arith, c.from.ensures)) content.ensures.few (omega (arith, c.from-2.ensures)) count word
    ∙ ap (λ (number : ℕ). header_octets 0 false number (length (signed_octets c.args.n)) ++ signed_octets c.args.n)
    c.from.ensures
