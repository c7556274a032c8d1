use Rattle.std.proofs.Common.{◌≡◌, ◌∙◌, ℕ, Bool, MatchOption, ap, subst}
use Rattle.asn1_headers.specs.Class.{class_number}
use Rattle.asn1_headers.specs.declared.tag.Tag.{Tag}
use Rattle.asn1_strict.specs.Universal.{IsProperOf}
use Rattle.asn1_strict.specs.Requirements.{Misses}
use Rattle.asn1_strict.proofs.walk.departure_of_element.Goals as goal

pub returns : goal.returns
returns c =
    let h = c.args.header.now in
    let class : c.number.result ≡ class_number h.class = c.number.ensures ∙ ap class_number c.class.ensures in
    let number : c.tag.result.0 ≡ h.tag.0 = ap (λ (t : Tag). t.0) c.tag.ensures in
    let Says : ℕ → ℕ → Bool → Type 0 = λ k n b. MatchOption c.departure_of.result
    (IsProperOf k n b c.args.content.now) (λ requirement. Misses requirement k n b c.args.content.now) in
    subst (λ (k : ℕ). Says k h.tag.0 h.constructed) class
    (subst (λ (n : ℕ). Says c.number.result n h.constructed) number
    (subst (λ (b : Bool). Says c.number.result c.tag.result.0 b) c.constructed.ensures c.departure_of.ensures))
