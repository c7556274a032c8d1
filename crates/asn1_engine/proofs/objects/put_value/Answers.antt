use Rattle.std.proofs.Common.{◌≡◌, Bool, List, ℕ, [], ◌∷◌, sym, subst, ◌∙◌, codes}
use Rattle.hex.specs.Hex.{encode_lower}
use Rattle.json.specs.Token.{key, string}
use Rattle.asn1_engine.specs.Objects.{GainsTokens, value_tokens}
use Rattle.asn1_engine.proofs.Gained.{gains_twice}
use Rattle.asn1_engine.proofs.objects.put_value.Goals as goal

pub returns : goal.returns
returns c =
    let old = c.args.out.now in
    let new = c.put_text-2.new.out in
    let line = c.args.line.now in
    let value = c.args.value.now in
    let both = gains_twice old c.put_text.new.out new _ _ c.in_ok-put_text.ensures c.in_ok-put_text-2.ensures in
    let is : c.as_str.result.now ≡ encode_lower line.content.now = c.as_str.ensures.value ∙ c.in_ok-octets.ensures in
    subst (λ (is_constructed : Bool). GainsTokens old new (value_tokens is_constructed line value))
    (sym c.if-line.false)
    (subst (λ (octets : List ℕ). GainsTokens old new (key (codes "value") ∷ string value ∷ key (codes "octets") ∷ string octets ∷ [])) is both)
