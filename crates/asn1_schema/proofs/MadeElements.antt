-- Elements that are put in front.
use Rattle.std.proofs.Common.{◌≡◌, ◌∙◌, ap, subst, ℕ, ◌-◌, ◌<◌, ◌^◌, Bool, List, ◌++◌, length, arith, length-append}
use Rattle.std.specs.Prelude.{Result, Ok, Err}
use Rattle.x690.specs.Rules.{der_rule}
use Rattle.x690.specs.Strict.{header_octets, element_octets}
use Rattle.x690.specs.Laws.StrictElements.{made_strict_element, strict_is_definite, der_allows_strict}
use Rattle.asn1_headers.specs.Prepended.{Prepended}
use Rattle.asn1_headers.specs.declared.error.SerializeError.{SerializeError}
use Rattle.asn1_schema.specs.Writing.{MakesElement, Grew, id_with}

module _ (class : ℕ) (constructed : Bool) (number held count : ℕ) (old new : List ℕ) (result : Result ℕ SerializeError)
    (counted : count ≡ length old - held) (prepended : (octets behind : List ℕ) → Prepended octets behind old (Ok count) →
    Prepended (header_octets class constructed number (length octets) ++ octets) behind new result) where
  told : (content behind : List ℕ) → old ≡ content ++ behind → held ≡ length behind →
      Prepended (header_octets class constructed number (length content) ++ content) behind new result
  told content behind e h =
      let l = ap length e ∙ length-append content behind in
      let many : count ≡ length content = omega (arith, l, counted, h) in
      prepended content behind (record { ok = (e, many); err = tt; memory = tt })

  pub element_made : class < 4 → number < 2 ^ 32 → length old < 2 ^ 64 → (n : ℕ) → result ≡ Ok n →
      MakesElement (id_with class constructed number) held old new
  element_made low small room n is = λ content behind octets e h.
      let id = id_with class constructed number in
      let l = ap length e ∙ length-append content behind in
      let few : length content < 2 ^ 64 = omega (arith, l, room) in
      let q = subst (λ (z : Result ℕ SerializeError). Prepended (element_octets id content) behind new z) is
      (told content behind e h) in (
        element_octets id content,
        strict_is_definite der_rule der_allows_strict (element_octets id content) id content
            (made_strict_element id content low small few octets),
        q.ok.0,
      )

  pub element_grew : (content behind : List ℕ) → old ≡ content ++ behind → held ≡ length behind → Grew behind new
  element_grew content behind e h = by_result result (told content behind e h)
    where
      by_result : (r : Result ℕ SerializeError) →
          Prepended (header_octets class constructed number (length content) ++ content) behind new r → Grew behind new
      by_result (Ok n) p = (header_octets class constructed number (length content) ++ content, p.ok.0)
      by_result (Err x) p = (p.err.rest, p.err.grown)
