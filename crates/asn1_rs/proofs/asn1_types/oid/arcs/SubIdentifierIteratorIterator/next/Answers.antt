use Rattle.std.proofs.Common.{◌≡◌, ℕ, ◌^◌, ◌<◌, Bool, true, List, drop, sym, subst, rules}
use Rattle.std.specs.List.{All}
use Rattle.std.proofs.lemmas.List.{take_rest}
use Rattle.x690.specs.Arcs.{arcs_of}
use Rattle.x690.specs.Laws.Arcs.Fronts.{rest_fits}
use Rattle.asn1_rs.proofs.asn1_types.oid.arcs.SubIdentifierIteratorIterator.next.Goals as goal

abbrev AreSmall : List ℕ → Type 0
AreSmall arcs = All (λ arc. arc < 2 ^ 64) arcs

pub invariant_of-self-2 : goal.invariant_of-self-2
invariant_of-self-2 c =
    let s = c.args.self.now in
    let octets = s.left.now in
    let call = c.subidentifier-arc in
    let n = call.result.1 in
    let is : s.relative ≡ true = search rules in
    let few : AreSmall (arcs_of true (drop n octets)) = rest_fits octets n call.result.0 call.ensures.numbers
    (subst (λ (b : Bool). AreSmall (arcs_of b octets)) is s.fits) in
    record {
      fits = subst (λ (ys : List ℕ). AreSmall (arcs_of s.relative ys)) (sym (take_rest octets n))
          (subst (λ (b : Bool). AreSmall (arcs_of b (drop n octets))) (sym is) few);
    }
