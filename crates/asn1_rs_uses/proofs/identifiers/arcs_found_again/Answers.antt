use Rattle.std.proofs.Common.{◌≡◌, ◌<◌, sym, subst, arith, ℕ, zero, suc, Bool, false, List, [], ◌∷◌, get_or}
use Rattle.std.specs.Prelude.{◌^◌}
use Rattle.std.specs.List.{All}
use Rattle.std.proofs.lemmas.List.Elements.{All-from_get_or}
use Rattle.x690.specs.Arcs.{arcs_of}
use Rattle.asn1_rs.specs.Oid.{is_relative, oid_octets}
use Rattle.asn1_rs.specs.Oid.Arcs.{ArcsFit}
use Rattle.asn1_rs.specs.Oid.Making.{arcs_back}
use Rattle.asn1_rs_uses.proofs.identifiers.arcs_found_again.Goals as goal

abbrev IsSmall : ℕ → Type 0
IsSmall arc = arc < 2 ^ 64

-- the arcs that come back are no greater than those that are given
back_small : (arcs : List ℕ) → All IsSmall arcs → All IsSmall (arcs_back false arcs)
back_small [] a = a
back_small (zero ∷ []) a = a
back_small (suc x ∷ []) a = a
back_small (zero ∷ zero ∷ []) a = λ k d lt.
    let first : k ≡ 0 = omega (arith, lt) in
    subst (λ (j : ℕ). IsSmall (get_or (0 ∷ []) j d)) (sym first) (omega arith)
back_small (zero ∷ zero ∷ z ∷ arcs) a = a
back_small (zero ∷ suc y ∷ arcs) a = a
back_small (suc x ∷ y ∷ arcs) a = a

pub returns-in_default : goal.returns-in_default
returns-in_default c =
    let x = c.in_ok-oid.oid in
    let made = c.in_ok-oid.ensures in
    let small : All IsSmall c.args.arcs.now =
    All-from_get_or IsSmall c.args.arcs.now 0 (λ k lt. omega (arith, c.type_inv.arcs k)) in
    let back : All IsSmall (arcs_of false (oid_octets x)) =
    subst (All IsSmall) (sym made.back) (back_small c.args.arcs.now small) in
    let fit : ArcsFit (is_relative x) (oid_octets x) =
    subst (λ (b : Bool). All IsSmall (arcs_of b (oid_octets x))) (sym made.kind) back in
    c.in_default.ensures fit
