use Rattle.std.proofs.Common.{◌≡◌, ◌≢◌, ℕ, ◌^◌, ◌<◌, Bool, true, false, List, [], ◌∷◌, length, get_or, ap, sym, subst}
use Rattle.std.specs.List.{All}
use Rattle.std.proofs.lemmas.List.{take_rest}
use Rattle.x690.specs.Arcs.{arcs_of}
use Rattle.x690.specs.Laws.Arcs.Fronts.{first_fits_absolute, rest_fits_absolute}
use Rattle.asn1_rs.proofs.asn1_types.oid.iterator.SubIdentifierIterator.split_first.Goals as goal
use Rattle.asn1_rs.proofs.asn1_types.oid.iterator.SubIdentifierIterator.split_first.Goals.{
  else-left-eq1-via-then-left-eq1+else-left-eq0,
}
use Rattle.asn1_rs.proofs.asn1_types.oid.iterator.SubIdentifierIterator.split_first.Goals.{
  else-left-eq1-via-else-left-eq1,
}

abbrev AreSmall : List ℕ → Type 0
AreSmall arcs = All (λ arc. arc < 2 ^ 64) arcs

absolute : (relative : Bool) (octets : List ℕ) → relative ≡ false → AreSmall (arcs_of relative octets) →
    AreSmall (arcs_of false octets)
absolute relative octets e a = subst (λ (b : Bool). AreSmall (arcs_of b octets)) e a

pub split_subidentifier-first-requires-clause-small : goal.split_subidentifier-first-requires-clause-small
split_subidentifier-first-requires-clause-small c =
    let s = c.args.self.now in
    first_fits_absolute s.left.now (absolute s.relative s.left.now c.requires.first s.fits)

pub invariant_of-self-2 : goal.invariant_of-self-2
invariant_of-self-2 c =
    let s = c.args.self.now in
    let octets = s.left.now in
    let call = c.split_subidentifier-first in
    let other : octets ≢ 0 ∷ [] = elim c.else-left-eq1.branch [
      | else-left-eq1-via-then-left-eq1+else-left-eq0 w ↦ λ e.
          let zero = ap (λ (xs : List ℕ). get_or xs 0 0) e in
          absurd (w.if-left-eq0.false zero)
      | else-left-eq1-via-else-left-eq1 w ↦ λ e. let one = ap length e in absurd (w.if-left-eq1.false one)
    ] in
    record {
      fits =
          subst (λ (ys : List ℕ). AreSmall (arcs_of true ys)) (sym (take_rest octets call.result.2)) (rest_fits_absolute
          octets call.result.2 _ other call.ensures.numbers (absolute s.relative octets c.requires.first s.fits));
    }
