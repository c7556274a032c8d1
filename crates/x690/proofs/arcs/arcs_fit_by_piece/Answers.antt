use Rattle.std.proofs.Common.{◌≡◌, ◌≢◌, ℕ, ◌+◌, ◌^◌, ◌<◌, ◌≤◌, Bool, true, false, List, [], ◌∷◌, length, take, subst}
use Rattle.std.proofs.Common.{sym, ap, arith, refl}
use Rattle.std.specs.List.{All}
use Rattle.std.proofs.lemmas.List.{take_rest, length-take-le}
use Rattle.x690.specs.Digits.{base_128_value}
use Rattle.x690.specs.Arcs.{subidentifiers, arcs_of}
use Rattle.x690.specs.Laws.StrictIdentifiers.{power_le, value_lt}
use Rattle.x690.specs.Laws.Arcs.{split_but_zero}
use Rattle.x690.specs.Laws.Arcs.Beginnings.{arcs_fit}
use Rattle.x690.specs.Laws.Arcs.Fronts.{AreBelow, small_below, below_small, split_below, below_split, below_more}
use Rattle.x690.specs.Laws.Arcs.Fronts.{below_rest}
use Rattle.x690.proofs.arcs.arcs_fit_by_piece.Goals as goal
use Rattle.x690.proofs.arcs.arcs_fit_by_piece.Goals.{then-relative, else-relative}
use Rattle.x690.proofs.arcs.arcs_fit_by_piece.Goals.{else-len-ge10-via-then-len-ge10+else-not-is_below}
use Rattle.x690.proofs.arcs.arcs_fit_by_piece.Goals.{else-len-ge10-via-else-len-ge10}

abbrev AreSmall : List ℕ → Type 0
AreSmall arcs = All (λ arc. arc < 2 ^ 64) arcs

pub returns-then-octets-lt10 : goal.returns-then-octets-lt10
returns-then-octets-lt10 c =
    let octets = c.args.octets.now in (
      λ e k d within. omega (
        arith,
        arcs_fit c.args.relative octets k d within,
        power_le 9 (length octets) (omega arith),
      ),
      λ a. refl,
    )

-- before the first piece
relative_bound : (relative : Bool) (bound : ℕ) (octets : List ℕ) → relative ≡ true → bound ≡ 2 ^ 64 →
    (AreBelow bound (subidentifiers octets) → AreSmall (arcs_of relative octets)) ×
    (AreSmall (arcs_of relative octets) → AreBelow bound (subidentifiers octets))
relative_bound false bound octets r e = cc
relative_bound true bound octets r e = (
  λ b. below_small (subidentifiers octets) (subst (λ (n : ℕ). AreBelow n (subidentifiers octets)) e b),
  λ a. subst (λ (n : ℕ). AreBelow n (subidentifiers octets)) (sym e) (small_below (subidentifiers octets) a),
)

absolute_bound : (relative : Bool) (bound : ℕ) (octets : List ℕ) → 2 ≤ length octets → relative ≡ false →
    bound ≡ 2 ^ 64 + 80 → (AreBelow bound (subidentifiers octets) → AreSmall (arcs_of relative octets)) ×
    (AreSmall (arcs_of relative octets) → AreBelow bound (subidentifiers octets))
absolute_bound true bound octets l r e = cc
absolute_bound false bound octets l r e =
    let ns = subidentifiers octets in
    let some : octets ≢ 0 ∷ [] = λ z. let m = ap length z in absurd (omega (arith, m, l)) in
    let split = split_but_zero octets some in (
      λ b. subst AreSmall (sym split) (below_split ns (subst (λ (n : ℕ). AreBelow n ns) e b)),
      λ a. subst (λ (n : ℕ). AreBelow n ns) (sym e) (split_below ns (subst AreSmall split a)),
    )

pub loop-rest-init : goal.loop-rest-init
loop-rest-init c =
    let octets = c.args.octets.now in
    elim c.if-relative.branch [
      | then-relative w ↦
          let b = relative_bound c.args.relative c.if-relative.bound octets w.if-relative.true w.bound-is in
          record { bound = omega (arith, w.bound-is); great = omega (arith, w.bound-is); fits = b.0; fit = b.1 }
      | else-relative w ↦
          let b =
          absolute_bound c.args.relative c.if-relative.bound octets (omega arith) w.if-relative.false w.bound-is in
          record { bound = omega (arith, w.bound-is); great = omega (arith, w.bound-is); fits = b.0; fit = b.1 }
    ]

-- a piece of nine octets or fewer says less than 2^63
few_octets : (n bound : ℕ) (octets : List ℕ) → n ≤ length octets → n < 10 → 2 ^ 64 ≤ bound →
    base_128_value (take n octets) < bound
few_octets n bound octets within few great =
    let l : length (take n octets) ≡ n = length-take-le n octets within in
    omega (arith, value_lt (take n octets), power_le 9 (length (take n octets)) (omega arith))

pub loop-rest-preserved : goal.loop-rest-preserved
loop-rest-preserved c =
    let rest = c.loop-rest.rest.now in
    let bound = c.loop-rest.bound in
    let n = c.first_piece_len-len.result in
    let piece = c.first_piece_len-len.ensures.piece in
    let less : base_128_value (take n rest) < bound = elim c.else-len-ge10.branch [
      | else-len-ge10-via-then-len-ge10+else-not-is_below w ↦ w.is_below.ensures.0 w.if-not-is_below.false
      | else-len-ge10-via-else-len-ge10 w ↦
          few_octets n bound rest c.first_piece_len-len.ensures.within w.if-len-ge10.false c.loop-rest.invariant.great
    ] in
    record {
      bound = omega arith;
      great = omega arith;
      fits = λ b. c.loop-rest.invariant.fits (below_more bound n rest piece less
          (subst (λ (ys : List ℕ). AreBelow (2 ^ 64) (subidentifiers ys)) (take_rest rest n) b));
      fit = λ a. subst (λ (ys : List ℕ). AreBelow (2 ^ 64) (subidentifiers ys)) (sym (take_rest rest n))
          (below_rest bound n rest piece (c.loop-rest.invariant.fit a));
    }
