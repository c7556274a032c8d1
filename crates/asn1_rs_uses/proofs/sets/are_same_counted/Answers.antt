use Rattle.std.proofs.Common.{◌≡◌, ◌∙◌, sym, ap, subst, ℕ, List, [], ◌++◌, arith, length}
use Rattle.std.proofs.lemmas.Slice.Eq.{bytes_eq-Decides}
use mathlib.Core.Logic.{∥∥₁_elim}
use mathlib.Core.Quot.{Quot-set}
use mathlib.Core.List.{is_set}
use native.Mathlib.Nat.{ℕ_set}
use Rattle.x690.specs.Collections.{multiset, AnyList}
use Rattle.asn1_rs.specs.Grammar.Form.{IsStrict}
use Rattle.asn1_rs.specs.Integer.{IntegerForm, IsUnsigned}
use Rattle.asn1_rs.specs.Set.{SetForm, items_of}
use Rattle.asn1_rs_uses.specs.Sets.{set_octets}
use Rattle.asn1_rs_uses.proofs.sets.are_same_counted.Goals as goal

octets_set : IsSet (List ℕ)
octets_set = is_set ℕ_set

pub returns-clause-same : goal.returns-clause-same
returns-clause-same c =
    let first : c.as_slice.result.now ≡ set_octets (items_of c.args.one.now) =
    c.as_slice.ensures.value ∙ c.in_ok-first.ensures.plain in
    let second : c.as_slice-2.result.now ≡ set_octets (items_of c.args.other.now) =
    c.as_slice-2.ensures.value ∙ c.in_ok-second.ensures.plain in
    let strict =
    (c.in_ok-first.ensures.headline c.is_der.ensures (omega (arith, ap length first, c.as_slice.type_inv.0))).0 in
    let other = (c.in_ok-second.ensures.headline c.is_der-2.ensures (omega (
      arith,
      ap length second,
      c.as_slice-2.type_inv.0,
    ))).0 in
    let same = bytes_eq-Decides c.as_slice.result.now c.as_slice-2.result.now in (
      λ h.
          let e = sym first ∙ same.0 (sym c.eq.ensures ∙ h) ∙ second in
          ∥∥₁_elim strict (Quot-set _ _) (λ s. ∥∥₁_elim other (Quot-set _ _) (λ t.
          (c.words_and_values_are_unique.ensures.apart _ _ [] [] _ _ s t (ap (λ (z : List ℕ). z ++ []) e)).1)),
      λ e.
          let alike = ∥∥₁_elim strict (octets_set _ _) (λ s. ∥∥₁_elim other (octets_set _ _)
          (λ t. c.words_and_values_are_unique.ensures.strict _ _ _ (subst (λ m. IsStrict (SetForm multiset AnyList
          (IntegerForm (IsUnsigned 1))) m (set_octets (items_of c.args.one.now))) e s) t)) in
          c.eq.ensures ∙ same.1 (first ∙ alike ∙ sym second),
    )
