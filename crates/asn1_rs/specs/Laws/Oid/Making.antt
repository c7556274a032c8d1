-- Laws of object identifiers that are made of arcs and of text.
use Rattle.std.proofs.Common.{◌≡◌, ◌≢◌, ◌∙◌, ap, refl, subst, sym, ℕ, suc, zero, true, false, List, [], ◌∷◌, ◌++◌}
use Rattle.std.proofs.Common.{arith}
use Rattle.std.specs.Int.Digits.{AllBelowBase}
use Rattle.std.proofs.lemmas.Bool.{false≢true}
use Rattle.x690.specs.Identifiers.{AreTagDigits}
use Rattle.x690.specs.Arcs.{AreAbsoluteArcs, AreShortest, arcs_octets, arcs_of, subidentifier_octets, with_first_joined}
use Rattle.x690.specs.Strict.{tag_digits}
use Rattle.x690.specs.Laws.Arcs.{absolute_back, arcs_octets_shortest, subidentifiers_back}
use Rattle.x690.specs.Laws.Octets.{below_octets, octets_append}
use Rattle.x690.specs.Laws.StrictIdentifiers.{tag_digits_are}
use Rattle.x690.specs.Octets.{IsOctets}
use Rattle.asn1_rs.specs.declared.asn1_types.oid.Oid.{Oid}
use Rattle.asn1_rs.specs.Oid.{is_relative, oid_octets}
use Rattle.asn1_rs.specs.Oid.Making.{IsOidOf, arcs_back}

-- The arcs come back.

-- which arcs an object identifier has that was made of arcs
absolute_arcs_back : (arcs : List ℕ) → AreAbsoluteArcs arcs →
    arcs_of false (arcs_octets false arcs) ≡ arcs_back false arcs
absolute_arcs_back [] a = absurd a
absolute_arcs_back (zero ∷ []) a = absolute_back (zero ∷ []) a (λ e. cc)
absolute_arcs_back (suc x ∷ []) a = absolute_back (suc x ∷ []) a (λ e. cc)
absolute_arcs_back (zero ∷ zero ∷ []) a = refl
absolute_arcs_back (zero ∷ zero ∷ z ∷ arcs) a = absolute_back (zero ∷ zero ∷ z ∷ arcs) a (λ e. cc)
absolute_arcs_back (zero ∷ suc y ∷ arcs) a = absolute_back (zero ∷ suc y ∷ arcs) a (λ e. cc)
absolute_arcs_back (suc x ∷ y ∷ arcs) a = absolute_back (suc x ∷ y ∷ arcs) a (λ e. cc)

-- They are not none.
some_back : (arcs : List ℕ) → AreAbsoluteArcs arcs → arcs_back false arcs ≢ []
some_back [] a = absurd a
some_back (zero ∷ []) a = λ e. cc
some_back (suc x ∷ []) a = λ e. cc
some_back (zero ∷ zero ∷ []) a = λ e. cc
some_back (zero ∷ zero ∷ z ∷ arcs) a = λ e. cc
some_back (zero ∷ suc y ∷ arcs) a = λ e. cc
some_back (suc x ∷ y ∷ arcs) a = λ e. cc

-- What is made.

-- the digits of numbers are octets
digits_below : (digits : List ℕ) → AreTagDigits digits → AllBelowBase 256 digits
digits_below [] d = tt
digits_below (last ∷ []) d = (omega arith, tt)
digits_below (digit ∷ next ∷ digits) d = (d.1, digits_below (next ∷ digits) d.2)

-- The digits of subidentifiers are octets.
numbers_octets : (ns : List ℕ) → IsOctets (subidentifier_octets ns)
numbers_octets [] = below_octets [] tt
numbers_octets (n ∷ ns) = octets_append (tag_digits n) (subidentifier_octets ns)
    (below_octets (tag_digits n) (digits_below (tag_digits n) (tag_digits_are n))) (numbers_octets ns)

-- the octets of the first subidentifier, and behind them those of the other arcs, are the identifier of the arcs
pub absolute_made : (arcs : List ℕ) (first : ℕ) (more : List ℕ) (x : Oid) → AreAbsoluteArcs arcs →
    with_first_joined arcs ≡ first ∷ more → is_relative x ≡ false →
    oid_octets x ≡ tag_digits first ++ subidentifier_octets more → IsOidOf false arcs x
absolute_made arcs first more x a joined kind e =
    let octets : oid_octets x ≡ arcs_octets false arcs = rw joined e in
    let back : arcs_of false (oid_octets x) ≡ arcs_back false arcs =
    ap (arcs_of false) octets ∙ absolute_arcs_back arcs a in
    let shortest : AreShortest (oid_octets x) = subst AreShortest (sym octets) (arcs_octets_shortest false arcs) in
    record {
      taken = a;
      kind = kind;
      octets = octets;
      back = back;
      shortest = shortest;
      strict = λ _. record {
        absolute = kind;
        octets = subst IsOctets (sym octets) (numbers_octets (with_first_joined arcs));
        some = λ none. some_back arcs a (sym back ∙ ap (arcs_of false) none);
        shortest = shortest;
      };
    }

-- so of a relative one, whose subidentifiers are the arcs
pub relative_made : (arcs : List ℕ) (x : Oid) → arcs ≢ [] → is_relative x ≡ true →
    oid_octets x ≡ subidentifier_octets arcs → IsOidOf true arcs x
relative_made arcs x some kind octets = record {
  taken = some;
  kind = kind;
  octets = octets;
  back = ap (arcs_of true) octets ∙ subidentifiers_back arcs;
  shortest = subst AreShortest (sym octets) (arcs_octets_shortest true arcs);
  strict = λ absolute. absurd (false≢true (sym absolute));
}
