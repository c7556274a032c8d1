use Rattle.std.proofs.Common.{◌≡◌, ◌∙◌, sym, subst, refl, true, ℕ, List, length}
use Rattle.std.specs.Prelude.{nat_eq}
use Rattle.std.proofs.lemmas.Bool.{eqb-true}
use Rattle.std.proofs.lemmas.List.{nil_from_length}
use Rattle.asn1_rs_profiles.proofs.joined.pieces.is_at_end.Goals as goal

pub returns-clause-yes : goal.returns-clause-yes
returns-clause-yes c = λ y. nil_from_length c.args.octets.now
    (eqb-true (length c.args.octets.now) 0 (sym c.is_empty.ensures ∙ y))

pub returns-clause-no : goal.returns-clause-no
returns-clause-no c = λ e. c.is_empty.ensures ∙ subst (λ (z : List ℕ). nat_eq (length z) 0 ≡ true) (sym e) refl
