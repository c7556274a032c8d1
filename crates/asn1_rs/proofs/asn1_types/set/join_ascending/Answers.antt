use Rattle.std.proofs.Common.{◌≡◌, ℕ, List, arith, ap, subst, sym, ◌∙◌}
use Rattle.std.proofs.lemmas.Grind.{common_steps}
use Rattle.std.specs.Borrow.{Bor}
use Rattle.std.specs.List.{concat, flat_map}
use Rattle.std.specs.Prelude.{map}
use Rattle.x690.specs.Ascending.{arranged}
use Rattle.asn1_rs.specs.Laws.Lists.{joined_flat}
use Rattle.asn1_rs.proofs.asn1_types.set.join_ascending.Goals as goal

pub returns : goal.returns
returns c = λ strings e.
    let all : c.loop-piece.content.items ≡ flat_map (λ s. s.now) c.arrange.new.strings = grind (arith, common_steps) in
    let given = c.in_ok-pieces.ensures strings e in
    let same =
    subst (λ (xs : List (Bor (List ℕ))). map (λ s. s.now) xs ≡ strings) (sym c.deref_mut.ensures.value) given in
    all ∙ sym (joined_flat (λ s. s.now) c.arrange.new.strings)
    ∙ ap concat c.arrange.ensures
    ∙ ap (λ strings. concat (arranged strings)) same
