use Rattle.std.specs.Prelude.{◌∷◌}
use Rattle.x690.specs.Laws.Ascending.{ascending_none, ascending_one, ascending_cons, ascending_first, ascending_rest}
use Rattle.x690.specs.Laws.Ascending.{ascending_later}
use Rattle.x690.proofs.ascending.ascending_strings_are_in_order.Goals as goal

pub returns : goal.returns
returns c = record {
  none = ascending_none;
  one = ascending_one;
  next =
      λ x y ys. (λ up. (ascending_first x y ys up, ascending_rest x (y ∷ ys) up), λ h. ascending_cons x y ys h.0 h.1);
  later = ascending_later;
}
