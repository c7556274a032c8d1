use Rattle.std.proofs.Common.{◌∙◌, ap, sym, refl, subst, [], ◌∷◌}
use Rattle.asn1_schema.specs.Owned.{Appends}
use Rattle.asn1_schema.specs.Tape.{Mark, kept_leaf}
use Rattle.asn1_json.specs.Made.{tape_of_value}
use Rattle.asn1_json.proofs.reading.leaf.put.Goals as goal

pub returns-in_ok-push-in-Ok : goal.returns-in_ok-push-in-Ok
returns-in_ok-push-in-Ok c = λ l is. record {
  kept = kept_leaf l;
  denotes = (refl, λ other e has. e);
  put = subst (λ (m : Mark). Appends c.args.made.now c.push.new.self (m ∷ [])) is c.in_ok-push-in-Ok.ensures;
}

pub returns-in-Err : goal.returns-in-Err
returns-in-Err c = λ l is refused v same has.
    c.in-Err.ensures v (ap (λ (m : Mark). m ∷ []) is ∙ ap tape_of_value (sym same)) refused has
