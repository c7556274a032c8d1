use Rattle.std.proofs.Common.{◌≡◌, ◌++◌, ap, sym, subst, ◌∙◌}
use Rattle.asn1_schema.specs.declared.schema.Tags.{Tags}
use Rattle.asn1_typed.specs.Tags.{listed_text, tags_text}
use Rattle.asn1_typed.proofs.Appended.{two}
use Rattle.asn1_typed.proofs.tags.push_tags.Goals as goal

pub returns-in_ok-push_listed-in-AllBut : goal.returns-in_ok-push_listed-in-AllBut
returns-in_ok-push_listed-in-AllBut c =
    subst (λ (tags : Tags). c.push_listed-in-AllBut.new.text.items ≡ c.args.text.now.items ++ tags_text tags)
    (sym c.in-AllBut.is)
    (two _ _ _ _ _ c.in_ok-push_str-in-AllBut.ensures
    (c.in_ok-push_listed-in-AllBut.ensures ∙ ap (λ l. c.push_str.new.text.items ++ listed_text l) c.deref-in-AllBut.ensures.value))
