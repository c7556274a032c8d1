use Rattle.std.proofs.Common.{◌≡◌, ℕ, Bool, true, List, ◌++◌, Option, option_map, refl, ap, sym, ◌∙◌, append_assoc}
use Rattle.asn1_words.specs.Numbers.{are_shown}
use Rattle.asn1_engine.specs.Values.{identifier_text, name_text, shown_arcs_text}
use Rattle.asn1_engine.proofs.values.push_identifier.Goals as goal

-- the text of an identifier that is shown by its arcs
shown : (width : ℕ) (relative : Bool) (name : Option (List ℕ)) (content : List ℕ) → are_shown relative content ≡ true →
    identifier_text width relative name content ≡ shown_arcs_text width relative content ++ name_text name
shown width relative name content e = rw e refl

pub returns : goal.returns
returns c =
    let name : Option (List ℕ) = option_map (λ n. n.now) c.shown_name-name.result in
    let text : List ℕ = shown_arcs_text c.args.width c.args.relative c.args.content.now in
    let all = shown c.args.width c.args.relative name c.args.content.now (sym c.if-not-have_arcs.ensures) in (
      name,
      λ _. c.shown_name-name.ensures,
      c.in_ok-push_name.ensures ∙ ap (λ l. l ++ name_text name) c.in_ok-push_shown_arcs.ensures
          ∙ append_assoc c.args.text.now.items text (name_text name)
          ∙ ap (λ l. c.args.text.now.items ++ l) (sym all),
    )
