use Rattle.std.proofs.Common.{inl, refl, subst, sym}
use Rattle.asn1_engine.specs.Texts.{BeginsByCoding, character_text}
use Rattle.asn1_engine.proofs.Shown.{left_behind}
use Rattle.asn1_engine.proofs.texts.push_first.Goals as goal

pub returns-in_ok-push_character-in-Some-clause-shows : goal.returns-in_ok-push_character-in-Some-clause-shows
returns-in_ok-push_character-in-Some-clause-shows c =
    let b = c.in-Some.ensures.some in
    let e = left_behind c.args.coding c.args.octets.now c.in-Some.rest.now c.in-Some.character b in (
      character_text c.in-Some.character,
      inl (
        c.in-Some.character,
        subst (BeginsByCoding c.args.coding c.args.octets.now c.in-Some.character) (sym e) b,
        refl,
      ),
      c.in_ok-push_character-in-Some.ensures,
    )
