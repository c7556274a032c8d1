use Rattle.std.proofs.Common.{◌≡◌, ◌∙◌, ap, sym, List, [], ◌∷◌}
use Rattle.std.proofs.lemmas.List.{nil_from_length}
use Rattle.asn1_schema.specs.declared.tape.Item.{Item}
use Rattle.asn1_schema.specs.Tape.{Mark, mark, marks, pieces_mark}
use Rattle.asn1_schema.proofs.cursor.is_in_pieces.Goals as goal

pub returns-in-Some-clause-yes : goal.returns-in-Some-clause-yes
returns-in-Some-clause-yes c = λ t.
    let p = c.begins_pieces.ensures.yes t in (
      p.0,
      marks c.in-Some._others.now,
      ap (λ (z : List Item). marks z) c.in-Some.ensures.cases.0
          ∙ ap (λ (m : Mark). m ∷ marks c.in-Some._others.now) p.1,
    )

pub returns-in-Some-clause-no : goal.returns-in-Some-clause-no
returns-in-Some-clause-no c = λ n others e.
    let f : marks c.args.value.now ≡ mark c.in-Some.item.now ∷ marks c.in-Some._others.now =
    ap (λ (z : List Item). marks z) c.in-Some.ensures.cases.0 in
    let same : mark c.in-Some.item.now ≡ pieces_mark n = cc in
    c.begins_pieces.ensures.no n same

pub returns-in-None-clause-no : goal.returns-in-None-clause-no
returns-in-None-clause-no c = λ n others e.
    let f = ap (λ (z : List Item). marks z) (nil_from_length c.args.value.now c.in-None.ensures.cases) in
    absurd (cc)
