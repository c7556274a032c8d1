use Rattle.std.proofs.Common.{◌≡◌, ◌∙◌, ap, sym, ℕ, suc, ◌-◌, List, ◌++◌, length, take, drop, arith}
use Rattle.std.proofs.lemmas.List.{length-append, length-drop, drop-drop, take_all}
use Rattle.std.proofs.Math.Seq.{drop-append_seam}
use Rattle.asn1_schema.specs.declared.tape.Item.{Item}
use Rattle.asn1_schema.specs.Tape.{marks}
use Rattle.asn1_schema.specs.Cursor.{field_marks}
use Rattle.asn1_schema.proofs.Cursors.{this_field, next_fields}
use Rattle.asn1_schema.proofs.cursor.field_value.Goals as goal

-- the slice from a place on
from_place : (xs : List Item) (start : ℕ) → take (length xs - start) (drop start xs) ≡ drop start xs
from_place xs start =
    let size = length-drop start xs in take_all (length xs - start) (drop start xs) (omega (arith, size))

pub loop-preserved : goal.loop-preserved
loop-preserved c =
    let start = c.loop.start in
    let xs = c.args.fields.now in
    let items = take (length xs - start) (drop start xs) in
    let same = from_place xs start in
    let front = c.split_value.result.0.now in
    let back = c.split_value.result.1.now in
    let said = c.split_value.ensures in
    let joined : drop start xs ≡ front ++ back = sym same ∙ said.joined in
    let whole = ap (λ (ys : List Item). length ys) joined ∙ length-append front back in
    let size = length-drop start xs in
    let within = c.loop.invariant.within in
    let rest = ap (λ (ys : List Item). drop (length front) ys) joined ∙ drop-append_seam front back in
    record {
      within = omega (arith, whole, size, within);
      left = λ kept e.
          let l = c.loop.invariant.left kept e in
          let n = next_fields items front back l.0 (ap marks same ∙ l.1) said.value said.rest said.absent said.none in (
            n.0,
            ap marks (sym (drop-drop (length front) start xs) ∙ rest) ∙ n.1,
            λ j. ap (field_marks kept) (omega arith) ∙ l.2 (suc j) ∙ n.2 j,
          );
    }

pub returns : goal.returns
returns c = λ kept e.
    let start = c.loop.start in
    let xs = c.args.fields.now in
    let l = c.loop.invariant.left kept e in
    let said = c.split_value-2.ensures in
    let end = c.loop-test.false in
    let most = c.loop.auto.counter-end in
    this_field (take (length xs - start) (drop start xs)) c.split_value-2.result.0.now c.split_value-2.result.1.now l.0
    (ap marks (from_place xs start) ∙ l.1) said.value said.rest said.absent said.none ∙ sym (l.2 0)
    ∙ ap (field_marks kept) (grind (arith, end, most))
