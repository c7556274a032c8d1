use Rattle.std.proofs.Common.{rules, ◌≡◌, ◌∙◌, ap, ℕ, ◌+◌, ◌<◌, ◌≤◌, length, arith}
use Rattle.asn1_schema.specs.Tape.{tapes_of}
use Rattle.asn1_schema.specs.Writing.{row_behind}
use Rattle.asn1_schema.proofs.MembersCounted.{one_behind, member_counted, none_left, all_counted}
use Rattle.asn1_schema.proofs.put_rows.count_members.Goals as goal

pub returns-then-is_empty : goal.returns-then-is_empty
returns-then-is_empty c = λ kept is.
    let i = c.loop.invariant.left kept is in
    let none : length c.loop.rest.now ≡ 0 = search rules in
    c.loop.invariant.counted ∙ none_left c.args.items.now c.loop.rest.now c.loop.counter kept is i.0 i.1 none

pub loop-preserved : goal.loop-preserved
loop-preserved c = record {
  counted = ap (λ (n : ℕ). n + 1) c.loop.invariant.counted;
  left = λ kept is.
      let i = c.loop.invariant.left kept is in
      let some : 0 < length c.loop.rest.now = search rules in (
        c.behind_first-rest.ensures (row_behind c.loop.counter kept) i.0 ∙ ap tapes_of (one_behind c.loop.counter kept),
        member_counted c.args.items.now c.loop.rest.now c.loop.counter kept is i.0 i.1 some,
      );
}

pub returns : goal.returns
returns c = λ kept is.
    let i = c.loop.invariant.left kept is in
    let end = c.loop-test.false in
    let all : length c.args.items.now ≤ c.loop.counter = grind (arith, end) in
    c.loop.invariant.counted ∙ all_counted c.args.items.now c.loop.rest.now c.loop.counter kept is i.0 i.1 all
