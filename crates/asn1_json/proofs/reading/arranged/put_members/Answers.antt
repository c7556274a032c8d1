use Rattle.std.proofs.Common.{◌≡◌, ◌∙◌, ap, sym, subst, refl, ℕ, ◌+◌, ◌<◌, ◌≤◌, List, length, map, take, arith}
use Rattle.json.specs.Value.{items_of}
use Rattle.asn1_schema.specs.Tape.{tape_of, marks}
use Rattle.asn1_json.specs.Denotes.{Denotes, DenoteItems}
use Rattle.asn1_schema.specs.Owned.{Appends}
use Rattle.asn1_json.specs.Outcomes.{MakesRow, document_of}
use Rattle.asn1_json.proofs.ByKind.{no_item, next_item, all_items, member_next}
use Rattle.asn1_json.proofs.reading.arranged.put_members.Goals as goal

pub loop-member-init : goal.loop-member-init
loop-member-init c = λ types depth nesting of each. no_item document_of c.args.members.now (Denotes types depth nesting of) c.args.made.now

pub loop-member-preserved : goal.loop-member-preserved
loop-member-preserved c = λ types depth nesting of each.
    let Sub = Denotes types depth nesting of in
    let members = c.args.members.now in
    let i = c.loop-member.member-index in
    let lt : i < length members = grind (arith, c.loop-member-test.true) in
    let m = member_next Sub members i c.member-item.result _ c.member-item.is lt each in
    next_item document_of members Sub i c.member-item.result _ c.args.made.now c.loop-member.made c.append.new.self c.member-item.is lt
    (c.loop-member.invariant types depth nesting of each)
    (record {
      kept = m.0;
      denotes = m.2;
      put = subst (Appends c.loop-member.made c.append.new.self) (ap marks c.deref.ensures.value ∙ c.in_ok-tape.ensures ∙ m.1) c.in_ok-append.ensures;
    })

pub returns : goal.returns
returns c = λ types depth nesting of each.
    let Sub = Denotes types depth nesting of in
    let members = c.args.members.now in
    let le : length members ≤ c.loop-member.member-index = grind (arith, c.loop-member-test.false) in
    all_items document_of members Sub c.loop-member.member-index c.args.made.now c.loop-member.made le (c.loop-member.invariant types depth nesting of each)
