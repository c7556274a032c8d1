use Rattle.std.proofs.Common.{◌≡◌, ◌∙◌, sym, subst, ℕ, ◌+◌, ◌<◌, length, take, None, Some, MatchOption, arith}
use Rattle.json.specs.Find.{get_member}
use Rattle.json.specs.Value.{members_view, value_view}
use Rattle.asn1_json.proofs.Members.{member_here, member_other}
use Rattle.asn1_json.proofs.reading.names.member_named.Goals as goal
use Rattle.asn1_json.proofs.reading.names.member_named.Goals.{then-eq, else-eq}

pub loop-place-preserved : goal.loop-place-preserved
loop-place-preserved c =
    let members = c.args.members.now in
    let name = c.args.name.now in
    let i = c.loop-place.place in
    let lt : i < length members = grind (arith, c.loop-place-test.true, c.loop-place.auto.place-end) in
    elim c.if-eq.branch [
      | then-eq w ↦ subst (λ o. MatchOption o (get_member name (members_view (take (i + 1) members)) ≡ None)
          (λ found. get_member name (members_view (take (i + 1) members)) ≡ Some (value_view found.1.now)))
          (sym w.found-is) (member_here name members i _ lt c.index-members-place.result c.index-members-place.is (sym c.eq.ensures ∙ w.if-eq.true))
      | else-eq w ↦ subst (λ o. MatchOption o (get_member name (members_view (take (i + 1) members)) ≡ None)
          (λ found. get_member name (members_view (take (i + 1) members)) ≡ Some (value_view found.1.now)))
          (sym w.found-is) (subst (λ g. MatchOption c.loop-place.found (g ≡ None) (λ found. g ≡ Some (value_view found.1.now)))
          (sym (member_other name members i _ lt c.index-members-place.result c.index-members-place.is (sym c.eq.ensures ∙ w.if-eq.false))) c.loop-place.invariant)
    ]
