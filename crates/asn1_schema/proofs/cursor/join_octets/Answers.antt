use Rattle.std.proofs.Common.{List, ℕ, [], ◌++◌, ◌≡◌, ◌∙◌, ap, sym, drop, append-nil, arith}
use Rattle.std.proofs.lemmas.List.{drop_all}
use Rattle.asn1_schema.specs.declared.tape.Item.{Item}
use Rattle.asn1_schema.specs.Tape.{marks, Mark}
use Rattle.asn1_schema.specs.Joined.{all_octets}
use Rattle.asn1_schema.proofs.StringOctets.{octets_of_value}
use Rattle.asn1_schema.proofs.cursor.join_octets.Goals as goal

pub returns : goal.returns
returns c = λ kept sort said m v.
    let old = c.args.octets.now.items in
    let all = c.loop-item.octets.items in
    let end = c.loop-item-test.false in
    let none : drop c.loop-item.item-index c.args.value.now ≡ [] = drop_all c.loop-item.item-index c.args.value.now
    (grind (arith, end)) in
    sym (append-nil all) ∙ (ap (λ (xs : List Item). all ++ all_octets (marks xs)) (sym none)
    ∙ (c.loop-item.invariant ∙ (ap (λ (ms : List Mark). old ++ all_octets ms) m
    ∙ ap (λ (z : List ℕ). old ++ z) (octets_of_value kept sort said v))))
