use Rattle.std.proofs.Common.{◌≡◌, ◌∙◌, ap, sym, subst, ℕ, ◌*◌, ◌-◌, ◌≤◌, List, length, take, Some, Ok, arith}
use Rattle.std.proofs.lemmas.List.{length-take-le}
use Rattle.json.specs.Json.{number}
use Rattle.asn1_words.specs.Words.{number_text}
use Rattle.asn1_schema.specs.Grammar.{bits_in}
use Rattle.asn1_schema.proofs.BitContents.{bits_length}
use Rattle.asn1_json.specs.Leaves.{octets_of_bits}
use Rattle.asn1_json.proofs.MadeLeaves.{some_is}
use Rattle.json.specs.Value.{members_view}
use Rattle.asn1_json.specs.DenotedLeaves.{DenotesBits}
use Rattle.asn1_json.proofs.BitsBack.{one_bits}
use Rattle.asn1_json.proofs.Members.{members_counted}
use Rattle.asn1_json.proofs.reading.bits.bits_of.Goals as goal

pub returns-in-Some-3 : goal.returns-in-Some-3
returns-in-Some-3 c =
    let o = c.in-Some-2.octets.items in
    let u = c.in-Some-3.unused in
    let bs = take (8 * length o - u) (bits_in o) in
    let hex = some_is _ _ c.in_ok-octets.field-0 c.in-Some-2.octets c.in-Some-2.is c.in_ok-octets.ensures in
    let said = some_is _ _ c.in_ok-unused.field-0 u c.in-Some-3.is c.in_ok-unused.ensures.number in
    let filled = some_is _ _ c.in_ok-unused.field-0 u c.in-Some-3.is c.in_ok-unused.ensures.filled in
    let full : o ≡ octets_of_bits bs = subst (λ (x : List ℕ). x ≡ octets_of_bits (take (8 * length x - u) (bits_in x))) c.deref.ensures.value filled in
    let all : length (bits_in o) ≡ 8 * length o = bits_length o in
    let few : 8 * length o - u ≤ length (bits_in o) = omega (arith, all) in
    let count : length bs ≡ 8 * length o - u = length-take-le (8 * length o - u) (bits_in o) few in
    let two : length c.args.members.now ≡ 2 = grind (arith, c.if-members-ne2.false) in
    let denoted : DenotesBits (members_view c.args.members.now) bs = record {
      text = c.in-Some.text.now;
      value = c.in-Some.ensures;
      octets = hex.0 ∙ ap Ok full;
      length = c.in-Some-number_member.ensures ∙ ap (λ (t : List ℕ). Some (number t)) (said ∙ ap (λ (x : List ℕ). number_text (8 * length x - u)) c.deref.ensures.value ∙ ap number_text (sym count));
      both = members_counted c.args.members.now ∙ two;
    } in
    (denoted, (λ cs d. one_bits (members_view c.args.members.now) cs bs d denoted))

pub returns-then-members-ne2 : goal.returns-then-members-ne2
returns-then-members-ne2 c = λ cs d.
    let n : length c.args.members.now ≡ 2 = sym (members_counted c.args.members.now) ∙ d.both in
    absurd (grind (arith, c.if-members-ne2.true, n))
