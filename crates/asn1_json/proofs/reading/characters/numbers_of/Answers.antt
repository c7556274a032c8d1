use Rattle.std.proofs.Common.{◌≡◌, ◌∙◌, ◌<◌, ap, sym, subst, ℕ, List, [], ◌∷◌, ◌++◌, append_assoc, append-nil, chars, arith}
use Rattle.std.specs.Str.Iter.{chars_rest}
use Rattle.std.proofs.lemmas.Bool.Decides.{nat_tests}
use Rattle.std.proofs.lemmas.Str.{IsUtf8-past_char, chars_past_char, chars-nil}
use Rattle.std.proofs.lemmas.List.{nil_from_length}
use Rattle.x690.specs.Octets.{IsOctets}
use Rattle.asn1_json.proofs.Coded.{octets_more, too_large}
use Rattle.asn1_json.proofs.reading.characters.numbers_of.Goals as goal

pub returns-then-code-gt255-clause-numbers : goal.returns-then-code-gt255-clause-numbers
returns-then-code-gt255-clause-numbers c =
    let inv = c.loop-character.invariant in
    let rest = chars_rest c.loop-character.character-iterator in
    let next = chars_rest c.next.new.self in
    let past = chars_past_char rest next c.in-Some.character inv.0 c.in-Some.ensures.steps.0 in
    let big : 255 < c.in-Some.character = grind (arith, nat_tests, c.if-code-gt255.true) in
    too_large (chars c.args.text.now) c.loop-character.octets.items c.in-Some.character (chars next)
    (ap (λ (l : List ℕ). c.loop-character.octets.items ++ l) (sym past) ∙ inv.1) big

pub loop-character-preserved : goal.loop-character-preserved
loop-character-preserved c =
    let inv = c.loop-character.invariant in
    let rest = chars_rest c.loop-character.character-iterator in
    let next = chars_rest c.next.new.self in
    let past = chars_past_char rest next c.in-Some.character inv.0 c.in-Some.ensures.steps.0 in
    let few : c.in-Some.character < 256 = grind (arith, nat_tests, c.if-code-gt255.false) in (
      IsUtf8-past_char rest next c.in-Some.character inv.0 c.in-Some.ensures.steps.0,
      ap (λ (l : List ℕ). l ++ chars next) c.in_ok-push.ensures.items
          ∙ append_assoc c.loop-character.octets.items (c.in-Some.character ∷ []) (chars next)
          ∙ ap (λ (l : List ℕ). c.loop-character.octets.items ++ l) (sym past) ∙ inv.1,
      subst IsOctets (sym c.in_ok-push.ensures.items) (octets_more c.loop-character.octets.items c.in-Some.character inv.2 few),
    )

pub returns-clause-numbers : goal.returns-clause-numbers
returns-clause-numbers c =
    let inv = c.loop-character.invariant in
    let rest = chars_rest c.loop-character.character-iterator in
    let none : rest ≡ [] = nil_from_length rest c.in-None.ensures.steps.0.0 in
    sym (append-nil c.loop-character.octets.items)
    ∙ ap (λ (l : List ℕ). c.loop-character.octets.items ++ l) (sym (ap (λ (l : List ℕ). chars l) none ∙ chars-nil)) ∙ inv.1

pub returns-clause-octets : goal.returns-clause-octets
returns-clause-octets c = c.loop-character.invariant.2
