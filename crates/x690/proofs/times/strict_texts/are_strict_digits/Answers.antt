use Rattle.std.proofs.Common.{◌≡◌, ap, subst, sym, ◌∙◌, ℕ, List, [], ◌∷◌, ◌++◌, arith}
use Rattle.std.specs.Char.{is_ascii_digit}
use Rattle.x690.specs.Sets.{AllIn}
use Rattle.x690.proofs.StrictTexts.{two_behind, same_two}
use Rattle.x690.proofs.times.strict_texts.are_strict_digits.Goals as goal

pub returns : goal.returns
returns c =
    let text = c.args.text.now in
    let before = c.in-Some.before.now in
    let zone = c.in-Some.zone.now in
    let octets = c.in-Some-split_last.digits.now in
    let last = c.in-Some-split_last.last.now in
    let whole : text ≡ before ++ zone ∷ [] = c.in-Some.ensures.cases.0 in
    let inner : before ≡ octets ++ last ∷ [] = c.in-Some-split_last.ensures.cases.0 in
    let is_z = c.if-zone-ne90.false in
    let low = c.if-last-lt49.false in
    let high = c.if-last-gt57.false in
    let z : zone ≡ 90 = omega (arith, is_z) in (
      λ yes. (
        octets,
        last,
        c.all_in.ensures.0 yes,
        omega (arith, low),
        omega (arith, high),
        two_behind text before octets zone last whole inner ∙ ap (λ (k : ℕ). octets ++ last ∷ k ∷ []) z,
      ),
      λ said. c.all_in.ensures.1 (subst (λ (o : List ℕ). AllIn is_ascii_digit o)
          (sym (same_two text before octets said.0 zone last said.1 90 whole inner said.5).0) said.2),
    )
