use Rattle.std.proofs.Common.{◌≡◌, ℕ, ◌+◌, ◌-◌, ◌^◌, ◌<◌, ◌≤◌, List, ◌++◌, length, take, max, ap, sym, ◌∙◌, arith, IsAscii}
use Rattle.std.proofs.Common.{length-append, length-drop, drop, subst, rules}
use Rattle.std.specs.Int.Digits.{digits_of}
use Rattle.std.proofs.lemmas.Int.Digits.{length-digits_of-le}
use Rattle.std.proofs.lemmas.List.{length-take-le}
use Rattle.std.proofs.lemmas.Slice.{take-put_mid}
use Rattle.std.proofs.lemmas.Str.{IsAscii-append}
use Rattle.x690.specs.Times.{digits}
use Rattle.x690.proofs.Filled.{filled_places, digits_length, digits_ascii}
use Rattle.x690.proofs.times.text.ShownText.push_filled.Goals as goal
use borrow.Rule.Slice.PartMut.{put_mid, mid_of}

-- how many digits are put
few : (width most n count k : ℕ) → width ≤ most → n < 10 ^ most → count ≡ length (digits_of 10 n) →
    k ≡ max count width → k ≤ most
few width most n count k h small e all =
    omega (arith, length-digits_of-le 10 most n (omega arith) small)

-- what stands there, and digits behind it
behind : (len k n : ℕ) (octets new : List ℕ) → len ≤ length octets → new ≡ digits k n →
    take (len + k) (put_mid len (len + k - len) octets new) ≡ take len octets ++ digits k n
behind len k n octets new h e =
    take-put_mid len (len + k - len) octets new (len + k) (omega (arith, ap length e, digits_length k n)) h
    ∙ ap (λ (ys : List ℕ). take len octets ++ ys) e

-- how long the part is
part : (a k : ℕ) (xs : List ℕ) → a + k ≤ length xs → length (mid_of a (a + k - a) xs) ≡ k
part a k xs h = length-take-le (a + k - a) (drop a xs) (omega (arith, length-drop a xs)) ∙ omega arith

pub slice_bounds-write_last_digits-end : goal.slice_bounds-write_last_digits-end
slice_bounds-write_last_digits-end g c =
    let inside = c.self.inside in
    let k = c.max-count.result in
    let most : k ≤ g.row.MOST =
    few g.row.WIDTH g.row.MOST c.args.number c.count_base_10.result k c.requires.width c.requires.number
    c.count_base_10.ensures.count c.max-count.ensures in
    let len : length c.args.self.now ≡ inside.len =
    sym (ap length c.self.view_is) ∙ length-take-le inside.len inside.octets (omega arith) in
    let within : inside.len + k ≤ 43 = omega arith in
    search rules

pub invariant_of-self : goal.invariant_of-self
invariant_of-self g c =
    let inside = c.self.inside in
    let k = c.max-count.result in
    let most : k ≤ g.row.MOST =
    few g.row.WIDTH g.row.MOST c.args.number c.count_base_10.result k c.requires.width c.requires.number
    c.count_base_10.ensures.count c.max-count.ensures in
    let len : length c.args.self.now ≡ inside.len =
    sym (ap length c.self.view_is) ∙ length-take-le inside.len inside.octets (omega arith) in
    let within : inside.len + k ≤ 43 = omega arith in
    let new : c.write_last_digits.new.out ≡ digits k c.args.number =
    c.write_last_digits.ensures ∙ ap (λ j. digits j c.args.number) (part inside.len k inside.octets (omega arith)) in
    let text = behind inside.len k c.args.number inside.octets c.write_last_digits.new.out (omega arith) new in (
      within,
      subst IsAscii (sym text)
          (IsAscii-append (take inside.len inside.octets) (digits k c.args.number) c.self.invariant.1
          (digits_ascii k c.args.number)),
    )

pub returns-clause-text : goal.returns-clause-text
returns-clause-text g c =
    let inside = c.self.inside in
    let k = c.max-count.result in
    let most : k ≤ g.row.MOST =
    few g.row.WIDTH g.row.MOST c.args.number c.count_base_10.result k c.requires.width c.requires.number
    c.count_base_10.ensures.count c.max-count.ensures in
    let len : length c.args.self.now ≡ inside.len =
    sym (ap length c.self.view_is) ∙ length-take-le inside.len inside.octets (omega arith) in
    let new : c.write_last_digits.new.out ≡ digits k c.args.number =
    c.write_last_digits.ensures ∙ ap (λ j. digits j c.args.number) (part inside.len k inside.octets (omega arith)) in
    let places : k ≡ max (length (digits_of 10 c.args.number)) g.row.WIDTH =
    c.max-count.ensures ∙ ap (λ j. max j g.row.WIDTH) c.count_base_10.ensures.count in
    behind inside.len k c.args.number inside.octets c.write_last_digits.new.out (omega arith) new
    ∙ ap (λ (xs : List ℕ). xs ++ digits k c.args.number) c.self.view_is
    ∙ ap (λ (xs : List ℕ). c.args.self.now ++ xs)
    (sym (filled_places g.row.WIDTH k c.args.number c.requires.some places (omega arith)))

pub returns-clause-few : goal.returns-clause-few
returns-clause-few g c =
    let inside = c.self.inside in
    let k = c.max-count.result in
    let most : k ≤ g.row.MOST =
    few g.row.WIDTH g.row.MOST c.args.number c.count_base_10.result k c.requires.width c.requires.number
    c.count_base_10.ensures.count c.max-count.ensures in
    let len : length c.args.self.now ≡ inside.len =
    sym (ap length c.self.view_is) ∙ length-take-le inside.len inside.octets (omega arith) in
    let new : c.write_last_digits.new.out ≡ digits k c.args.number =
    c.write_last_digits.ensures ∙ ap (λ j. digits j c.args.number) (part inside.len k inside.octets (omega arith)) in
    let text = behind inside.len k c.args.number inside.octets c.write_last_digits.new.out (omega arith) new in
    omega (
      arith,
      ap length text,
      length-append (take inside.len inside.octets) (digits k c.args.number),
      digits_length k c.args.number,
      ap length c.self.view_is,
    )
