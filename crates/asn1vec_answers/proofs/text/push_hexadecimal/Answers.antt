use Rattle.std.proofs.Common.{◌≡◌, ◌∙◌, ℕ, ◌+◌, ◌-◌, ◌≤◌, List, [], ◌∷◌, ◌++◌, length, drop, ap, refl, arith}
use Rattle.std.proofs.Common.{length-drop, false, ◌==◌}
use Rattle.std.proofs.lemmas.List.{length-take}
use Rattle.hex.specs.Hex.{encode_lower}
use Rattle.asn1vec_answers.specs.Shown.{in_hexadecimal}
use Rattle.asn1vec_answers.proofs.Gained.{written_behind}
use Rattle.asn1vec_answers.proofs.text.push_hexadecimal.Goals as goal

some_digits : (octets : List ℕ) → false ≡ (length octets == 0) → encode_lower octets ≡ in_hexadecimal octets
some_digits [] h = absurd (cc)
some_digits (octet ∷ octets) h = refl

pub returns-in-Ok : goal.returns-in-Ok
returns-in-Ok c =
    let sum = c.in-Some-checked_add.ensures in
    let sizes = c.as_mut_slice.ensures.len in
    let more = c.in_ok-resize.ensures.len in
    let same = c.encode_to_slice.auto.output in
    let start = c.len-start.result in
    let s = c.as_mut_slice.result.now in
    let few : start ≤ length s = omega arith in
    let size : length c.encode_to_slice.new.output + start ≡ length s =
    omega (arith, length-take (length s - start) (drop start s), length-drop start s) in
    let whole : c.resize.new.self.len ≡ length s = omega arith in
    written_behind c.args.text.now.items s c.encode_to_slice.new.output c.resize.new.self.items _ start
    c.resize.new.self.len c.in-Some-checked_add.end (omega arith) (omega arith) few whole size
    (c.as_mut_slice.ensures.value ∙ c.in_ok-resize.ensures.items)
    ∙ ap (λ l. c.args.text.now.items ++ l)
    (c.in-Ok.ensures.written ∙ some_digits c.args.octets.now c.if-is_empty.ensures)
