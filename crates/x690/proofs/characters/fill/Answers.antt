use Rattle.std.proofs.Common.{◌++◌, take, ap, arith, length, length-append, encode_utf8, chars, append_assoc}
use Rattle.std.specs.Str.Iter.{chars_rest}
use Rattle.std.proofs.lemmas.Str.{IsUtf8-past_char, length-encode, len_utf8_bounds}
use Rattle.x690.specs.Characters.{code_of}
use Rattle.x690.proofs.CodedTexts.{code_past}
use Rattle.x690.proofs.characters.fill.Goals as goal

pub loop-at-preserved : goal.loop-at-preserved
loop-at-preserved g c =
    let code = g.C.CharacterCode in
    let inv = c.loop-at.invariant in
    let one = c.in-Some.character in
    let left = chars_rest c.loop-at.rest in
    let others = chars_rest c.next.new.self in
    let step = c.in-Some.ensures.steps.0 in
    let put = c.put-at.ensures.octets in
    let past = ap (λ xs. take c.loop-at.at c.loop-at.buffer ++ xs)
    (code_past code.octets_of code.is left others one inv.text step) in
    let regrouped = append_assoc (take c.loop-at.at c.loop-at.buffer) (code.octets_of one)
    (code_of code.octets_of (chars others)) in
    let few = code.is.few one in
    let bytes = len_utf8_bounds one in
    record {
      text = IsUtf8-past_char left others one inv.text step;
      put = cc (put, past, regrouped, inv.put);
      within = omega (arith, few, c.put-at.ensures.place, c.loop-at-test.true);
      few = omega (
        arith,
        few,
        c.put-at.ensures.place,
        inv.few,
        bytes.0,
        length-encode one,
        ap length step,
        length-append (encode_utf8 one) others,
      );
    }
