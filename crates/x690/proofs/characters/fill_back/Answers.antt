use Rattle.std.proofs.Common.{◌≡◌, ◌+◌, ◌-◌, ◌∙◌, arith, sym, length, rules}
use Rattle.x690.proofs.CodedTexts.{put_before_place, code_before}
use Rattle.x690.proofs.characters.fill_back.Goals as goal

pub loop-at-preserved : goal.loop-at-preserved
loop-at-preserved g c =
    let code = g.C.CharacterCode in
    let one = c.in-Some.character in
    let inv = c.loop-at.invariant in
    let old = c.loop-at.buffer in
    let new = c.put.new.buffer in
    let at = c.loop-at.at in
    let from = at - c.count-at.result in
    let few = code.is.few one in
    let place : at ≡ from + length (code.octets_of one) =
    omega (arith, c.count-at.ensures, few, c.loop-at-test.true) in
    let same : c.put.result ≡ at = c.put.ensures.place ∙ sym place in
    let put = put_before_place old new (code.octets_of one) from at place (search rules)
    (rw (same) at c.put.ensures.octets) (rw (same) at c.put.ensures.kept) in (
      c.in-Some.ensures.text,
      (
        code_before code.octets_of code.is _ _ _ one old new from at 256 inv.1.0 c.in-Some.ensures.characters place
            inv.1.1 put,
        omega (arith, inv.1.1),
        omega (arith, place, few, inv.1.1, inv.1.2, c.in-Some.ensures.shorter),
      ),
    )
