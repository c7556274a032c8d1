use Rattle.std.proofs.Common.{◌+◌, ◌*◌, [], ◌∷◌, ◌++◌, sym, ap, ◌∙◌}
use Rattle.x690.specs.Identifiers.{bit}
use Rattle.x690.specs.Strict.{length_octets}
use Rattle.x690.specs.Laws.StrictHeaders.{identifier_with, header_octets_are}
use Rattle.x690.specs.Laws.StrictIdentifiers.{identifier_octets_low}
use Rattle.x690.specs.Laws.StrictLengths.{length_octets_low}
use Rattle.x690.proofs.digits.short_header.Goals as goal

pub returns-then-len-lt128-clause-some : goal.returns-then-len-lt128-clause-some
returns-then-len-lt128-clause-some c =
    let lead = 64 * c.args.class + 32 * bit c.args.constructed in
    let id = identifier_with c.args.class c.args.constructed c.args.number in
    ap (λ n. (n + c.args.number) ∷ c.args.len ∷ []) c.high_bits.ensures.value
    ∙ ap (λ behind. (lead + c.args.number) ∷ behind) (sym (length_octets_low c.args.len c.if-len-lt128.true))
    ∙ ap (λ front. front ++ length_octets c.args.len) (sym (identifier_octets_low id c.if-number-lt31.true))
    ∙ sym (header_octets_are c.args.class c.args.constructed c.args.number c.args.len)
