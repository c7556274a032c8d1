use Rattle.std.proofs.Common.{ap, sym, subst}
use Rattle.std.specs.Prelude.{Err}
use Rattle.asn1_schema.specs.Grammar.{Word}
use Rattle.asn1_schema.specs.Rules.{strict}
use Rattle.asn1_schema.specs.Tape.{value_of}
use Rattle.asn1_typed.proofs.strict.encoding_of.Goals as goal

pub unreachable-requires : goal.unreachable-requires
unreachable-requires c =
    let has = c.requires.encoded in
    let word = subst (λ table. Word strict table 64 c.args.of has.0 (value_of has.1)) (sym c.deref.ensures.value) has.2 in
    c.in-Err-Refused.ensures.refused (ap Err c.in-Err-Refused.field-0-is) has.0 has.1 word has.3
