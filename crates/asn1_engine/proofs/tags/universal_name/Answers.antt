use Rattle.std.proofs.Common.{[], ◌++◌, ◌≤◌, List, ℕ, ap, arith, codes}
use Rattle.std.proofs.lemmas.List.{get_or_past}
use Rattle.asn1_headers.specs.Tag.{text_or}
use Rattle.asn1_words.specs.Words.{number_text}
use Rattle.asn1_engine.specs.Heads.{type_names}
use Rattle.asn1_engine.proofs.tags.universal_name.Goals as goal

pub returns-in-37-to-4294967295-clause-none : goal.returns-in-37-to-4294967295-clause-none
returns-in-37-to-4294967295-clause-none c =
    let past : 37 ≤ c.args.number = omega arith in
    ap (λ (name : List ℕ). text_or name (codes "UNIVERSAL " ++ number_text c.args.number)) (get_or_past type_names c.args.number [] past)
