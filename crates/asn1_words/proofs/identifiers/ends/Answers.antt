use Rattle.std.proofs.Common.{sym, ap, ◌∙◌}
use Rattle.asn1_words.specs.Numbers.{is_whole}
use Rattle.asn1_words.proofs.Pieces.{whole_by_last}
use Rattle.asn1_words.proofs.identifiers.ends.Goals as goal

pub returns-in-Some : goal.returns-in-Some
returns-in-Some c =
    sym (whole_by_last c.in-Some._front.now c.in-Some.last.now) ∙ ap is_whole (sym c.in-Some.ensures.cases.0)
