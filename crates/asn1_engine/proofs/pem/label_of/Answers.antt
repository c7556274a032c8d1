use Rattle.std.proofs.Common.{rules}
use Rattle.x690.specs.Sets.{AllIn, is_graphic}
use Rattle.asn1_engine.proofs.Boundaries.{no_label}
use Rattle.asn1_engine.proofs.pem.label_of.Goals as goal

pub returns-then-not-all_in : goal.returns-then-not-all_in
returns-then-not-all_in c =
    let unseen : AllIn is_graphic c.in_ok-label.label.now → ⊥ = search rules in
    no_label c.args.front.now c.in_ok-label.label.now c.args.line.now c.in_ok-label.ensures unseen
