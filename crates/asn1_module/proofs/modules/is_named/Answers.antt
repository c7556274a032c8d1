use Rattle.std.proofs.Common.{◌≡◌, ◌∙◌, sym, true}
use Rattle.std.proofs.lemmas.Slice.Eq.{bytes_eq-Decides}
use Rattle.asn1_module.proofs.modules.is_named.Goals as goal

pub returns-clause-yes : goal.returns-clause-yes
returns-clause-yes c = λ yes. (bytes_eq-Decides c.args.named.now.name.now c.args.name.now).0 (sym c.eq.ensures ∙ yes)

pub returns-clause-no : goal.returns-clause-no
returns-clause-no c = λ other same.
    let yes : c.eq.result ≡ true =
    c.eq.ensures ∙ (bytes_eq-Decides c.args.named.now.name.now c.args.name.now).1 same in
    absurd (cc)
