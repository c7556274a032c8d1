use Rattle.asn1_rs.proofs.Lists.{check_failed}
use Rattle.asn1_rs.proofs.asn1_types.lists.after_checked.Goals as goal

pub returns-in-Ok : goal.returns-in-Ok
returns-in-Ok g c = check_failed g.T.CheckDerConstraints.check_gives c.args.octets.now c.in-Ok.rest.now c.in-Ok.item
    c.in-Err-check_constraints.e c.in-Ok.ensures c.in-Err-check_constraints.ensures
