use Rattle.std.proofs.Common.{sym, ◌∙◌}
use Rattle.asn1_rs.specs.Laws.Structs.Puts.{backward_ok, backward_err}
use Rattle.asn1_rs.proofs.structs.flat.puts.put6.Goals as goal

pub returns-in-Ok : goal.returns-in-Ok
returns-in-Ok g c =
    backward_ok _ _ _ _ _ _ _ (sym c.goes_back.ensures ∙ c.if-goes_back.true) c.in-Ok.ensures c.put_field.ensures

pub returns-in-Err : goal.returns-in-Err
returns-in-Err g c = backward_err _ _ _ _ _ _ (sym c.goes_back.ensures ∙ c.if-goes_back.true) c.in-Err.ensures
