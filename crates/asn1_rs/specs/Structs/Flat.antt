-- What putting a row of fields by one call may answer: what `PutsAll` says, in a record that no search unfolds.
use Rattle.std.specs.Prelude.{Result}
use Rattle.asn1_headers.specs.declared.error.SerializeError.{SerializeError}
use Rattle.asn1_rs.specs.Fields.{TakenFields}
use Rattle.asn1_rs.specs.Structs.{PutList, PutsAll}

pub record PutsRow (items : PutList) (old new : TakenFields) (answer : Result (Unit {0}) SerializeError) : Type 0 where
  pub puts : PutsAll items old new answer
