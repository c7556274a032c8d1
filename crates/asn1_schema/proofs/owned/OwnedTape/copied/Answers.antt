use Rattle.asn1_schema.specs.Tape.{marks}
use Rattle.asn1_schema.proofs.Appended.{appended_to_none}
use Rattle.asn1_schema.proofs.owned.OwnedTape.copied.Goals as goal

pub returns : goal.returns
returns c =
    appended_to_none c.new-owned.result c.append.new.self (marks c.args.tape.now) c.new-owned.ensures c.in_ok-append.ensures
