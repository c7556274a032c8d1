use Rattle.x509_name.proofs.Headers.{strict_of}
use Rattle.x509_name.proofs.header.header.Goals as goal

pub returns : goal.returns
returns c = strict_of c.new.result c.args.tag c.args.count c.new.ensures
