use Rattle.std.proofs.Common.{[], ◌≤◌, arith}
use Rattle.std.proofs.lemmas.List.{get_or_past}
use Rattle.asn1_headers.specs.Tag.{universal_names}
use Rattle.asn1_headers.proofs.tag.Tag.name.Goals as goal

pub returns-in-31-to-4294967295-clause-none : goal.returns-in-31-to-4294967295-clause-none
returns-in-31-to-4294967295-clause-none c =
    get_or_past universal_names c.args.self.0 [] (let h : 31 ≤ c.args.self.0 = omega arith in h)
