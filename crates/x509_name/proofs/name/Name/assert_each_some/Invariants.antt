use Rattle.std.proofs.Common.{take}
use Rattle.std.specs.List.{All}
use Rattle.x509_name.specs.RelativeName.{IsNonEmpty, attributes}
use Rattle.x509_name.proofs.name.Name.assert_each_some.Given as goal

abbrev pub invariant-loop-relative_name : goal.invariant-loop-relative_name
invariant-loop-relative_name l =
    All (λ r. IsNonEmpty (attributes r)) (take l.relative_name-index l.self.rdn_sequence.items)
