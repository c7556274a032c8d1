use Rattle.std.proofs.Common.{List, ◌++◌, drop}
use Rattle.asn1_schema.specs.declared.schema.Field.{Field}
use Rattle.asn1_schema.specs.Build.{AreParts}
use Rattle.asn1_schema.proofs.build.fields_of.Given as goal

-- with fields for the parts that are left, the fields are those of all parts
abbrev pub invariant-loop-part : goal.invariant-loop-part
invariant-loop-part l =
    (more : List Field) → AreParts (drop l.part-index l.parts) more → AreParts l.parts (l.fields.items ++ more)
