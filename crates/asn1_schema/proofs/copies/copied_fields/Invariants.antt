use Rattle.std.proofs.Common.{List, ◌++◌, drop}
use Rattle.asn1_schema.specs.declared.schema.Field.{Field}
use Rattle.asn1_schema.specs.Build.{AreSameFields}
use Rattle.asn1_schema.proofs.copies.copied_fields.Given as goal

-- with copies of the fields that are left, the copies are those of all fields
abbrev pub invariant-loop-field : goal.invariant-loop-field
invariant-loop-field l =
    (more : List Field) → AreSameFields (drop l.field-index l.fields) more →
    AreSameFields l.fields (l.copies.items ++ more)
