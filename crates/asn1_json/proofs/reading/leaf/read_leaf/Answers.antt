use Rattle.std.proofs.Common.{sym, subst, Some}
use Rattle.std.specs.Prelude.{OnOk}
use Rattle.json.specs.Value.{value_view}
use Rattle.asn1_schema.specs.declared.schema.Kind.{Kind}
use Rattle.asn1_json.specs.Outcomes.{DenotesSimple, Makes}
use Rattle.asn1_json.specs.Types.{labels_at}
use Rattle.asn1_json.proofs.MadeLeaves.{reads_makes}
use Rattle.asn1_json.proofs.reading.leaf.read_leaf.Goals as goal

pub returns-in-Boolean : goal.returns-in-Boolean
returns-in-Boolean c =
    subst (λ (k : Kind). OnOk c.read_boolean.result (Makes (DenotesSimple (labels_at c.args.by.types.names.now (Some c.args.at)) k (value_view c.args.value.now))
    c.args.made.now c.read_boolean.new.made)) (sym c.in-Boolean.is) (reads_makes _ _ _ _ c.read_boolean.result c.read_boolean.ensures)

pub returns-in-Null : goal.returns-in-Null
returns-in-Null c =
    subst (λ (k : Kind). OnOk c.read_null.result (Makes (DenotesSimple (labels_at c.args.by.types.names.now (Some c.args.at)) k (value_view c.args.value.now))
    c.args.made.now c.read_null.new.made)) (sym c.in-Null.is) (reads_makes _ _ _ _ c.read_null.result c.read_null.ensures)

pub returns-in-Integer : goal.returns-in-Integer
returns-in-Integer c =
    subst (λ (k : Kind). OnOk c.read_integer.result (Makes (DenotesSimple (labels_at c.args.by.types.names.now (Some c.args.at)) k (value_view c.args.value.now))
    c.args.made.now c.read_integer.new.made)) (sym c.in-Integer.is) (reads_makes _ _ _ _ c.read_integer.result c.read_integer.ensures)

pub returns-in-Enumerated : goal.returns-in-Enumerated
returns-in-Enumerated c =
    subst (λ (k : Kind). OnOk c.read_listed.result (Makes (DenotesSimple (labels_at c.args.by.types.names.now (Some c.args.at)) k (value_view c.args.value.now))
    c.args.made.now c.read_listed.new.made)) (sym c.in-Enumerated.is) (reads_makes _ _ _ _ c.read_listed.result (c.read_listed.ensures c.in-Enumerated.field-0 c.in-Enumerated.field-1))

pub returns-in-Octets : goal.returns-in-Octets
returns-in-Octets c =
    subst (λ (k : Kind). OnOk c.read_octets.result (Makes (DenotesSimple (labels_at c.args.by.types.names.now (Some c.args.at)) k (value_view c.args.value.now))
    c.args.made.now c.read_octets.new.made)) (sym c.in-Octets.is) (reads_makes _ _ _ _ c.read_octets.result c.read_octets.ensures)

pub returns-in-Text : goal.returns-in-Text
returns-in-Text c =
    subst (λ (k : Kind). OnOk c.read_text.result (Makes (DenotesSimple (labels_at c.args.by.types.names.now (Some c.args.at)) k (value_view c.args.value.now))
    c.args.made.now c.read_text.new.made)) (sym c.in-Text.is) (reads_makes _ _ _ _ c.read_text.result c.read_text.ensures)

pub returns-in-Time : goal.returns-in-Time
returns-in-Time c =
    subst (λ (k : Kind). OnOk c.read_time.result (Makes (DenotesSimple (labels_at c.args.by.types.names.now (Some c.args.at)) k (value_view c.args.value.now))
    c.args.made.now c.read_time.new.made)) (sym c.in-Time.is) (reads_makes _ _ _ _ c.read_time.result c.read_time.ensures)

pub returns-in-Bits : goal.returns-in-Bits
returns-in-Bits c =
    subst (λ (k : Kind). OnOk c.read_bits.result (Makes (DenotesSimple (labels_at c.args.by.types.names.now (Some c.args.at)) k (value_view c.args.value.now))
    c.args.made.now c.read_bits.new.made)) (sym c.in-Bits.is) (reads_makes _ _ _ _ c.read_bits.result (c.read_bits.ensures c.in-Bits.field-0))

pub returns-in-Any : goal.returns-in-Any
returns-in-Any c =
    subst (λ (k : Kind). OnOk c.read_element.result (Makes (DenotesSimple (labels_at c.args.by.types.names.now (Some c.args.at)) k (value_view c.args.value.now))
    c.args.made.now c.read_element.new.made)) (sym c.in-Any.is) (reads_makes _ _ _ _ c.read_element.result c.read_element.ensures)

pub returns-in-Identifier : goal.returns-in-Identifier
returns-in-Identifier c =
    subst (λ (k : Kind). OnOk c.read_identifier.result (Makes (DenotesSimple (labels_at c.args.by.types.names.now (Some c.args.at)) k (value_view c.args.value.now))
    c.args.made.now c.read_identifier.new.made)) (sym c.in-Identifier.is) (reads_makes _ _ _ _ c.read_identifier.result c.read_identifier.ensures)
