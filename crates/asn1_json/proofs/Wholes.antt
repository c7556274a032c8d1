-- A value of which no string is in pieces is its own.
use Rattle.std.proofs.Common.{◌≡◌, ◌∙◌, refl, ap}
use Rattle.asn1_schema.specs.Values.{Value, Values, leaf, row, chosen, none, absent, more}
use Rattle.asn1_schema.specs.Tape.{value_of, values_of}
use Rattle.asn1_json.specs.Made.{whole, whole_row}

mutual
  pub value_whole : (v : Value) → value_of (whole v) ≡ v
  value_whole (leaf l) = refl
  value_whole (row vs) = ap row (values_whole vs)
  value_whole (chosen arm v) = ap (chosen arm) (value_whole v)

  values_whole : (vs : Values) → values_of (whole_row vs) ≡ vs
  values_whole none = refl
  values_whole (absent vs) = ap absent (values_whole vs)
  values_whole (more v vs) = ap (λ (w : Value). more w (values_of (whole_row vs))) (value_whole v)
      ∙ ap (more v) (values_whole vs)
