use Rattle.std.proofs.Common.{arith, refl, inl, inr}
use Rattle.asn1_headers.specs.declared.error.SerializeError.TheVariants.{InvalidClass}
use Rattle.asn1_headers.specs.Laws.Prepending.{Prepended_refused}
use Rattle.asn1_rs.proofs.asn1_types.tagged.explicit_value.TaggedValueExplicitToDer.prepend_der_content.Goals as goal

pub returns-then-this-gt3-clause-prepended : goal.returns-then-this-gt3-clause-prepended
returns-then-this-gt3-clause-prepended g c = λ t. Prepended_refused _ _ _ _ refl refl

pub returns-then-this-gt3-clause-refused : goal.returns-then-this-gt3-clause-refused
returns-then-this-gt3-clause-refused g c = λ t. inr (InvalidClass g.row.CLASS, inl (omega arith, refl), refl)
