use Rattle.std.proofs.Common.{◌↔◌, sym, subst, IsTrue}
use Rattle.asn1_schema.specs.declared.schema.TimeKind.{TimeKind}
use Rattle.asn1_schema.specs.Rules.{IsTime}
use Rattle.asn1_schema.specs.Joined.{said}
use Rattle.asn1_schema.proofs.MomentTexts.{utc_text, utc_is, generalized_text, generalized_is}
use Rattle.asn1_schema.proofs.moments.is_time_text.Goals as goal

pub returns-in-Utc : goal.returns-in-Utc
returns-in-Utc c = subst (λ (k : TimeKind). IsTrue c.is_utc.result ↔ IsTime k (said c.args.text)) (sym c.in-Utc.is)
    (λ t. utc_is (said c.args.text) (c.is_utc.ensures.0 t), λ a. c.is_utc.ensures.1 (utc_text (said c.args.text) a))

pub returns-in-Generalized : goal.returns-in-Generalized
returns-in-Generalized c = subst (λ (k : TimeKind). IsTrue c.is_generalized.result ↔ IsTime k (said c.args.text))
    (sym c.in-Generalized.is) (
      λ t. generalized_is (said c.args.text) (c.is_generalized.ensures.0 t),
      λ a. c.is_generalized.ensures.1 (generalized_text (said c.args.text) a),
    )
