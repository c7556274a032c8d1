use Rattle.std.proofs.Common.{◌∙◌, ◌++◌, ap, subst, List, ℕ, IfErr, false, length, refl, arith}
use Rattle.asn1_rs.proofs.Writing.{few_octets, may_keep}
use Rattle.x690.specs.Times.{generalized_time_text, FitsGeneralizedTime}
use Rattle.asn1_headers.specs.Writer.{MayRefuse, Wrote}
use Rattle.asn1_rs.specs.Kinds.Writing.{universal_header}
use Rattle.asn1_rs.specs.Times.{IsInvalidDateTime, generalized_time_refused, moment_of}
use Rattle.asn1_rs.specs.Laws.Times.{accepted}
use Rattle.asn1_rs.proofs.Refused.{put_plain}
use Rattle.asn1_rs.proofs.asn1_types.times.generalized_time.GeneralizedTimeWritesElement.put_element.Goals as goal

abbrev element : List ℕ → List ℕ
element text = universal_header 24 text ++ text

pub returns-clause-wrote : goal.returns-clause-wrote
returns-clause-wrote g c =
    subst (λ (text : List ℕ). Wrote (element text) (g.W.DerWrite.state c.args.w.now)
    (g.W.DerWrite.state c.put_behind.new.w) c.put_behind.result)
    (c.as_bytes-octets.ensures ∙ c.in-Some.ensures.text ∙ ap generalized_time_text c.moment.ensures)
    (c.put_behind.ensures.wrote _ _ c.put_header-header.ensures.wrote)

pub returns-clause-refused : goal.returns-clause-refused
returns-clause-refused g c =
    let m = moment_of c.args.self.now.0 in
    let fits : FitsGeneralizedTime m = subst FitsGeneralizedTime c.moment.ensures (c.in-Some.ensures.exact.0 refl) in
    put_plain IsInvalidDateTime (generalized_time_refused m)
    (length (element (generalized_time_text m))) _ _ c.put_behind.result (accepted 9999 m fits)
    (subst (λ (text : List ℕ). IfErr c.put_behind.result (MayRefuse false (length (element text))))
    (c.as_bytes-octets.ensures ∙ c.in-Some.ensures.text ∙ ap generalized_time_text c.moment.ensures)
    (c.put_behind.ensures.failed _ _ c.put_header-header.ensures.wrote (c.put_header-header.ensures.failed _ _)))

pub returns-clause-kept : goal.returns-clause-kept
returns-clause-kept g c = may_keep _ _ _ _ (c.put_behind.ensures.fits
    (few_octets _ 15 16 (omega arith) c.put_header-header.ensures.few) (c.put_header-header.ensures.failed false 0))
