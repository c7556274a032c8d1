use Rattle.std.proofs.Common.{◌≡◌, false, ◌++◌, length, ◌∙◌, subst, ap, ℕ, Bool, IfErr, arith}
use Rattle.x690.specs.Strict.{header_octets}
use Rattle.asn1_headers.specs.Class.{class_number}
use Rattle.asn1_headers.specs.Writer.{Wrote, MayRefuse}
use Rattle.asn1_rs.specs.declared.asn1_types.any.Any.{Any}
use Rattle.asn1_rs.specs.Any.Writing.{content_of, element_header}
use Rattle.asn1_rs.specs.ToDer.{Either}
use Rattle.asn1_rs.proofs.Writing.{only_may, few_octets}
use Rattle.asn1_rs.proofs.asn1_types.any.writing.AnyToDer.write_der.Goals as goal

same_header : (any : Any) (class number : ℕ) (constructed : Bool) → class ≡ class_number any.header.class →
    constructed ≡ any.header.constructed → number ≡ any.header.tag.0 →
    header_octets class constructed number (length (content_of any)) ≡ element_header any
same_header any class number constructed a b d = cc

pub returns-clause-wrote : goal.returns-clause-wrote
returns-clause-wrote g c =
    subst (λ h. Wrote (h ++ content_of c.args.self.now) (g.W.DerWrite.state c.args.w.now)
    (g.W.DerWrite.state c.put_behind.new.w) c.put_behind.result)
    (same_header c.args.self.now _ _ _ (c.number-class.ensures ∙ ap class_number c.class.ensures) c.constructed.ensures
    (ap (λ t. t.0) c.tag-number.ensures))
    (c.put_behind.ensures.wrote _ _ c.put_header-header.ensures.wrote)

pub returns-clause-refused : goal.returns-clause-refused
returns-clause-refused g c =
    only_may c.put_behind.result false (length (element_header c.args.self.now ++ content_of c.args.self.now))
    (Either (λ _. ⊥) (λ _. ⊥))
    (subst (λ h. IfErr c.put_behind.result (MayRefuse false (length (h ++ content_of c.args.self.now))))
    (same_header c.args.self.now _ _ _ (c.number-class.ensures ∙ ap class_number c.class.ensures) c.constructed.ensures
    (ap (λ t. t.0) c.tag-number.ensures))
    (c.put_behind.ensures.failed _ _ c.put_header-header.ensures.wrote (c.put_header-header.ensures.failed _ _)))

pub returns-clause-fits : goal.returns-clause-fits
returns-clause-fits g c = c.put_behind.ensures.fits
    (few_octets _ 15 16 (omega arith) c.put_header-header.ensures.few) (c.put_header-header.ensures.failed false 0)
