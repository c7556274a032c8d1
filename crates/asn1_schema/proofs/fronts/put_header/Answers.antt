use Rattle.std.proofs.Common.{sym, subst, ◌-◌, arith}
use Rattle.std.specs.Prelude.{Result, OnOk}
use Rattle.asn1_schema.specs.Writing.{MakesElement, id_with}
use Rattle.asn1_schema.specs.declared.fault.Fault.{Fault}
use Rattle.asn1_schema.proofs.MadeElements.{element_made, element_grew}
use Rattle.asn1_schema.proofs.fronts.put_header.Goals.{in-Ok, in-Err}
use Rattle.asn1_schema.proofs.fronts.put_header.Goals as goal

pub returns-clause-ok : goal.returns-clause-ok
returns-clause-ok c = elim c.match-prepend_element.branch [
  | in-Ok w ↦ subst (λ (z : Result (Unit {0}) Fault). OnOk z (MakesElement (id_with c.args.class c.args.constructed c.args.number) c.args.held
      c.args.buf.now c.prepend_element.new.buf)) (sym w.result-is)
      (element_made c.args.class c.args.constructed c.args.number c.args.held (c.len.result - c.args.held)
      c.args.buf.now c.prepend_element.new.buf c.prepend_element.result (omega (arith, c.len.ensures))
      c.prepend_element.ensures.prepended
      c.requires.class (omega (arith, c.ranges.number.fits))
      (omega (arith, c.len.ensures, c.len.type_inv)) w.in-Ok.field-0 w.in-Ok.is)
  | in-Err w ↦ subst (λ (z : Result (Unit {0}) Fault). OnOk z (MakesElement (id_with c.args.class c.args.constructed c.args.number) c.args.held
      c.args.buf.now c.prepend_element.new.buf)) (sym w.result-is) tt
]

pub returns-clause-grew : goal.returns-clause-grew
returns-clause-grew c = element_grew c.args.class c.args.constructed c.args.number c.args.held (c.len.result - c.args.held)
    c.args.buf.now c.prepend_element.new.buf c.prepend_element.result (omega (arith, c.len.ensures))
    c.prepend_element.ensures.prepended
