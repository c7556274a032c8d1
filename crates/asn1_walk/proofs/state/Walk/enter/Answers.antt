use Rattle.std.proofs.Common.{inr, subst, refl}
use Rattle.x690.specs.Faults.{missing}
use Rattle.x690.specs.Rules.{ber_rule}
use Rattle.x690.specs.Elements.{IsHeader}
use Rattle.asn1_headers.specs.Length.{form_of}
use Rattle.asn1_headers.specs.declared.length.Length.{Length}
use Rattle.asn1_walk.specs.Rows.{identifier_of_line}
use Rattle.asn1_walk.proofs.state.Walk.enter.Goals as goal

pub returns-in-Err-clause-finds : goal.returns-in-Err-clause-finds
returns-in-Err-clause-finds c =
    let t = c.requires.comes in
    let f = c.in-Err.ensures in
    let h = subst (λ (l : Length). IsHeader ber_rule t.header (identifier_of_line c.args.line) (form_of l))
    c.in-Definite.is t.header_is in (
      missing f.0,
      (
        t.not_end,
        inr (record {
          header = t.header;
          rest = c.args.after.now;
          id = identifier_of_line c.args.line;
          counted = c.in-Definite.count;
          lacking = f.0;
          header_is = h;
          is = t.is;
          some = f.1;
          sum = f.2;
          fault_is = refl;
        }),
      ),
      f.3,
      (refl, refl, refl),
    )
