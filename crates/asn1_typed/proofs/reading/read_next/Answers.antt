use Rattle.std.proofs.Common.{ap, subst}
use Rattle.std.specs.Prelude.{Err}
use Rattle.x690.specs.Joined.{NoPrefix}
use Rattle.asn1_schema.specs.Reading.{IsWordOf}
use Rattle.asn1_typed.proofs.reading.read_next.Goals as goal

pub returns-in-Err-Refused : goal.returns-in-Err-Refused
returns-in-Err-Refused c =
    let fails = c.in-Err-Refused.ensures.fails in (
      subst (λ table. NoPrefix (IsWordOf c.args.coding table 64 c.args.of) c.args.octets.now) c.deref.ensures.value
          (fails.refused (ap Err c.in-Err-Refused.field-0-is) 64).none,
      fails.within,
    )

pub returns-in-Err-TooDeep : goal.returns-in-Err-TooDeep
returns-in-Err-TooDeep c =
    let fails = c.in-Err-TooDeep.ensures.fails in (
      subst (λ table. NoPrefix (IsWordOf c.args.coding table 64 c.args.of) c.args.octets.now) c.deref.ensures.value
          (fails.too_deep (ap Err c.in-Err-TooDeep.field-0-is)).none,
      fails.within,
    )

pub returns-in-Err-Incomplete : goal.returns-in-Err-Incomplete
returns-in-Err-Incomplete c =
    let fails = c.in-Err-Incomplete.ensures.fails in (
      subst (λ table. NoPrefix (IsWordOf c.args.coding table 64 c.args.of) c.args.octets.now) c.deref.ensures.value
          (fails.truncated c.in-Err-Incomplete.field-0-0 (ap Err c.in-Err-Incomplete.field-0-is)),
      fails.within,
    )
