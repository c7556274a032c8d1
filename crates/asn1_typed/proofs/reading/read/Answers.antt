use Rattle.std.proofs.Common.{◌≡◌, true, ap, subst, ◌∙◌}
use Rattle.std.specs.Prelude.{Err}
use Rattle.asn1_schema.specs.Sound.{is_sound}
use Rattle.asn1_typed.specs.Readings.{IsNoValue}
use Rattle.asn1_typed.proofs.NoValues.{none_in_front, none_if_followed}
use Rattle.asn1_typed.proofs.reading.read.Goals as goal

pub returns-in-Err-Refused : goal.returns-in-Err-Refused
returns-in-Err-Refused c =
    let fails = c.in-Err-Refused.ensures.fails in (
      subst (λ table. IsNoValue c.args.coding table c.args.of c.args.octets.now) c.deref.ensures.value
          (none_in_front c.args.coding c.deref.result.now c.args.of c.args.octets.now (fails.refused (ap Err c.in-Err-Refused.field-0-is) 64).none),
      fails.within,
    )

pub returns-in-Err-TooDeep : goal.returns-in-Err-TooDeep
returns-in-Err-TooDeep c =
    let fails = c.in-Err-TooDeep.ensures.fails in (
      subst (λ table. IsNoValue c.args.coding table c.args.of c.args.octets.now) c.deref.ensures.value
          (none_in_front c.args.coding c.deref.result.now c.args.of c.args.octets.now (fails.too_deep (ap Err c.in-Err-TooDeep.field-0-is)).none),
      fails.within,
    )

pub returns-in-Err-Incomplete : goal.returns-in-Err-Incomplete
returns-in-Err-Incomplete c =
    let fails = c.in-Err-Incomplete.ensures.fails in (
      subst (λ table. IsNoValue c.args.coding table c.args.of c.args.octets.now) c.deref.ensures.value
          (none_in_front c.args.coding c.deref.result.now c.args.of c.args.octets.now
          (fails.truncated c.in-Err-Incomplete.field-0-0 (ap Err c.in-Err-Incomplete.field-0-is))),
      fails.within,
    )

pub returns-in-Err-TrailingOctets : goal.returns-in-Err-TrailingOctets
returns-in-Err-TrailingOctets c =
    let e = c.in-Err-TrailingOctets.ensures in
    let sound : is_sound c.deref.result.now ≡ true = ap is_sound c.deref.ensures.value ∙ c.requires in (
      subst (λ table. IsNoValue c.args.coding table c.args.of c.args.octets.now) c.deref.ensures.value
          (none_if_followed c.args.coding c.deref.result.now c.args.of c.args.octets.now sound
          (e.trailing (ap Err c.in-Err-TrailingOctets.field-0-is))),
      e.fails.within,
    )
