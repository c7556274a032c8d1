use Rattle.std.proofs.Common.{◌∙◌, sym, subst}
use Rattle.x690.specs.Digits.{twos_complement_value}
use Rattle.json.specs.Print.{IsNumber}
use Rattle.asn1_json.proofs.Decimals.{integer_is_number}
use Rattle.asn1_json.proofs.leaves.put_integer.Goals as goal

pub put-requires : goal.put-requires
put-requires g c =
    subst IsNumber (sym (c.as_str.ensures.value ∙ c.in_ok-text.ensures)) (integer_is_number (twos_complement_value c.args.content.now))
