-- What is written of a time has few octets, whatever its fields.
use Rattle.std.proofs.Common.{◌≡◌, ◌≤◌, ◌<◌, ◌++◌, ◌^◌, arith, refl, length, length-append, Option, Some, None, ℕ, List}
use Rattle.std.proofs.lemmas.Bool.Decides.{nat_tests}
use Rattle.std.proofs.lemmas.Fmt.{length-decimal-le}
use Rattle.asn1_headers.specs.Tag.{is_container_number}
use Rattle.x690.specs.Strict.{header_octets, identifier_octets}
use Rattle.x690.specs.Laws.StrictHeaders.{header_octets_count, identifier_with}
use Rattle.x690.specs.Laws.StrictLengths.{length_octets_few}
use Rattle.x690.specs.Laws.TimeTexts.{utc_length}
use Rattle.x690.specs.Times.{MostMilliseconds, fraction_text, generalized_time_text, utc_time_text, z_text}
use Rattle.x690.specs.declared.times.Moment.{Moment}
use Rattle.asn1_rs.specs.Times.{generalized_time_leaf, utc_time_leaf}
use Rattle.asn1vec_answers.specs.Types.{leaf_octets}

module _ (number : ℕ) (content : List ℕ) where
  abbrev header : List ℕ
  header = header_octets 0 (is_container_number number) number (length content)

  few_octets : length (identifier_octets (identifier_with 0 (is_container_number number) number)) ≡ 1 →
      length content ≤ 21 → length (header ++ content) < 2 ^ 64
  few_octets one short =
      let parts = header_octets_count 0 (is_container_number number) number (length content) in
      let count = length_octets_few (length content) (omega (arith, short)) in
      let whole = length-append header content in
      omega (arith, one, short, parts, count, whole)

pub utc_few : (m : Moment) → length (leaf_octets utc_time_leaf m) < 2 ^ 64
unfolding identifier_octets
utc_few m = let l = utc_length m in few_octets 23 (utc_time_text m) refl (omega (arith, l))

fraction_few : (o : Option ℕ) → MostMilliseconds 65535 o → length (fraction_text o) ≤ 6
fraction_few None h = omega arith
fraction_few (Some m) h =
    let digits = length-decimal-le 5 m (omega arith) (omega (arith, h)) (omega (arith, h)) in
    grind (arith, nat_tests, digits)

pub generalized_few : (m : Moment) → MostMilliseconds 65535 m.millisecond →
    length (leaf_octets generalized_time_leaf m) < 2 ^ 64
unfolding identifier_octets
generalized_few m h =
    let fraction = fraction_few m.millisecond h in
    let end = length-append (fraction_text m.millisecond) z_text in
    few_octets 24 (generalized_time_text m) refl (omega (arith, fraction, end))
