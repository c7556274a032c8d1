use Rattle.std.proofs.Common.{◌≡◌, ap, sym, ◌<◌, ◌-◌, length, get_or, arith}
use Rattle.std.proofs.lemmas.Bool.{leb-true, le-leb}
use Rattle.std.specs.Int.{trailing_zeros, w8}
use Rattle.asn1_rs.specs.Laws.BitString.{zero_unused}
use Rattle.asn1_rs.proofs.asn1_types.bit_string.is_zero_padded.Goals as goal

pub returns-then-unused_bits-le7 : goal.returns-then-unused_bits-le7
returns-then-unused_bits-le7 c =
    let unused = c.args.unused_bits in
    let octets = c.args.octets.now in
    let item = c.in-Some.ensures.item in
    let last : c.in-Some.octet.now ≡ get_or octets (length octets - 1) 0 = item.4 (omega arith) 0 in
    let small : get_or octets (length octets - 1) 0 < 256 = omega (arith, c.type_inv.octets (length octets - 1)) in
    let zeros = zero_unused unused octets item.3.0 c.if-unused_bits-le7.true small in
    let same : trailing_zeros w8 (get_or octets (length octets - 1) 0) ≡ trailing_zeros w8 c.in-Some.octet.now =
    ap (trailing_zeros w8) (sym last) in
    let from : c.from.result ≡ unused = c.from.ensures in (
      λ h.
          let enough = leb-true _ _ h in
          (c.if-unused_bits-le7.true, zeros.1 (omega arith)),
      λ p.
          let enough = zeros.0 p.1 in
          le-leb _ _ (omega arith),
    )
