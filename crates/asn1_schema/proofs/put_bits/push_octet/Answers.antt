use Rattle.std.proofs.Common.{◌≡◌, ap, ℕ, ◌+◌, ◌*◌, ◌/◌, ◌%◌, arith}
use Rattle.asn1_schema.proofs.WrittenBits.{octet_pending, octet_filled}
use Rattle.asn1_schema.proofs.put_bits.push_octet.Goals as goal

-- the number by its powers
same_number : (n o x y a b c : ℕ) → o ≡ x → a ≡ b → y ≡ c → n + o / a * y ≡ n + (x / b) * c
same_number n o x y a b c e f g = cc

pub returns-then-count-lt8 : goal.returns-then-count-lt8
returns-then-count-lt8 c =
    let less = c.if-count-lt8.true in
    octet_pending c.args.pending c.args.skip c.args.octet c.requires.skip (omega (arith, c.ranges.octet.fits))
    c.requires.pending c.args.buf.now _
    (same_number c.args.pending.number c.from.result c.args.octet c.power-2.result c.power.result _ _
    c.from.ensures c.power.ensures c.power-2.ensures) (omega arith) (omega (arith, less))

pub returns-in-Ok : goal.returns-in-Ok
returns-in-Ok c =
    let most = c.if-count-lt8.false in
    let n = same_number c.args.pending.number c.from.result c.args.octet c.power-2.result c.power.result _ _
    c.from.ensures c.power.ensures c.power-2.ensures in
    octet_filled c.args.pending c.args.skip c.args.octet c.requires.skip (omega (arith, c.ranges.octet.fits))
    c.requires.pending c.args.buf.now c.put.new.buf _ _ c.put.ensures.octets
    (ap (λ (z : ℕ). z % 256) n) (ap (λ (z : ℕ). z / 256) n) (omega arith) (omega (arith, most)) c.in-Ok.ensures.ok
