use Rattle.std.proofs.Common.{◌≡◌, ◌≤◌, ℕ, List, ◌++◌, length, take, ap, sym, subst, ◌∙◌, arith}
use Rattle.std.proofs.lemmas.List.{take-append-le, take-take}
use Rattle.std.specs.Str.{IsUtf8}
use Rattle.std.proofs.lemmas.Str.{IsUtf8-from_ascii}
use Rattle.x690.specs.Octets.{IsOctets}
use Rattle.asn1_rs.specs.Oid.{is_relative, oid_octets}
use Rattle.asn1_rs.specs.Oid.Text.{id_text}
use Rattle.asn1_rs.proofs.IdTexts.{text_ascii, text_fits}
use Rattle.asn1_rs.proofs.asn1_types.oid.text.long_text.Goals as goal

pub unreachable-requires : goal.unreachable-requires
unreachable-requires c =
    let x = c.args.oid.now in
    omega (
      arith,
      c.in_default.ensures,
      c.deref_mut.ensures.len,
      c.in_ok-buffer.ensures.len,
      text_fits (is_relative x) (oid_octets x),
      ap length c.as_bytes-octets.ensures,
    )

-- octets at the front of memory that is cut behind them
front : (end len : ℕ) (out rest text : List ℕ) → end ≤ length out → end ≤ len → take end out ≡ text →
    take end (take len (out ++ rest)) ≡ text
front end len out rest text within room e =
    take-take end len (out ++ rest) room ∙ take-append-le end out rest within ∙ e

pub unwrap-requires : goal.unwrap-requires
unwrap-requires c =
    let x = c.args.oid.now in
    let are : IsOctets (oid_octets x) = rw c.as_bytes-octets.ensures at c.assert_octets_valid.ensures in
    let put = c.in-Some.ensures in
    let items : c.truncate.new.self.items ≡ id_text (is_relative x) (oid_octets x) =
    c.truncate.ensures.items
    ∙ front c.in-Some.end c.in_ok-buffer.buffer.len c.put_text.new.out _ (id_text (is_relative x) (oid_octets x))
    put.1 (omega arith) put.2 in
    let text : IsUtf8 c.truncate.new.self.items =
    subst IsUtf8 (sym items) (IsUtf8-from_ascii _ (text_ascii (is_relative x) (oid_octets x) are)) in
    c.from_utf8.ensures.succeeds text
