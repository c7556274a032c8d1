use Rattle.std.proofs.Common.{take, sym, subst, arith}
use Rattle.std.specs.Str.{IsUtf8}
use Rattle.std.proofs.lemmas.Grind.{common_steps}
use Rattle.std.proofs.lemmas.Str.{IsUtf8-from_ascii}
use Rattle.x690.specs.Octets.{IsOctets}
use Rattle.asn1_rs.specs.Oid.{is_relative, oid_octets}
use Rattle.asn1_rs.proofs.IdTexts.{text_ascii, text_fits}
use Rattle.asn1_rs.proofs.asn1_types.oid.Oid.id_text.Goals as goal

pub returns-in_err-end-clause-room : goal.returns-in_err-end-clause-room
returns-in_err-end-clause-room c = text_fits (is_relative c.args.self.now) (oid_octets c.args.self.now)

pub returns-clause-room : goal.returns-clause-room
returns-clause-room c = text_fits (is_relative c.args.self.now) (oid_octets c.args.self.now)

pub unwrap-requires : goal.unwrap-requires
unwrap-requires c =
    let x = c.args.self.now in
    let are : IsOctets (oid_octets x) = rw c.as_bytes.ensures at c.assert_octets_valid.ensures in
    let put = rw c.in_ok-end.was at c.put_text.ensures in
    let text : IsUtf8 (take c.in_ok-end.end c.put_text.new.out) =
    subst IsUtf8 (sym put.2) (IsUtf8-from_ascii _ (text_ascii (is_relative x) (oid_octets x) are)) in
    grind (arith, common_steps, text)
