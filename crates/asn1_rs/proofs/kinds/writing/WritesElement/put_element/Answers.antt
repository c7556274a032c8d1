use Rattle.std.proofs.Common.{[], false, ◌≤◌, ◌<◌, ◌^◌, ◌+◌, ◌++◌, length, length-append, arith}
use Rattle.std.proofs.lemmas.Result.{err_from_is_err_and}
use Rattle.x690.specs.Strict.{header_octets}
use Rattle.asn1_headers.specs.Laws.Writing.{Wrote_front, Wrote_then_err, Wrote_sum, MayRefuse_sum}
use Rattle.asn1_rs.proofs.Refused.{counted_put, put_not_refused, put_behind_header, put_plain, octets_keep}
use Rattle.asn1_rs.proofs.Refused.{element_count_refused, same_count, counted_holds}
use Rattle.asn1_rs.proofs.Writing.{sum_keeps}
use Rattle.asn1_rs.proofs.kinds.writing.WritesElement.put_element.Goals as goal

pub returns-in_err-before-clause-wrote : goal.returns-in_err-before-clause-wrote
returns-in_err-before-clause-wrote g c =
    let octets = g.Self.WritesElement.octets c.args.self.now in
    let p = err_from_is_err_and c.from_residual.result c.from_residual.ensures.1 in
    rw (p.1, p.2, ← c.TAG-tag.ensures, ← c.is_container.ensures)
    (Wrote_front octets (c.in_err-before.ensures.wrote (length octets)
    (same_count _ _ _ c.count_that_fits-count.ensures.same c.count_octets.ensures.count)))

pub returns-in_err-before-clause-refused : goal.returns-in_err-before-clause-refused
returns-in_err-before-clause-refused g c =
    let octets = g.Self.WritesElement.octets c.args.self.now in
    let own = g.Self.WritesElement.refusal c.args.self.now in
    let is = g.Self.WritesElement.is_refused c.args.self.now in
    let header = header_octets 0 c.is_container.result c.TAG-tag.result.0 (length octets) in
    let n = length (header ++ octets) in
    let shorter : length octets ≤ length (header ++ octets) = simp length-append (omega arith) in
    let counted = element_count_refused own is (length octets) n _ c.count_that_fits-count.result shorter
    c.count_octets.ensures.refused (c.count_that_fits-count.ensures.why 0 c.is_container.result octets
    c.count_octets.ensures.count) c.count_that_fits-count.ensures.refused in
    let p = err_from_is_err_and c.from_residual.result c.from_residual.ensures.1 in
    rw (p.1, p.2, ← c.TAG-tag.ensures, ← c.is_container.ensures)
    (counted_put own is n n _ _ c.count_that_fits-count.result _ counted
    (c.in_err-before.ensures.why false [] (header ++ octets)) c.in_err-before.ensures.refused)

pub returns-in_err-before-clause-kept : goal.returns-in_err-before-clause-kept
returns-in_err-before-clause-kept g c =
    let p = err_from_is_err_and c.from_residual.result c.from_residual.ensures.1 in
    rw (p.1, p.2) c.in_err-before.ensures.kept

pub returns-in_err-after-clause-wrote : goal.returns-in_err-after-clause-wrote
returns-in_err-after-clause-wrote g c =
    let octets = g.Self.WritesElement.octets c.args.self.now in
    let p = err_from_is_err_and c.from_residual-in_err-after.result c.from_residual-in_err-after.ensures.1 in
    rw (
      p.1,
      p.2,
      ← c.TAG-tag.ensures,
      ← c.is_container.ensures,
    ) (Wrote_then_err
    (c.in_ok-before.ensures.wrote (length octets)
    (same_count _ _ _ c.count_that_fits-count.ensures.same c.count_octets.ensures.count))
    c.in_err-after.ensures.wrote)

pub returns-in_err-after-clause-refused : goal.returns-in_err-after-clause-refused
returns-in_err-after-clause-refused g c =
    let octets = g.Self.WritesElement.octets c.args.self.now in
    let own = g.Self.WritesElement.refusal c.args.self.now in
    let is = g.Self.WritesElement.is_refused c.args.self.now in
    let header = header_octets 0 c.is_container.result c.TAG-tag.result.0 (length octets) in
    let n = length (header ++ octets) in
    let shorter : length octets ≤ length (header ++ octets) = simp length-append (omega arith) in
    let counted = element_count_refused own is (length octets) n _ c.count_that_fits-count.result shorter
    c.count_octets.ensures.refused (c.count_that_fits-count.ensures.why 0 c.is_container.result octets
    c.count_octets.ensures.count) c.count_that_fits-count.ensures.refused in
    let none = put_not_refused own is n _ _ _ (counted_put own is n n _ _ c.count_that_fits-count.result _ counted
    (c.in_ok-before.ensures.why false [] (header ++ octets)) c.in_ok-before.ensures.refused) in
    let p = err_from_is_err_and c.from_residual-in_err-after.result c.from_residual-in_err-after.ensures.1 in
    rw (p.1, p.2, ← c.TAG-tag.ensures, ← c.is_container.ensures)
    (put_behind_header own is (length octets) n _ _ _ _ shorter none c.in_err-after.ensures.refused)

pub returns-in_err-after-clause-kept : goal.returns-in_err-after-clause-kept
returns-in_err-after-clause-kept g c =
    let octets = g.Self.WritesElement.octets c.args.self.now in
    let own = g.Self.WritesElement.refusal c.args.self.now in
    let is = g.Self.WritesElement.is_refused c.args.self.now in
    let header = header_octets 0 c.is_container.result c.TAG-tag.result.0 (length octets) in
    let n = length (header ++ octets) in
    let shorter : length octets ≤ length (header ++ octets) = simp length-append (omega arith) in
    let counted = element_count_refused own is (length octets) n _ c.count_that_fits-count.result shorter
    c.count_octets.ensures.refused (c.count_that_fits-count.ensures.why 0 c.is_container.result octets
    c.count_octets.ensures.count) c.count_that_fits-count.ensures.refused in
    let none = put_not_refused own is n _ _ _ (counted_put own is n n _ _ c.count_that_fits-count.result _ counted
    (c.in_ok-before.ensures.why false [] (header ++ octets)) c.in_ok-before.ensures.refused) in
    let same = same_count _ _ (length octets) c.count_that_fits-count.ensures.same c.count_octets.ensures.count in
    let total : length header + length octets < 2 ^ 64 = counted_holds
    (λ count. length (header_octets 0 c.is_container.result c.TAG-tag.result.0 count) + count < 2 ^ 64)
    c.count_that_fits-count.result c.in_ok-before.before (length octets) _ _ c.in_ok-before.ensures.refused
    (c.count_that_fits-count.ensures.fits 0 c.is_container.result) same in
    let p = err_from_is_err_and c.from_residual-in_err-after.result c.from_residual-in_err-after.ensures.1 in
    rw (p.1, p.2) (octets_keep own is (length octets) _ _ _ _ none (omega (arith, total)) c.in_err-after.ensures.refused)

pub returns-clause-wrote : goal.returns-clause-wrote
returns-clause-wrote g c =
    let octets = g.Self.WritesElement.octets c.args.self.now in
    rw (
      ← c.TAG-tag.ensures,
      ← c.is_container.ensures,
    ) (Wrote_sum _ (c.in_ok-before.ensures.wrote (length octets)
    (same_count _ _ _ c.count_that_fits-count.ensures.same c.count_octets.ensures.count))
    c.in_ok-after.ensures.wrote c.add_written.ensures)

pub returns-clause-refused : goal.returns-clause-refused
returns-clause-refused g c =
    let octets = g.Self.WritesElement.octets c.args.self.now in
    let own = g.Self.WritesElement.refusal c.args.self.now in
    let is = g.Self.WritesElement.is_refused c.args.self.now in
    let none = put_not_refused own is (length octets) _ _ _ c.in_ok-after.ensures.refused in
    put_plain own is _ _ _ c.add_written.result none (rw (
      ← c.TAG-tag.ensures,
      ← c.is_container.ensures,
    ) (MayRefuse_sum false _ _ _ (c.in_ok-before.ensures.wrote (length octets)
    (same_count _ _ _ c.count_that_fits-count.ensures.same c.count_octets.ensures.count))
    c.in_ok-after.ensures.wrote c.add_written.ensures))

pub returns-clause-kept : goal.returns-clause-kept
returns-clause-kept g c =
    let octets = g.Self.WritesElement.octets c.args.self.now in
    let header = header_octets 0 c.is_container.result c.TAG-tag.result.0 (length octets) in
    let same = same_count _ _ (length octets) c.count_that_fits-count.ensures.same c.count_octets.ensures.count in
    let total : length header + length octets < 2 ^ 64 = counted_holds
    (λ count. length (header_octets 0 c.is_container.result c.TAG-tag.result.0 count) + count < 2 ^ 64)
    c.count_that_fits-count.result c.in_ok-before.before (length octets) _ _ c.in_ok-before.ensures.refused
    (c.count_that_fits-count.ensures.fits 0 c.is_container.result) same in
    let before = (c.in_ok-before.ensures.wrote (length octets) same).ok.1 in
    let after = c.in_ok-after.ensures.wrote.ok.1 in
    sum_keeps c.in_ok-before.before c.in_ok-after.after c.add_written.result false _ _
    (omega (arith, total, before, after)) c.add_written.ensures
