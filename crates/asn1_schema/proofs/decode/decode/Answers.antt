use Rattle.std.proofs.Common.{subst, refl, ap, ℕ, List}
use Rattle.std.specs.Borrow.{Bor}
use Rattle.std.specs.Prelude.{Err}
use Rattle.asn1_schema.specs.declared.decode.DecodeError.TheVariants as errors
use Rattle.asn1_schema.specs.declared.fault.Fault.{Fault}
use Rattle.asn1_schema.specs.Reading.{BeginsWord, ReadsPrefix, FaultHolds}
use Rattle.asn1_schema.proofs.Depths.{fault_here}
use Rattle.asn1_schema.proofs.SameErrors.{error_is}
use Rattle.asn1_schema.proofs.Decoded.{not_decoded, no_depth_decodes, refused_for_good, still_truncated}
use Rattle.asn1_schema.proofs.decode.decode.Goals as goal

pub returns-in-Err-clause-fails : goal.returns-in-Err-clause-fails
returns-in-Err-clause-fails c =
    let e = c.args.coding in
    let table = c.args.table.now in
    let of = c.args.of in
    let octets = c.args.octets.now in
    let old = c.clear.new.self.items in
    let new = c.read_front.new.tape.items in
    let depth = c.args.depth in
    let fault = c.in-Err.fault in
    let none = not_decoded e table depth of octets old new fault (c.in-Err.ensures.value depth (fault_here depth fault)) in
    record {
      refused = λ is d.
          let a = c.error_of.ensures.refused (error_is c.error_of.result errors.Refused is) in
          refused_for_good e table d of octets (no_depth_decodes e table depth of octets old new
          (λ f l. subst (λ (z : Fault). FaultHolds depth z f → ReadsPrefix (BeginsWord e table f of octets) old new (Err z))
          a.0 (c.in-Err.ensures.value f) l) d) a.1;
      too_deep = λ is.
          let a = c.error_of.ensures.too_deep (error_is c.error_of.result errors.TooDeep is) in
          refused_for_good e table depth of octets (none (λ z. absurd (cc (z)))) a.1;
      truncated = λ n is. none (c.error_of.ensures.truncated n (error_is c.error_of.result (errors.Incomplete n) is)).0;
      incomplete = λ n is d. still_truncated e table d of octets n
          (c.error_of.ensures.truncated n (error_is c.error_of.result (errors.Incomplete n) is)).1;
      emptied = c.clear-in-Err.ensures.items;
      within = c.settle.ensures.within;
      of = λ is. c.settle.ensures.of
          (c.error_of.ensures.refused (error_is c.error_of.result errors.Refused is)).0;
      told = λ is.
          let same = (c.error_of.ensures.refused (error_is c.error_of.result errors.Refused is)).0 in
          c.settle.ensures.told table refl same
          (c.in-Err.ensures.told (ap (λ (z : Fault). Err z) same));
      deep = λ is. c.settle.ensures.deep
          (c.error_of.ensures.too_deep (error_is c.error_of.result errors.TooDeep is)).0;
    }
