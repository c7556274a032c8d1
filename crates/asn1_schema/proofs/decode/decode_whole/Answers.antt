use Rattle.std.specs.Prelude.{ℕ, List}
use Rattle.std.specs.Borrow.{Bor}
use Rattle.asn1_schema.specs.declared.decode.DecodeError.TheVariants as errors
use Rattle.asn1_schema.proofs.SameErrors.{same_error}
use Rattle.asn1_schema.proofs.decode.decode_whole.Goals as goal

pub returns-in-Err-clause-fails : goal.returns-in-Err-clause-fails
returns-in-Err-clause-fails c =
    let fails = c.in-Err.ensures.fails in
    record {
      refused = λ e. fails.refused (same_error (Bor (List ℕ)) c.in-Err.error errors.Refused e);
      too_deep = λ e. fails.too_deep (same_error (Bor (List ℕ)) c.in-Err.error errors.TooDeep e);
      truncated = λ n e. fails.truncated n (same_error (Bor (List ℕ)) c.in-Err.error (errors.Incomplete n) e);
      incomplete = λ n e. fails.incomplete n (same_error (Bor (List ℕ)) c.in-Err.error (errors.Incomplete n) e);
      emptied = fails.emptied;
      within = fails.within;
      of = λ e. fails.of (same_error (Bor (List ℕ)) c.in-Err.error errors.Refused e);
      told = λ e. fails.told (same_error (Bor (List ℕ)) c.in-Err.error errors.Refused e);
      deep = λ e. fails.deep (same_error (Bor (List ℕ)) c.in-Err.error errors.TooDeep e);
    }
