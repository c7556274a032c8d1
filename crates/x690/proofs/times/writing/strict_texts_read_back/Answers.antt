use Rattle.std.proofs.Common.{subst, sym, List, ℕ}
use Rattle.x690.specs.Times.{SaysUtcTime, SaysGeneralizedTime, utc_time_text, generalized_time_text}
use Rattle.x690.specs.Laws.Times.{utc_times_unique, generalized_times_unique}
use Rattle.x690.specs.Laws.TimeTexts.{utc_says, generalized_says, utc_fits, generalized_fits}
use Rattle.x690.proofs.times.writing.strict_texts_read_back.Goals as goal

pub returns : goal.returns
returns c = record {
  utc = utc_says;
  generalized = generalized_says;
  utc_alone = λ m n p q e. utc_times_unique (utc_time_text m) m n (utc_says m p)
      (subst (λ (t : List ℕ). SaysUtcTime t n) (sym e) (utc_says n q));
  generalized_alone = λ m n p q e. generalized_times_unique (generalized_time_text m) m n (generalized_says m p)
      (subst (λ (t : List ℕ). SaysGeneralizedTime t n) (sym e) (generalized_says n q));
  fits = utc_fits;
  fits_generalized = generalized_fits;
}
