use Rattle.std.proofs.Common.{None, Some, sym, ◌∙◌}
use Rattle.std.proofs.lemmas.Bool.Decides.{Decides-eqb}
use Rattle.std.proofs.lemmas.Slice.Eq.{strip_prefix_is, strip_suffix_is}
use Rattle.std.proofs.lemmas.Str.Ascii.{trim_ascii_end_is}
use Rattle.asn1_engine.specs.Pem.{trimmed_end}
use Rattle.asn1_engine.proofs.Boundaries.{between_is, no_front}
use Rattle.asn1_engine.proofs.pem.between.Goals as goal

pub returns-in_err-behind : goal.returns-in_err-behind
unfolding trimmed_end
returns-in_err-behind c =
    let line = c.args.line.now in
    let front = c.args.front.now in
    let whole = trim_ascii_end_is line c.trim_ascii_end.result.now c.trim_ascii_end.ensures.value in
    let none = strip_prefix_is Decides-eqb c.trim_ascii_end.result.now front None c.in_err-behind.ensures.cases in
    rw c.from_residual.ensures (no_front line front c.args.end.now (λ rest e. none rest (whole ∙ e)))

pub returns : goal.returns
unfolding trimmed_end
returns c =
    let line = c.args.line.now in
    let front = c.args.front.now in
    let behind = c.in_ok-behind.behind in
    let whole = trim_ascii_end_is line c.trim_ascii_end.result.now c.trim_ascii_end.ensures.value in
    let prefix = strip_prefix_is Decides-eqb c.trim_ascii_end.result.now front (Some behind) c.in_ok-behind.ensures.cases in
    let suffix = strip_suffix_is Decides-eqb behind.now c.args.end.now c.strip_suffix.result c.strip_suffix.ensures.cases in
    between_is line front behind.now c.args.end.now c.strip_suffix.result (sym whole ∙ prefix) suffix
