use Rattle.std.proofs.Common.{◌≡◌, ℕ, List, ◌∷◌, ◌++◌, ap, sym, ◌∙◌, append_assoc, rules, arith}
use Rattle.std.proofs.Output.{has_written_append}
use Rattle.asn1_rs.specs.Oid.Text.{hex_octet, hex_text}
use Rattle.asn1_rs.specs.Laws.Oid.Text.{octets_spaced, spaced_at}
use Rattle.asn1_rs.proofs.asn1_types.oid.text.write_octets.Goals as goal

pub loop-octet-init : goal.loop-octet-init
loop-octet-init g c = λ plain.
    let first = c.in-Some.first.now in
    let others = c.in-Some.others.now in
    let all : c.args.octets.now ≡ first ∷ others = search rules in (
      hex_octet first,
      c.write_octet.ensures plain (search rules),
      sym (octets_spaced first others) ∙ ap hex_text (sym all),
    )

pub loop-octet-preserved : goal.loop-octet-preserved
loop-octet-preserved g c = λ plain.
    let others = c.in-Some.others.now in
    let so_far = c.loop-octet.invariant plain in (
      so_far.0 ++ _,
      has_written_append _ _ _ _ _ _ so_far.1 (c.write_spaced.ensures so_far.1.plain (search rules)),
      append_assoc so_far.0 _ _
          ∙ ap (λ (t : List ℕ). so_far.0 ++ t) (sym (spaced_at others c.loop-octet.octet-index (omega arith)))
          ∙ so_far.2,
    )
