use Rattle.std.proofs.Common.{◌≡◌, ℕ, List, ◌∷◌, ◌++◌, ap, sym, ◌∙◌, rules}
use Rattle.asn1_rs.specs.Oid.Text.{hex_text}
use Rattle.asn1_rs.specs.Laws.Oid.Text.{octets_spaced, spaced}
use Rattle.asn1_rs.proofs.asn1_types.oid.buffer.put_octets.Goals as goal

pub loop-octet-init : goal.loop-octet-init
loop-octet-init c =
    let first = c.in-Some.first.now in
    let others = c.in-Some.others.now in
    let all : c.args.octets.now ≡ first ∷ others = search rules in
    let put = rw c.spaced_octet.ensures at (rw c.in_ok-end.was at c.put.ensures) in record {
      within = put.1;
      put = ap (λ (xs : List ℕ). xs ++ spaced others) put.2 ∙ sym (octets_spaced first others)
          ∙ ap hex_text (sym all);
    }
