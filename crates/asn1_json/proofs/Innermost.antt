-- The types within tags and bounds.
use Rattle.std.proofs.Common.{◌≡◌, ◌∙◌, ap, ℕ, suc, ◌+◌, ◌-◌, ◌<◌, List, Option, Some, option_and_then, arith}
use Rattle.asn1_schema.specs.declared.schema.Node.{Node}
use Rattle.asn1_json.specs.Types.{inner_type, kind_at, innermost, or_next}

-- one tag more
pub inner_next : (table : List Node) (n i t next : ℕ) → i < n →
    option_and_then inner_type (kind_at table (Some t)) ≡ Some next →
    innermost table (n - i) t ≡ innermost table (n - (i + 1)) next
inner_next table n i t next more e =
    let one : n - i ≡ suc (n - (i + 1)) = omega arith in
    ap (λ (k : ℕ). innermost table k t) one
    ∙ ap (λ (o : Option ℕ). or_next t o (innermost table (n - (i + 1)))) e
