-- Sequences and sets that are kept as their contents octets are lawful leaves.
use Rattle.std.specs.Prelude.{◌≡◌, ◌<◌, ℕ, ◌↔◌, IsTrue, true, nat_eq}
use Rattle.std.specs.Cmp.{unsigned_Decides}
use Rattle.std.specs.Cmp.Lexicographic.{pointwise, pointwise_decides}
use Rattle.std.proofs.Common.{◌∙◌, refl, lit<}
use Rattle.asn1_headers.specs.Tag.{is_container_number}
use Rattle.asn1_rs.specs.declared.asn1_types.kept.Kept.{Kept}
use Rattle.asn1_rs.specs.Checks.{nothing, is_constructed}
use Rattle.asn1_rs.specs.Kept.{kept_leaf, kept_octets, sequence_leaf, set_leaf}
use Rattle.asn1_rs.specs.Leaf.{IsLawfulLeaf}
use Rattle.asn1_rs.specs.Laws.Checks.{nothing_is, is_constructed_is}
use Rattle.asn1_rs.specs.Laws.OctetString.{contents_lawful}

-- What is kept as its contents octets under a low tag number of sequences or sets is lawful.
pub kept_lawful : {K : Type 0} (number : ℕ) → number < 31 → is_container_number number ≡ true →
    IsLawfulLeaf (kept_leaf {K = K} number)
kept_lawful number small constructed = contents_lawful number kept_octets is_constructed nothing small
    is_constructed_is nothing_is (λ p h. (h ∙ constructed, tt))

-- Sequences are lawful.
pub sequence_lawful : IsLawfulLeaf sequence_leaf
sequence_lawful = kept_lawful 16 (lit< tt) refl

-- Sets are lawful.
pub set_lawful : IsLawfulLeaf set_leaf
set_lawful = kept_lawful 17 (lit< tt) refl

-- they are equal where their contents octets are
pub kept_equal : {K : Type 0} (x y : Kept K) →
    IsTrue (pointwise nat_eq (kept_octets x) (kept_octets y)) ↔ (kept_octets x ≡ kept_octets y)
kept_equal x y = pointwise_decides unsigned_Decides (kept_octets x) (kept_octets y)
