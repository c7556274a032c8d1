-- Fingerprints: octets under the tag number of octet strings.
use Rattle.std.proofs.Common.{lit<, refl}
use Rattle.asn1_rs.specs.Leaf.{Leaf, IsLawfulLeaf}
use Rattle.asn1_rs.specs.OctetString.{octets_leaf, octet_string_number}
use Rattle.asn1_rs.specs.Laws.OctetString.{octets_lawful}
use Rattle.asn1_rs_uses.specs.declared.fingerprint.Fingerprint.{Fingerprint}

-- Fingerprints as elements: octets under the tag number of octet strings.
abbrev pub fingerprint_leaf : Leaf Fingerprint
fingerprint_leaf = octets_leaf octet_string_number (λ x. x.0.now)

-- Fingerprints are lawful.
pub fingerprint_lawful : IsLawfulLeaf fingerprint_leaf
fingerprint_lawful = octets_lawful octet_string_number (λ x. x.0.now) (lit< tt) refl
