-- Certificates.
use Rattle.std.specs.Prelude.{◌≡◌, ◌⊎◌, ◌+◌, ◌<◌, ◌≤◌, ℕ, codes}
use Rattle.std.specs.Prelude.{IsSome, option_map}
use Rattle.asn1_rs.specs.Prelude.{Error, IsInvalidValue}
use Rattle.asn1_rs.specs.Any.Kept.{kept_value}
use Rattle.asn1_rs.specs.Oid.{oid_value}
use Rattle.asn1_rs_certificates.specs.declared.added.Added.{Added}
use Rattle.asn1_rs_certificates.specs.declared.certificate.Certificate.{Certificate}
use Rattle.asn1_rs_certificates.specs.declared.holder.Holder.{Holder}
use Rattle.asn1_rs_certificates.specs.declared.signed.TbsCertificate.{TbsCertificate}
use Rattle.asn1_rs_messages.specs.declared.public_key.AlgorithmIdentifier.{AlgorithmIdentifier}
use Rattle.asn1_rs_messages.specs.declared.time.Time.{Time}
use Rattle.asn1_rs_messages.specs.declared.time.Time.TheVariants.{Utc, General}

-- the last three fields of what is signed
abbrev pub added_of : TbsCertificate → Added
added_of x = record {
  issuer_unique_id = x.issuer_unique_id;
  subject_unique_id = x.subject_unique_id;
  extensions = x.extensions;
}

-- its fields from the validity on
abbrev pub holder_of : TbsCertificate → Holder
holder_of x = record {
  validity = x.validity;
  subject = x.subject;
  subject_public_key_info = x.subject_public_key_info;
  added = added_of x;
}

-- The year of a time. The digits 50 to 99 of a UTCTime are those of the years 1950 to 1999. The digits below are those
-- of the years 2000 to 2049.
abbrev pub IsYearOf : Time → ℕ → Type 0
IsYearOf (General t) year = year ≡ t.0.year
IsYearOf (Utc t) year =
    (t.0.year < 50 → year ≡ 2000 + t.0.year) ×
    (50 ≤ t.0.year → t.0.year < 100 → year ≡ 1900 + t.0.year) ×
    (100 ≤ t.0.year → year ≡ t.0.year)

-- the version, from 0 on
abbrev pub version_of : TbsCertificate → ℕ
version_of x = x.version.value.inner

-- the second or the third version
abbrev pub HasIdentifiers : TbsCertificate → Type 0
HasIdentifiers x = (version_of x ≡ 1) ⊎ (version_of x ≡ 2)

-- Unique identifiers stand in these versions alone, and extensions in the third.
abbrev pub FieldsFitVersion : TbsCertificate → Type 0
FieldsFitVersion x =
    (IsSome x.issuer_unique_id → HasIdentifiers x) ×
    (IsSome x.subject_unique_id → HasIdentifiers x) ×
    (IsSome x.extensions → version_of x ≡ 2)

-- one identifier, and the same parameters or none
abbrev pub AreSameAlgorithms : AlgorithmIdentifier → AlgorithmIdentifier → Type 0
AreSameAlgorithms x y = (oid_value x.algorithm ≡ oid_value y.algorithm) ×
    (option_map kept_value x.parameters ≡ option_map kept_value y.parameters)

-- The fields fit the version, and the algorithm of the signature is the signed one.
abbrev pub IsOfProfile : Certificate → Type 0
IsOfProfile x = FieldsFitVersion x.tbs_certificate ×
    AreSameAlgorithms x.tbs_certificate.signature x.signature_algorithm

-- The fields do not fit, or they fit and the algorithms are not the same. The refusal tells which.
abbrev pub IsOutsideProfile : Certificate → Error → Type 0
IsOutsideProfile x e =
    ((¬ FieldsFitVersion x.tbs_certificate) ×
    IsInvalidValue (record { 0 = 2 }) (codes "fields of another version") e) ⊎
    (FieldsFitVersion x.tbs_certificate ×
    (¬ AreSameAlgorithms x.tbs_certificate.signature x.signature_algorithm) ×
    IsInvalidValue (record { 0 = 16 }) (codes "another algorithm") e)
