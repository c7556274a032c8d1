-- The first second of a day.
use Rattle.std.specs.Prelude.{◌≡◌, ℕ, List, ◌++◌, length, false, None}
use Rattle.x690.specs.Strict.{header_octets}
use Rattle.x690.specs.Times.{generalized_time_text}
use Rattle.x690.specs.declared.times.Moment.{Moment}
use Rattle.x690.specs.declared.times.TimeZone.TheVariants.{Z}
use Rattle.asn1_headers.specs.declared.error.Error.TheVariants as errors
use Rattle.asn1_headers.specs.declared.error.SerializeError.{SerializeError}
use Rattle.asn1_headers.specs.declared.error.SerializeError.TheVariants as serialize_errors

-- the fields of the first second of a day, of UTC, without a fraction
abbrev pub midnight : ℕ → ℕ → ℕ → Moment
midnight year month day = record {
  year = year;
  month = month;
  day = day;
  hour = 0;
  minute = 0;
  second = 0;
  millisecond = None;
  zone = Z;
}

-- the strict encoding of a GeneralizedTime of these fields
abbrev pub midnight_octets : ℕ → ℕ → ℕ → List ℕ
midnight_octets year month day =
    let text = generalized_time_text (midnight year month day) in header_octets 0 false 24 (length text) ++ text

-- the refusal of a time that has no place in its text, in writing
abbrev pub TellsInvalidTime : SerializeError → Type 0
TellsInvalidTime e = e ≡ serialize_errors.ASN1Error errors.InvalidDateTime
