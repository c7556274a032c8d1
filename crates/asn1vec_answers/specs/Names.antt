-- The names of refusals.
use Rattle.std.specs.Prelude.{ℕ, List, ◌++◌, codes, decimal}
use Rattle.asn1_headers.specs.declared.error.Err.{Err as Refusal}
use Rattle.asn1_headers.specs.declared.error.Err.TheVariants.{Incomplete as truncated, Error as refused, Failure as failed}
use Rattle.asn1_headers.specs.declared.error.Needed.{Needed}
use Rattle.asn1_headers.specs.declared.error.Needed.TheVariants.{Unknown, Size}
use Rattle.asn1_headers.specs.declared.error.DerConstraint.{DerConstraint}
use Rattle.asn1_headers.specs.declared.error.DerConstraint.TheVariants as constraints
use Rattle.asn1_headers.specs.declared.error.Error.{Error}
use Rattle.asn1_headers.specs.declared.error.Error.TheVariants as errors
use Rattle.asn1_headers.specs.declared.error.SerializeError.{SerializeError}
use Rattle.asn1_headers.specs.declared.error.SerializeError.TheVariants as serialize_errors

-- how many octets are missing
abbrev pub name_of_needed : Needed → List ℕ
name_of_needed Unknown = codes "Unknown"
name_of_needed (Size n) = decimal n

-- the name of a constraint of DER
abbrev pub name_of_constraint : DerConstraint → List ℕ
name_of_constraint constraints.IndefiniteLength = codes "IndefiniteLength"
name_of_constraint constraints.Constructed = codes "Constructed"
name_of_constraint constraints.NotConstructed = codes "NotConstructed"
name_of_constraint constraints.MissingTimeZone = codes "MissingTimeZone"
name_of_constraint constraints.MissingSeconds = codes "MissingSeconds"
name_of_constraint constraints.UnusedBitsNotZero = codes "UnusedBitsNotZero"
name_of_constraint constraints.InvalidBoolean = codes "InvalidBoolean"
name_of_constraint constraints.IntegerEmpty = codes "IntegerEmpty"
name_of_constraint constraints.IntegerLeadingZeroes = codes "IntegerLeadingZeroes"
name_of_constraint constraints.IntegerLeadingFF = codes "IntegerLeadingFF"
name_of_constraint constraints.TagNotShortest = codes "TagNotShortest"
name_of_constraint constraints.LengthNotShortest = codes "LengthNotShortest"
name_of_constraint constraints.TrailingOctets = codes "TrailingOctets"

-- an error without its parts
abbrev pub word_of_error : Error → List ℕ
word_of_error errors.BerTypeError = codes "BerTypeError"
word_of_error errors.BerValueError = codes "BerValueError"
word_of_error errors.InvalidLength = codes "InvalidLength"
word_of_error (errors.InvalidValue tag msg) = codes "InvalidValue"
word_of_error errors.InvalidTag = codes "InvalidTag"
word_of_error (errors.UnknownTag number) = codes "UnknownTag"
word_of_error (errors.UnexpectedTag expected actual) = codes "UnexpectedTag"
word_of_error (errors.UnexpectedClass expected actual) = codes "UnexpectedClass"
word_of_error errors.IndefiniteLengthUnexpected = codes "IndefiniteLengthUnexpected"
word_of_error errors.ConstructExpected = codes "ConstructExpected"
word_of_error errors.ConstructUnexpected = codes "ConstructUnexpected"
word_of_error errors.IntegerTooLarge = codes "IntegerTooLarge"
word_of_error errors.IntegerNegative = codes "IntegerNegative"
word_of_error errors.BerMaxDepth = codes "BerMaxDepth"
word_of_error errors.StringInvalidCharset = codes "StringInvalidCharset"
word_of_error errors.InvalidDateTime = codes "InvalidDateTime"
word_of_error (errors.DerConstraintFailed constraint) = codes "DerConstraintFailed"
word_of_error errors.LifetimeError = codes "LifetimeError"
word_of_error errors.Unsupported = codes "Unsupported"
word_of_error (errors.Incomplete needed) = codes "Error.Incomplete"
word_of_error errors.OutOfMemory = codes "OutOfMemory"

-- a word, and a part of it in brackets
abbrev pub with_brackets : List ℕ → List ℕ → List ℕ
with_brackets word part = word ++ (codes "(" ++ (part ++ codes ")"))

-- an error with the constraint that was broken, or the number of octets that are missing
abbrev pub name_of_error : Error → List ℕ
name_of_error (errors.DerConstraintFailed constraint) =
    with_brackets (codes "DerConstraintFailed") (name_of_constraint constraint)
name_of_error (errors.Incomplete needed) = with_brackets (codes "Error.Incomplete") (name_of_needed needed)
name_of_error error = word_of_error error

-- what a reader refuses with
abbrev pub name_of_refusal : Refusal Error → List ℕ
name_of_refusal (truncated needed) = with_brackets (codes "Incomplete") (name_of_needed needed)
name_of_refusal (refused error) = name_of_error error
name_of_refusal (failed error) = name_of_error error

-- what a writer refuses with
abbrev pub name_of_write_refusal : SerializeError → List ℕ
name_of_write_refusal (serialize_errors.ASN1Error error) = name_of_error error
name_of_write_refusal (serialize_errors.InvalidClass class) = codes "InvalidClass"
name_of_write_refusal serialize_errors.InvalidLength = codes "InvalidLength"
name_of_write_refusal (serialize_errors.IOError error) = codes "IOError"
name_of_write_refusal serialize_errors.OutOfMemory = codes "OutOfMemory"
