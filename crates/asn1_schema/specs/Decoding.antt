-- What the decoder answers.
use Rattle.std.specs.Prelude.{ℕ, List, [], ◌++◌, ◌≡◌, ◌≢◌, ◌<◌, ◌≤◌, ◌⊎◌, length, Option, Some, None, Result}
use Rattle.std.specs.Prelude.{OnErr, IsErrOf}
use Rattle.x690.specs.Joined.{NoPrefix}
use Rattle.x690.specs.Elements.{Parts, BeginsWithElement}
use Rattle.x690.specs.Identifiers.{IsTruncatedIdentifier}
use Rattle.x690.specs.Nested.{EndsInIdentifier}
use Rattle.asn1_headers.specs.Answers.{HasPrefix}
use Rattle.asn1_schema.specs.declared.coding.Coding.{Coding}
use Rattle.asn1_schema.specs.declared.coding.Coding.TheVariants as codings
use Rattle.asn1_schema.specs.declared.decode.DecodeError.{DecodeError}
use Rattle.asn1_schema.specs.declared.decode.DecodeError.TheVariants as errors
use Rattle.asn1_schema.specs.declared.refusal.Reason.TheVariants as reasons
use Rattle.asn1_schema.specs.declared.refusal.Refusal.{Refusal}
use Rattle.asn1_schema.specs.declared.schema.Node.{Node}
use Rattle.asn1_schema.specs.declared.tape.Item.{Item}
use Rattle.asn1_schema.specs.Values.{Value}
use Rattle.asn1_schema.specs.Refusals.{IsTold}
use Rattle.asn1_schema.specs.Tape.{Kept, marks, value_of, tape_of}

-- A word of the grammar begins the octets, and this is the rest. The tape is that of the value of the word.
pub record Decodes (G : List ℕ → Value → Type 0) (octets rest : List ℕ) (tape : List Item) : Type 0 where
  pub kept : Kept
  pub front : HasPrefix G octets (value_of kept) rest
  pub is : marks tape ≡ tape_of kept

-- The octets are a word of the grammar, and the tape is that of its value.
pub record DecodesWhole (G : List ℕ → Value → Type 0) (octets : List ℕ) (tape : List Item) : Type 0 where
  pub kept : Kept
  pub word : G octets (value_of kept)
  pub is : marks tape ≡ tape_of kept

-- A word of the grammar begins the octets, and some octets follow it.
pub record IsFollowed (G : List ℕ → Value → Type 0) (octets : List ℕ) : Type 0 where
  pub value : Value
  pub rest : List ℕ
  pub front : HasPrefix G octets value rest
  pub some : rest ≢ []

-- No word of the grammar begins the octets, whatever follows, but where they end within identifier octets.
pub record HasNoWord (G : List ℕ → Value → Type 0) (is_truncated : Type 0) (octets : List ℕ) : Type 0 where
  pub none : NoPrefix G octets
  pub lasting : (is_truncated → ⊥) → (more : List ℕ) → NoPrefix G (octets ++ more)

-- What an answer to a depth says that is not Ok, of the input and of what it left: the tape, and the refusal.
-- G is of words whose elements nest to a depth.
pub record Fails {T : Type 0} (table : List Node) (G : ℕ → List ℕ → Value → Type 0) (depth : ℕ) (is_truncated : Type 0)
    (octets : List ℕ) (tape : List Item) (refusal : Refusal) (result : Result T DecodeError) : Type 0 where
  -- no word of any depth begins the octets
  pub refused : IsErrOf result errors.Refused → (d : ℕ) → HasNoWord (G d) is_truncated octets
  -- none of this depth does
  pub too_deep : IsErrOf result errors.TooDeep → HasNoWord (G depth) is_truncated octets
  pub truncated : (n : ℕ) → IsErrOf result (errors.Incomplete n) → NoPrefix (G depth) octets
  -- none of any depth does with fewer octets more
  pub incomplete : (n : ℕ) → IsErrOf result (errors.Incomplete n) → (d : ℕ) (more : List ℕ) → length more < n →
      NoPrefix (G d) (octets ++ more)
  pub emptied : OnErr result (tape ≡ [])
  pub within : refusal.octet ≤ length octets
  -- the refusal is told of a type of the table, or of one that it does not have
  pub of : IsErrOf result errors.Refused → (refusal.of < length table) ⊎ (refusal.reason ≡ reasons.MissingType)
  pub deep : IsErrOf result errors.TooDeep → refusal.reason ≡ reasons.Depth
  -- and why is a reason that this type and this field have
  pub told : IsErrOf result errors.Refused → IsTold table None refusal

-- The octets end within the identifier octets of an element (X.690 8.1.2.4), by BER of one that is nested.
abbrev pub IsTruncatedByCoding : Coding → List ℕ → Type 0
IsTruncatedByCoding codings.Der octets = IsTruncatedIdentifier octets
IsTruncatedByCoding (codings.Ber max) octets = EndsInIdentifier max octets

-- So many octets are missing of the element at the front; or it is whole; or none begins the octets, whatever follows.
abbrev pub TellsMissing : (List ℕ → Parts → Type 0) → Type 0 → List ℕ → Option ℕ → Type 0
TellsMissing ElementOf is_truncated octets (Some n) = (more : List ℕ) → length more < n → NoPrefix ElementOf (octets ++ more)
TellsMissing ElementOf is_truncated octets None = BeginsWithElement ElementOf octets ⊎
    ((is_truncated → ⊥) → (more : List ℕ) → NoPrefix ElementOf (octets ++ more))
