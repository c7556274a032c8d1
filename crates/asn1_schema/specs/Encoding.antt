-- What the encoder answers.
use Rattle.std.specs.Prelude.{ℕ, List, [], ◌++◌, ◌≡◌, Result}
use Rattle.asn1_headers.specs.Answers.{HasPrefix}
use Rattle.asn1_headers.specs.Writer.{WriterState, Wrote}
use Rattle.asn1_headers.specs.declared.error.SerializeError.{SerializeError}
use Rattle.asn1_schema.specs.declared.tape.Item.{Item}
use Rattle.asn1_schema.specs.Values.{Value}
use Rattle.asn1_schema.specs.Tape.{Kept, marks, value_of, tape_of}

-- The tape is that of a value, and a word of it was put in front of the octets.
pub record Encodes (G : List ℕ → Value → Type 0) (tape : List Item) (old new : List ℕ) : Type 0 where
  pub kept : Kept
  pub word : List ℕ
  pub holds : G word (value_of kept)
  pub is : marks tape ≡ tape_of kept
  pub put : new ≡ word ++ old

-- The one word of the value of the tape was appended to a writer, or a beginning of it where the writer failed.
pub record EncodesTo (G : List ℕ → Value → Type 0) (tape : List Item) (old new : WriterState)
    (answer : Result ℕ SerializeError) : Type 0 where
  pub word : List ℕ
  pub encodes : Encodes G tape [] word
  pub wrote : Wrote word old new answer

-- the tape is that of no value that has a word
abbrev pub IsOfNoWord : (List ℕ → Value → Type 0) → List Item → Type 0
IsOfNoWord G tape = (word : List ℕ) (kept : Kept) → G word (value_of kept) → marks tape ≡ tape_of kept → ⊥

-- The octets are read as the value of the tape, before this rest, and as no other.
pub record IsReadAs (G : List ℕ → Value → Type 0) (tape : List Item) (octets rest : List ℕ) : Type 0 where
  pub kept : Kept
  pub is : marks tape ≡ tape_of kept
  pub front : HasPrefix G octets (value_of kept) rest
  pub only : (v : Value) (others : List ℕ) → HasPrefix G octets v others → (v ≡ value_of kept) × (others ≡ rest)
