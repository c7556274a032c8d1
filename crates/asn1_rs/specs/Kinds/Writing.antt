-- What is written for the values of a type.
use Rattle.std.specs.Prelude.{ℕ, Bool, true, false, List, length, take, ◌≡◌, ◌<◌, ◌≤◌, Result, Err, IfErr}
use Rattle.std.specs.List.{All, flat_map}
use Rattle.x690.specs.Strict.{header_octets}
use Rattle.x690.specs.Identifiers.{Identifier}
use Rattle.asn1_rs.specs.Grammar.Form.{of_universal_class}
use Rattle.asn1_rs.specs.Grammar.{FormTakes}
use Rattle.asn1_headers.specs.Tag.{is_container_number}
use Rattle.asn1_rs.specs.declared.kinds.writing.Piece.{Piece}
use Rattle.asn1_rs.specs.Kinds.{ElementGrammar}
use Rattle.asn1_rs.specs.Lists.{SomeRefuses}
use Rattle.asn1_rs.specs.Set.{set_content}
use Rattle.asn1_headers.specs.declared.error.Error.{Error}
use Rattle.asn1_headers.specs.declared.error.SerializeError.{SerializeError}
use Rattle.asn1_headers.specs.Error.{written_refusal}
use Rattle.asn1_headers.specs.Writer.{WriterState, MayRefuse}
use Rattle.asn1_rs.specs.ToDer.{Writing, IntoVector, MayRefuseCount, RefusedAtOnce, WrittenRefusal, plain_writing}
use Rattle.asn1_rs.specs.ToDer.{whole_octets, whole_refuses, whole_allocates}

-- the strict header of an element of the universal class with this number:
-- constructed for sequences and sets, else primitive
abbrev pub universal_header : ℕ → List ℕ → List ℕ
universal_header number content = header_octets 0 (is_container_number number) number (length content)

-- the strict identifier of the universal class with this number, constructed for sequences and sets alone
abbrev pub universal_identifier : ℕ → Identifier
universal_identifier number = of_universal_class (is_container_number number) number

-- A count of so many octets: its length alone refuses it, or the value does, with a refusal of its own.
abbrev pub CountRefused : Bool → (Error → Type 0) → ℕ → Result ℕ Error → Type 0
CountRefused false own n answer = IfErr answer (MayRefuseCount false n)
CountRefused true own n answer = (e : Error) × own e × (answer ≡ Err e)

-- A writing of so many octets: the writer and the length alone refuse it, or the value does,
-- and then nothing is appended.
abbrev pub OwnPutRefused : Bool → (Error → Type 0) → ℕ → WriterState → WriterState → Result ℕ SerializeError → Type 0
OwnPutRefused false own n old new answer = IfErr answer (MayRefuse false n)
OwnPutRefused true own n old new answer = (e : Error) × own e × RefusedAtOnce (written_refusal e) old new answer

-- A putting of contents octets before those of a buffer, of so many octets in all. Memory and the length alone refuse
-- it, or the value does, and then the buffer is as it was.
abbrev pub PrependRefused : Bool → (Error → Type 0) → ℕ → List ℕ → List ℕ → Result ℕ SerializeError → Type 0
PrependRefused false own n old new answer = IfErr answer (MayRefuse true n)
PrependRefused true own n old new answer = (e : Error) × own e × (answer ≡ Err (written_refusal e)) × (new ≡ old)

-- the octets of a piece
abbrev pub piece_octets : Piece → List ℕ
piece_octets p = take p.count p.octets

-- a piece of these octets, of a value that is not refused
abbrev pub IsPieceOf : Bool → List ℕ → Piece → Type 0
IsPieceOf refused octets p = (refused ≡ false) × (p.count ≤ 16) × (piece_octets p ≡ octets)

-- the refusals of a value of its own, where it is refused, in counts and in writing
abbrev pub OwnRefusal : Bool → (Error → Type 0) → Error → Type 0
OwnRefusal false own e = ⊥
OwnRefusal true own e = own e

-- a refusal of the value's own, where its kind has such
abbrev pub OwnWritten : Bool → (Error → Type 0) → SerializeError → Type 0
OwnWritten false own e = ⊥
OwnWritten true own e = WrittenRefusal own e

-- the refusal as which each of the value's own comes out, where it is refused
abbrev pub OwnFirst : Bool → (Error → Type 0) → SerializeError → Type 0
OwnFirst false own e = ⊥
OwnFirst true own e = (f : Error) → own f → e ≡ written_refusal f

-- An element of the universal class, with this number and these contents octets. Beside its writer and its length
-- nothing refuses a value, but those that are refused for what they are, with a refusal of their own. Where that is one
-- and the same, it comes before all else.
abbrev pub universal_writing : {S : Type 0} → ℕ → (S → List ℕ) → (S → Bool) → (S → Error → Type 0) → Writing S
universal_writing number octets is_refused refusal =
    record (plain_writing (λ x. universal_header number (octets x)) octets (λ x. is_container_number number)) {
      count_refuses = λ x. OwnRefusal (is_refused x) (refusal x);
      header_refuses = λ x. OwnWritten (is_refused x) (refusal x);
      content_refuses = λ x. OwnWritten (is_refused x) (refusal x);
      refuses_first = λ x. OwnFirst (is_refused x) (refusal x);
    }

-- lists of items that are written as `item` says: a constructed element with this number, of the items in their order.
-- One takes no memory of its own that it can't do without: where its buffer can't grow, it is written forward.
abbrev pub list_writing : {S W : Type 0} → ℕ → (W → List S) → Writing S → Writing W
list_writing number items item = record {
  tells = λ v. All item.tells (items v);
  header = λ v. header_octets 0 true number (length (flat_map (whole_octets item) (items v)));
  content = λ v. flat_map (whole_octets item) (items v);
  constructed = λ v. true;
  count_refuses = λ v. SomeRefuses item.count_refuses (items v);
  header_refuses = λ v. WrittenRefusal (SomeRefuses item.count_refuses (items v));
  content_refuses = λ v. SomeRefuses (whole_refuses item) (items v);
  refuses_first = λ v e. ⊥;
  count_allocates = item.count_allocates;
  content_allocates = whole_allocates item;
  write_allocates = false;
}

-- sets of such items: all are written into a vector, from which their encodings are joined in ascending order.
-- One of a single item takes no vector. These members are of the type, and allow the refusal of each set.
abbrev pub set_writing : {S W : Type 0} → (W → List S) → Writing S → Writing W
set_writing items item = record {
  tells = λ v. All item.tells (items v);
  header = λ v. header_octets 0 true 17 (length (set_content (whole_octets item) (items v)));
  content = λ v. set_content (whole_octets item) (items v);
  constructed = λ v. true;
  count_refuses = λ v. SomeRefuses item.count_refuses (items v);
  header_refuses = λ v. WrittenRefusal (SomeRefuses item.count_refuses (items v));
  content_refuses = λ v. SomeRefuses (λ x. IntoVector (whole_refuses item x)) (items v);
  refuses_first = λ v e. ⊥;
  count_allocates = item.count_allocates;
  content_allocates = true;
  write_allocates = true;
}

-- The contents octets of such an element follow from the value. Where it has strict parts, they are its content, and
-- the identifier is the one of the universal class with this number. Under any class they meet the check and have the
-- value all the same. A value in DER form has strict parts, and one that has such is not refused. The number is one of
-- the low form.
pub record IsWrittenElement {S : Type 0} (G : ElementGrammar S) (number : ℕ) (octets : S → List ℕ)
    (is_refused : S → Bool) : Type 0 where
  pub by_value : (x y : S) → G.value x ≡ G.value y → octets x ≡ octets y
  pub identifier : (v : G.Value) (i : Identifier) (c : List ℕ) → G.Form v i c → i ≡ universal_identifier number
  pub form : (x : S) (i : Identifier) (c : List ℕ) → G.Form (G.value x) i c → octets x ≡ c
  pub class : (k : ℕ) → FormTakes G.Form G.Check G.Body k
  pub der : (x : S) → G.IsDer (G.value x) → G.Form (G.value x) (universal_identifier number) (octets x)
  pub accepted : (x : S) (i : Identifier) (c : List ℕ) → G.Form (G.value x) i c → is_refused x ≡ false
  pub small : number < 31
