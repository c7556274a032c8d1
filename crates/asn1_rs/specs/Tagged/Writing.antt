-- What is written under tags.
use Rattle.std.specs.Prelude.{◌≡◌, ◌⊎◌, ℕ, ◌<◌, ◌≤◌, Bool, true, List, length}
use Rattle.x690.specs.Identifiers.{Identifier}
use Rattle.x690.specs.Strict.{header_octets}
use Rattle.asn1_headers.specs.declared.error.SerializeError.{SerializeError}
use Rattle.asn1_headers.specs.declared.error.SerializeError.TheVariants.{InvalidClass}
use Rattle.asn1_rs.specs.ToDer.{Writing, WrittenRefusal, whole_octets, whole_refuses, whole_allocates}

-- What an element under a tag has of the value. These are its contents octets, its constructed bit, the refusals of the
-- contents octets that are the value's own, and whether writing them allocates.
pub record UnderTag (S : Type 0) : Type 1 where
  pub octets : S → List ℕ
  pub bit : S → Bool
  pub refuses : S → SerializeError → Type 0
  pub allocates : Bool

-- a constructed element, whose contents octets are the encoding of the value
abbrev pub explicit_under : {S : Type 0} → Writing S → UnderTag S
explicit_under w = record {
  octets = whole_octets w;
  bit = λ _. true;
  refuses = whole_refuses w;
  allocates = whole_allocates w;
}

-- an element with the constructed bit and the contents octets of the value's
abbrev pub implicit_under : {S : Type 0} → Writing S → UnderTag S
implicit_under w = record {
  octets = w.content;
  bit = w.constructed;
  refuses = w.content_refuses;
  allocates = w.content_allocates;
}

-- a class past 3 is the refusal, before all others
abbrev pub UnderClass : ℕ → (SerializeError → Type 0) → SerializeError → Type 0
UnderClass class own e = ((4 ≤ class) × (e ≡ InvalidClass class)) ⊎ ((class < 4) × own e)

-- what is written under a tag of this class and number
abbrev pub tag_writing : {S T : Type 0} → ℕ → ℕ → (T → S) → UnderTag S → Writing S → Writing T
tag_writing class number inner under w = record {
  tells = λ t. w.tells (inner t);
  header = λ t. header_octets class (under.bit (inner t)) number (length (under.octets (inner t)));
  content = λ t. under.octets (inner t);
  constructed = λ t. under.bit (inner t);
  count_refuses = λ t. w.count_refuses (inner t);
  header_refuses = λ t. UnderClass class (WrittenRefusal (w.count_refuses (inner t)));
  content_refuses = λ t. UnderClass class (under.refuses (inner t));
  refuses_first = λ t e. (4 ≤ class) × (e ≡ InvalidClass class);
  count_allocates = w.count_allocates;
  content_allocates = under.allocates;
  write_allocates = w.write_allocates;
}

-- what is written under a tag of the class and number of the header in hand
abbrev pub headed_writing : {S T : Type 0} → (T → Identifier) → (T → S) → UnderTag S → Writing S → Writing T
headed_writing identifier inner under w = record {
  tells = λ t. w.tells (inner t);
  header = λ t.
      header_octets (identifier t).class (under.bit (inner t)) (identifier t).number (length (under.octets (inner t)));
  content = λ t. under.octets (inner t);
  constructed = λ t. under.bit (inner t);
  count_refuses = λ t. w.count_refuses (inner t);
  header_refuses = λ t. WrittenRefusal (w.count_refuses (inner t));
  content_refuses = λ t. under.refuses (inner t);
  refuses_first = λ _ _. ⊥;
  count_allocates = w.count_allocates;
  content_allocates = under.allocates;
  write_allocates = w.write_allocates;
}
