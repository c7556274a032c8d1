-- Truth values (X.690 8.2, 11.1).
use Rattle.std.specs.Prelude.{◌≡◌, ◌≢◌, ◌⊎◌, ◌<◌, ℕ, Bool, true, false, not, nat_eq, List, [], ◌∷◌, get_or}
use Rattle.asn1_rs.specs.declared.asn1_types.boolean.Boolean.{Boolean}
use Rattle.asn1_headers.specs.declared.error.Error.TheVariants.{DerConstraintFailed}
use Rattle.asn1_headers.specs.declared.error.DerConstraint.TheVariants.{InvalidBoolean}
use Rattle.asn1_rs.specs.Checks.{CheckGives, ◌before◌, check, has_length, has_content}
use Rattle.asn1_rs.specs.Leaf.{Leaf}
use Rattle.asn1_rs.specs.ToDer.{Writing, plain_writing}

-- the number of the tag of truth values
abbrev pub boolean_number : ℕ
boolean_number = 1

-- an octet says true where it is not 0
abbrev pub says_true : ℕ → Bool
says_true octet = not (nat_eq octet 0)

-- the strict octet of a truth value
abbrev pub truth_octet : Bool → ℕ
truth_octet true = 255
truth_octet false = 0

-- a strict octet, and one that is none
abbrev pub IsStrictTruthOctet : ℕ → Type 0
IsStrictTruthOctet octet = (octet ≡ 0) ⊎ (octet ≡ 255)

-- an octet that BER takes as true and DER refuses
abbrev pub IsOtherTruth : ℕ → Type 0
IsOtherTruth octet = (octet ≢ 0) × (octet ≢ 255)

-- What the constraints ask: some contents octets, whose first is 00 or ff.
abbrev pub truth_constraints : CheckGives
truth_constraints = has_content before check (λ p. IsStrictTruthOctet (get_or p.content 0 0))
    (λ p. IsOtherTruth (get_or p.content 0 0)) (λ p. DerConstraintFailed InvalidBoolean)

-- one octet, which is the value
abbrev pub boolean_leaf : Leaf Boolean
boolean_leaf = record {
  number = boolean_number;
  Value = ℕ;
  value = λ x. x.value;
  IsValue = λ octet. octet < 256;
  IsDer = IsStrictTruthOctet;
  checks = has_length 1;
  Says = λ content octet. content ≡ octet ∷ [];
  constraints = truth_constraints;
  octets = λ octet. truth_octet (says_true octet) ∷ [];
}

-- one octet, which says the value
abbrev pub bool_leaf : Leaf Bool
bool_leaf = record {
  number = boolean_number;
  Value = Bool;
  value = λ b. b;
  IsValue = λ b. Unit {0};
  IsDer = λ b. Unit {0};
  checks = has_length 1;
  Says = λ content b. (octet : ℕ) × (content ≡ octet ∷ []) × (b ≡ says_true octet);
  constraints = truth_constraints;
  octets = λ b. truth_octet b ∷ [];
}

-- the strict header of one contents octet: identifier octet 01, length octet 01
abbrev pub truth_header : List ℕ
truth_header = 1 ∷ 1 ∷ []

-- the contents octets that are written of a truth value with its octet, and its raw form
abbrev pub truth_octets : Boolean → List ℕ
truth_octets x = truth_octet (says_true x.value) ∷ []

-- the raw form of a `Boolean`: its octet as it was read
abbrev pub raw_boolean : Boolean → List ℕ
raw_boolean x = 1 ∷ 1 ∷ x.value ∷ []

-- It is written as 00 or ff, behind its header.
abbrev pub truth_writing : Writing Boolean
truth_writing = plain_writing (λ x. truth_header) truth_octets (λ x. false)
