-- What making an object identifier answers, of arcs and of text (X.690 8.19, 8.20).
use Rattle.std.specs.Prelude.{◌≡◌, ◌≢◌, ℕ, zero, ◌^◌, ◌<◌, Bool, true, false, List, [], ◌∷◌, map, Result, Ok, Err, ◌==◌}
use Rattle.std.specs.List.{All, slice_split}
use Rattle.std.specs.Str.Parse.{IsNumeral, digits_value, without_leading_plus}
use Rattle.std.specs.declared.alloc.Global.{Global}
use Rattle.std.specs.declared.vec.Vec.{Vec}
use Rattle.x690.specs.Arcs.{AreAbsoluteArcs, AreShortest, IsFirstPair, arcs_octets, arcs_of}
use Rattle.asn1_rs.specs.declared.asn1_types.oid.Oid.{Oid}
use Rattle.asn1_rs.specs.declared.asn1_types.oid.making.OidParseError.{OidParseError}
use Rattle.asn1_rs.specs.declared.asn1_types.oid.making.OidParseError.TheVariants.{TooShort, FirstComponentsTooLarge}
use Rattle.asn1_rs.specs.declared.asn1_types.oid.making.OidParseError.TheVariants.{ParseIntError, OutOfMemory}
use Rattle.asn1_rs.specs.Oid.{IsStrictOid, is_relative, oid_octets, oid_value}

-- Of arcs, where `true` is of a relative identifier.

-- the arcs of an identifier: one or more of a relative one; else the one arc 0, or a first pair and any more
abbrev pub AreArcs : Bool → List ℕ → Type 0
AreArcs true arcs = arcs ≢ []
AreArcs false arcs = AreAbsoluteArcs arcs

-- none, or, of an absolute identifier, one alone that is not 0
abbrev pub AreTooFew : Bool → List ℕ → Type 0
AreTooFew relative [] = Unit {0}
AreTooFew true (x ∷ arcs) = ⊥
AreTooFew false (x ∷ []) = x ≢ 0
AreTooFew false (x ∷ y ∷ arcs) = ⊥

-- two or more, whose first pair is none of an identifier (8.19.4)
abbrev pub HaveNoFirstPair : List ℕ → Type 0
HaveNoFirstPair [] = ⊥
HaveNoFirstPair (x ∷ []) = ⊥
HaveNoFirstPair (x ∷ y ∷ arcs) = ¬ (IsFirstPair x y)

-- why arcs are refused
abbrev pub RefusesArcs : Bool → List ℕ → OidParseError → Type 0
RefusesArcs relative arcs TooShort = AreTooFew relative arcs
RefusesArcs relative arcs FirstComponentsTooLarge = (relative ≡ false) × HaveNoFirstPair arcs
RefusesArcs relative arcs ParseIntError = ⊥
RefusesArcs relative arcs OutOfMemory = ⊥

-- The arcs that come back: 0, 0 has the contents octets of the one arc 0 (8.19).
abbrev pub arcs_back : Bool → List ℕ → List ℕ
arcs_back true arcs = arcs
arcs_back false (zero ∷ zero ∷ []) = 0 ∷ []
arcs_back false arcs = arcs

-- The identifier of arcs, by its shortest contents octets; an absolute one is in DER form.
pub record IsOidOf (relative : Bool) (arcs : List ℕ) (x : Oid) : Type 0 where
  pub taken : AreArcs relative arcs
  pub kind : is_relative x ≡ relative
  pub octets : oid_octets x ≡ arcs_octets relative arcs
  pub back : arcs_of relative (oid_octets x) ≡ arcs_back relative arcs
  pub shortest : AreShortest (oid_octets x)
  pub strict : relative ≡ false → IsStrictOid (oid_value x)

-- what making one of arcs may answer
abbrev pub OidMade : Bool → List ℕ → Result Oid OidParseError → Type 0
OidMade relative arcs (Ok x) = IsOidOf relative arcs x
OidMade relative arcs (Err TooShort) = RefusesArcs relative arcs TooShort
OidMade relative arcs (Err FirstComponentsTooLarge) = RefusesArcs relative arcs FirstComponentsTooLarge
OidMade relative arcs (Err ParseIntError) = ⊥
OidMade relative arcs (Err OutOfMemory) = AreArcs relative arcs

-- Of text.

-- the parts of a text between its points: one where there is none
abbrev pub parts_between_points : List ℕ → List (List ℕ)
parts_between_points text = slice_split (λ b. b == 46) text

-- a number below 2^64 in decimal, behind a plus or nothing
abbrev pub SaysArc : List ℕ → Type 0
SaysArc part = IsNumeral 10 (without_leading_plus part) × (digits_value 10 (without_leading_plus part) < 2 ^ 64)

-- the number that one part of the text says
abbrev pub arc_said : List ℕ → ℕ
arc_said part = digits_value 10 (without_leading_plus part)

-- each part of the text is such
abbrev pub SaysArcs : List ℕ → Type 0
SaysArcs text = All SaysArc (parts_between_points text)

-- the numbers that the parts of the text say
abbrev pub arcs_said : List ℕ → List ℕ
arcs_said text = map arc_said (parts_between_points text)

-- what reading the arcs of a text may answer
abbrev pub ArcsRead : List ℕ → Result (Vec ℕ Global) OidParseError → Type 0
ArcsRead text (Ok arcs) = SaysArcs text × (arcs.items ≡ arcs_said text)
ArcsRead text (Err TooShort) = ⊥
ArcsRead text (Err FirstComponentsTooLarge) = ⊥
ArcsRead text (Err ParseIntError) = ¬ (SaysArcs text)
ArcsRead text (Err OutOfMemory) = SaysArcs text

-- what making an identifier of a text may answer: each part is read before the arcs are looked at
abbrev pub OidReadFrom : List ℕ → Result Oid OidParseError → Type 0
OidReadFrom text (Ok x) = SaysArcs text × OidMade false (arcs_said text) (Ok x)
OidReadFrom text (Err TooShort) = SaysArcs text × OidMade false (arcs_said text) (Err TooShort)
OidReadFrom text (Err FirstComponentsTooLarge) =
    SaysArcs text × OidMade false (arcs_said text) (Err FirstComponentsTooLarge)
OidReadFrom text (Err ParseIntError) = ¬ (SaysArcs text)
OidReadFrom text (Err OutOfMemory) = SaysArcs text × OidMade false (arcs_said text) (Err OutOfMemory)
