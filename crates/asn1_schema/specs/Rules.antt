-- DER, BER, and the strict encodings.
use Rattle.std.specs.Prelude.{ℕ, zero, suc, ◌<◌, ◌≢◌, ◌≡◌, ◌⊎◌, Bool, true, false, List, [], ◌∷◌, ◌++◌, length, replicate, Option, Some, None, IfSome}
use Rattle.x690.specs.Ascending.{Ascending}
use Rattle.x690.specs.Identifiers.{Identifier}
use Rattle.x690.specs.Joined.{AreConcatenatedWords}
use Rattle.x690.specs.Elements.{Parts, IsDerElement}
use Rattle.x690.specs.Nested.{IsElement}
use Rattle.x690.specs.Times.{digits, to_minute, InRange, SaysZone, SaysZoneOrNone}
use Rattle.x690.specs.Times.{IsStrictUtcText, IsStrictGeneralizedText}
use Rattle.x690.specs.Sets.{AllIn}
use Rattle.std.specs.Char.{is_ascii_digit}
use Rattle.x690.specs.declared.times.Moment.{Moment}
use Rattle.asn1_schema.specs.declared.schema.TimeKind.{TimeKind}
use Rattle.asn1_schema.specs.declared.schema.TimeKind.TheVariants as times
use Rattle.asn1_schema.specs.Grammar.{Rules, trimmed, AnyOrder}

-- by DER a truth value is ff or 00 (X.690 11.1)
abbrev pub IsStrictTruth : List ℕ → Bool → Type 0
IsStrictTruth content true = content ≡ 255 ∷ []
IsStrictTruth content false = content ≡ 0 ∷ []

-- by BER an octet that is not 0 says true (8.2.2)
abbrev pub IsTruth : List ℕ → Bool → Type 0
IsTruth content true = (n : ℕ) × (content ≡ n ∷ []) × (n ≢ 0)
IsTruth content false = content ≡ 0 ∷ []

-- the text of a time that can be, in its strict form (11.7, 11.8)
abbrev pub IsStrictTime : TimeKind → List ℕ → Type 0
IsStrictTime times.Utc o = IsStrictUtcText o
IsStrictTime times.Generalized o = IsStrictGeneralizedText o

-- a point or a comma, and digits; or nothing
abbrev pub IsFraction : List ℕ → Type 0
IsFraction o = (o ≡ []) ⊎ ((point : ℕ) × (octets : List ℕ) × ((point ≡ 46) ⊎ (point ≡ 44)) × (octets ≢ []) ×
    AllIn is_ascii_digit octets × (o ≡ point ∷ octets))

-- nothing, Z, or hours and maybe minutes ahead of UTC or behind it
abbrev pub SaysAnyZone : Moment → List ℕ → Type 0
SaysAnyZone m o = SaysZoneOrNone o m.zone ⊎
    ((sign hours : ℕ) × ((sign ≡ 43) ⊎ (sign ≡ 45)) × (hours < 100) × (o ≡ sign ∷ digits 2 hours))

-- the text of a time: seconds may be left out (X.680 47.3); minutes too, and then has the last part a fraction (46.2, 46.3)
abbrev pub IsTime : TimeKind → List ℕ → Type 0
IsTime times.Utc o = (m : Moment) × (seconds zone : List ℕ) × (m.year < 100) × InRange m ×
    ((seconds ≡ []) ⊎ (seconds ≡ digits 2 m.second)) × SaysZone zone m.zone ×
    (o ≡ digits 2 m.year ++ to_minute m ++ seconds ++ zone)
IsTime times.Generalized o = (m : Moment) × (minutes fraction zone : List ℕ) × (m.year < 10000) × InRange m ×
    ((minutes ≡ []) ⊎ (minutes ≡ digits 2 m.minute) ⊎ (minutes ≡ digits 2 m.minute ++ digits 2 m.second)) ×
    IsFraction fraction × SaysAnyZone m zone ×
    (o ≡ digits 4 m.year ++ (digits 2 m.month ++ digits 2 m.day ++ digits 2 m.hour) ++ minutes ++ fraction ++ zone)

-- every element within has a strict header, to a depth (10.1)
abbrev pub IsStrictInside : ℕ → Parts → Type 0
IsStrictInside zero p = p.id.constructed ≡ false
IsStrictInside (suc depth) p = (p.id.constructed ≡ false) ⊎
    AreConcatenatedWords (λ word q. IsDerElement word q × IsStrictInside depth q) p.content

abbrev pub ArbitraryParts : ℕ → Parts → Type 0
ArbitraryParts depth p = Unit {0}

abbrev pub AnyBits : List Bool → Type 0
AnyBits bs = Unit {0}

-- The tag comes before the other: by its class, from universal over application and context-specific to private, and
-- within a class by its number (X.680 8.6).
abbrev pub IsTagBefore : Identifier → Identifier → Type 0
IsTagBefore i j = (i.class < j.class) ⊎ ((i.class ≡ j.class) × (i.number < j.number))

-- Elements ascend by the tags that they have, the first one behind a tag, if there is one.
abbrev pub AscendBehind : Option Identifier → List Parts → Type 0
AscendBehind last [] = Unit {0}
AscendBehind last (p ∷ ps) = IfSome last (λ i. IsTagBefore i p.id) × AscendBehind (Some p.id) ps

-- The order of the elements of a set (10.3). A field of a choice has its place by the tag of the arm that is there. (In
-- the canonical order of types, X.680 8.6, the least tag of its arms counts.)
abbrev pub TagsAscend : List Parts → Type 0
TagsAscend = AscendBehind None

abbrev pub ArbitraryTags : List Parts → Type 0
ArbitraryTags ps = Unit {0}

-- DER, but for what depends on values: defaults and the order of set-ofs (11.5, 11.6)
abbrev pub der : Rules
der = record {
  ElementOf = IsDerElement;
  Truth = IsStrictTruth;
  Unused = λ bs. bs ≡ replicate (length bs) false;
  Named = λ bs. trimmed bs ≡ bs;
  Time = IsStrictTime;
  in_pieces = false;
  Inside = IsStrictInside;
  Order = AnyOrder;
  TagOrder = TagsAscend;
  defaults_written = true;
}

-- DER: the strict encodings
abbrev pub strict : Rules
strict = record der { Order = Ascending; defaults_written = false }

-- BER, with elements of indefinite length nested to a depth
abbrev pub ber : ℕ → Rules
ber max = record {
  ElementOf = IsElement max;
  Truth = IsTruth;
  Unused = AnyBits;
  Named = AnyBits;
  Time = IsTime;
  in_pieces = true;
  Inside = ArbitraryParts;
  Order = AnyOrder;
  TagOrder = ArbitraryTags;
  defaults_written = true;
}
