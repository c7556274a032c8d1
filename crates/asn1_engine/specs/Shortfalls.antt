-- How many octets are missing of an element.
use Rattle.std.specs.Prelude.{◌≡◌, ℕ, ◌<◌, ◌≤◌, List, [], ◌++◌, Option, Some, None, codes, length}
use Rattle.x690.specs.Identifiers.{Identifier}
use Rattle.x690.specs.Lengths.{definite}
use Rattle.x690.specs.Rules.{der_rule}
use Rattle.x690.specs.Elements.{IsHeader}
use Rattle.asn1_headers.specs.declared.length.Length.{Length}
use Rattle.asn1_headers.specs.declared.length.Length.TheVariants.{Definite}
use Rattle.asn1_strict.specs.declared.requirement.Requirement.{Requirement}
use Rattle.asn1_strict.specs.declared.requirement.Requirement.TheVariants as requirements
use Rattle.asn1_words.specs.Words.{number_text}
use Rattle.asn1_engine.specs.declared.shortfalls.Shortfall.{Shortfall}

-- the length counts no more octets than these
abbrev pub CountsNoMore : Length → List ℕ → Type 0
CountsNoMore form there = (n : ℕ) → form ≡ Definite n → n ≤ length there

-- it counts so many, and fewer are there
abbrev pub CountsMore : Length → List ℕ → Shortfall → Type 0
CountsMore form there shortfall = (form ≡ Definite shortfall.counted) × (shortfall.there ≡ length there) ×
    (shortfall.there < shortfall.counted)

-- A header by DER begins the octets. Its length counts so many, and fewer follow it.
abbrev pub IsShortOf : List ℕ → Shortfall → Type 0
IsShortOf octets shortfall = (header : List ℕ) × (rest : List ℕ) × (id : Identifier) ×
    IsHeader der_rule header id (definite shortfall.counted) × (octets ≡ header ++ rest) ×
    (shortfall.there ≡ length rest) × (shortfall.there < shortfall.counted)

-- the same of some number
abbrev pub IsShort : List ℕ → Type 0
IsShort octets = (shortfall : Shortfall) × IsShortOf octets shortfall

-- What is missing of the element that begins octets, where it is not whole. It is known where its header is.
abbrev pub TellsShortfall : Requirement → List ℕ → Option Shortfall → Type 0
TellsShortfall requirements.Whole octets (Some shortfall) = IsShortOf octets shortfall
TellsShortfall requirements.Whole octets None = IsShort octets → ⊥
TellsShortfall _ octets found = found ≡ None

-- the same in words
abbrev pub counts_text : Shortfall → List ℕ
counts_text shortfall = number_text shortfall.counted ++ codes " octets, " ++
    number_text shortfall.there ++ codes " are there"

-- what stands behind the words of the requirement
abbrev pub shortfall_text : Option Shortfall → List ℕ
shortfall_text None = []
shortfall_text (Some shortfall) = codes ": of " ++ counts_text shortfall
