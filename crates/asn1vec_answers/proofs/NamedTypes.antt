-- Each type that a line can name stands among all of them.
use Rattle.std.proofs.Common.{◌≡◌, ◌≢◌, ◌<◌, lit<, All, MatchOption, ℕ, List, [], ◌∷◌, get_or, length, Option, Some}
use Rattle.std.proofs.Common.{None}
use Rattle.std.proofs.lemmas.List.Elements.{All-get_or}
use Rattle.asn1vec_answers.specs.declared.types.TypeName.{TypeName}
use Rattle.asn1vec_answers.specs.declared.types.TypeName.TheVariants.{U8, U16, U32, U64, U128, I8, I16, I32, I64, I128}
use Rattle.asn1vec_answers.specs.declared.types.TypeName.TheVariants.{Any, Bool, Null, Enumerated, Integer, Octets}
use Rattle.asn1vec_answers.specs.declared.types.TypeName.TheVariants.{Bits, Eoc, VecU8, VecU32, VecBool, VecVecU8}
use Rattle.asn1vec_answers.specs.declared.types.TypeName.TheVariants.{SetOfU8, BTreeSetU8, Sequence, Set, SeqOfU32}
use Rattle.asn1vec_answers.specs.declared.types.TypeName.TheVariants.{Explicit0U32, Explicit31U8, VecExplicit31U8}
use Rattle.asn1vec_answers.specs.declared.types.TypeName.TheVariants.{OptU8, HashSetI8, Implicit1VecU16, Oid, Utf8}
use Rattle.asn1vec_answers.specs.declared.types.TypeName.TheVariants.{Numeric, Printable, Teletex, Videotex, Ia5}
use Rattle.asn1vec_answers.specs.declared.types.TypeName.TheVariants.{Graphic, Visible, General, Descriptor, Universal}
use Rattle.asn1vec_answers.specs.declared.types.TypeName.TheVariants.{Bmp, UtcTime, GenTime, Pdv, X509Name}
use Rattle.asn1vec_answers.specs.Types.{name_of_type}

-- all of them, in the order of the program
abbrev pub types : List TypeName
types = U8 ∷ U16 ∷ U32 ∷ U64 ∷ U128 ∷ I8 ∷ I16 ∷ I32 ∷ I64 ∷ I128 ∷ Any ∷ Bool ∷ Null ∷ Enumerated ∷ Integer ∷ Octets ∷
    Bits ∷ Eoc ∷ VecU8 ∷ VecU32 ∷ VecBool ∷ VecVecU8 ∷ SetOfU8 ∷ BTreeSetU8 ∷ Sequence ∷ Set ∷ SeqOfU32 ∷ Explicit0U32 ∷
    Explicit31U8 ∷ VecExplicit31U8 ∷ OptU8 ∷ HashSetI8 ∷ Implicit1VecU16 ∷ Oid ∷ Utf8 ∷ Numeric ∷ Printable ∷ Teletex ∷
    Videotex ∷ Ia5 ∷ Graphic ∷ Visible ∷ General ∷ Descriptor ∷ Universal ∷ Bmp ∷ UtcTime ∷ GenTime ∷ Pdv ∷
    X509Name ∷ []

module _ (P : TypeName → Type 0) (all : All P types) where
  at : (place : ℕ) → place < length types → P (get_or types place U8)
  at place among = All-get_or P types place U8 among all

  -- what holds of all of them holds of each
  each : (t : TypeName) → P t
  each U8 = at 0 (lit< tt)
  each U16 = at 1 (lit< tt)
  each U32 = at 2 (lit< tt)
  each U64 = at 3 (lit< tt)
  each U128 = at 4 (lit< tt)
  each I8 = at 5 (lit< tt)
  each I16 = at 6 (lit< tt)
  each I32 = at 7 (lit< tt)
  each I64 = at 8 (lit< tt)
  each I128 = at 9 (lit< tt)
  each Any = at 10 (lit< tt)
  each Bool = at 11 (lit< tt)
  each Null = at 12 (lit< tt)
  each Enumerated = at 13 (lit< tt)
  each Integer = at 14 (lit< tt)
  each Octets = at 15 (lit< tt)
  each Bits = at 16 (lit< tt)
  each Eoc = at 17 (lit< tt)
  each VecU8 = at 18 (lit< tt)
  each VecU32 = at 19 (lit< tt)
  each VecBool = at 20 (lit< tt)
  each VecVecU8 = at 21 (lit< tt)
  each SetOfU8 = at 22 (lit< tt)
  each BTreeSetU8 = at 23 (lit< tt)
  each Sequence = at 24 (lit< tt)
  each Set = at 25 (lit< tt)
  each SeqOfU32 = at 26 (lit< tt)
  each Explicit0U32 = at 27 (lit< tt)
  each Explicit31U8 = at 28 (lit< tt)
  each VecExplicit31U8 = at 29 (lit< tt)
  each OptU8 = at 30 (lit< tt)
  each HashSetI8 = at 31 (lit< tt)
  each Implicit1VecU16 = at 32 (lit< tt)
  each Oid = at 33 (lit< tt)
  each Utf8 = at 34 (lit< tt)
  each Numeric = at 35 (lit< tt)
  each Printable = at 36 (lit< tt)
  each Teletex = at 37 (lit< tt)
  each Videotex = at 38 (lit< tt)
  each Ia5 = at 39 (lit< tt)
  each Graphic = at 40 (lit< tt)
  each Visible = at 41 (lit< tt)
  each General = at 42 (lit< tt)
  each Descriptor = at 43 (lit< tt)
  each Universal = at 44 (lit< tt)
  each Bmp = at 45 (lit< tt)
  each UtcTime = at 46 (lit< tt)
  each GenTime = at 47 (lit< tt)
  each Pdv = at 48 (lit< tt)
  each X509Name = at 49 (lit< tt)

-- a name that is none of theirs is of no type
pub named : (name : List ℕ) (result : Option TypeName) →
    MatchOption result (All (λ t. name ≢ name_of_type t) types) (λ t. name ≡ name_of_type t) →
    MatchOption result ((t : TypeName) → name ≢ name_of_type t) (λ t. name ≡ name_of_type t)
named name None none = each (λ t. name ≢ name_of_type t) none
named name (Some t) same = same
