-- Levels, and refusals of the library that are made a caller's own.
use Rattle.std.specs.Prelude.{◌≡◌, ℕ, ℤ, pos, false, List, Result, Ok, Err}
use Rattle.std.proofs.Common.{◌∙◌, ap, subst, inl, inr}
use Rattle.x690.specs.Octets.{IsOctets}
use Rattle.x690.specs.Identifiers.{Identifier}
use Rattle.asn1_rs.specs.declared.asn1_types.any.Any.{Any}
use Rattle.asn1_headers.specs.declared.error.Error.{Error}
use Rattle.asn1_headers.specs.Answers.{IsOther}
use Rattle.asn1_rs.specs.Any.{parts_of}
use Rattle.asn1_rs.specs.Grammar.{DerWord, NoCheck, TakesBody}
use Rattle.asn1_rs.specs.Integer.{integer_element, IntegerBody, IntegerCheck, IsUnsigned, UnsignedGives}
use Rattle.asn1_rs.specs.Kinds.{ElementGrammar, IsExactConversion, by_inner_element, InnerGives}
use Rattle.asn1_rs.specs.Laws.Integer.Unsigned.{unsigned_converts}
use Rattle.asn1_rs.specs.Laws.Kinds.{holding_converts}
use Rattle.asn1_rs.specs.Tagged.Headed.{HeadedWhole}
use Rattle.asn1_rs.specs.Traits.{OfParts}
use Rattle.asn1_rs_uses.specs.declared.levels.Level.{Level}

-- What converting an element may answer. It is what the library answers, with the refusal made the caller's.
abbrev pub RefusedAs : {T E : Type 0} → (Error → E) → (Any → Result T Error → Type 0) → Any → Result T E → Type 0
RefusedAs own converts any (Ok x) = converts any (Ok x)
RefusedAs own converts any (Err r) = (e : Error) × converts any (Err e) × (r ≡ own e)

module _ {T E : Type 0} (own : Error → E) (converts : Any → Result T Error → Type 0) (G : ElementGrammar T)
    (exact : IsExactConversion converts G) where
  -- such a conversion is as exact as the library's
  pub refused_as_takes : (any : Any) (answer : Result T E) → IsOctets any.content.now →
      RefusedAs own converts any answer → TakesBody G.Body G.value G.allocates (λ x y. y ≡ own x) (parts_of any) answer
  refused_as_takes any (Ok x) o h = exact.exact any (Ok x) o h
  refused_as_takes any (Err r) o (e, c, is) =
      elim (exact.exact any (Err e) o c) [
        | inl m ↦ inl (m.0, is ∙ ap own m.1)
        | inr none ↦ inr none
      ]

  -- and reports out of memory where that does
  pub refused_as_no_memory : G.allocates ≡ false → (any : Any) (r : E) → RefusedAs own converts any (Err r) →
      IsOther (λ x y. y ≡ own x) r
  refused_as_no_memory none any r (e, c, is) =
      inl (e, λ q. exact.asks_no_memory none any (subst (λ (x : Error). converts any (Err x)) q c), is)

-- the number that a level is
abbrev pub level_number : Level → ℕ
level_number x = x.0

-- a number of one octet
abbrev pub level_element : ElementGrammar Level
level_element = by_inner_element level_number (integer_element pos (IsUnsigned 1))

-- what the library's conversion to such a number may answer
abbrev pub LevelConverts : Any → Result Level Error → Type 0
LevelConverts = InnerGives level_number (OfParts (UnsignedGives 1))

-- The conversion to a level is exact.
pub level_converts : IsExactConversion LevelConverts level_element
level_converts = holding_converts level_number _ _ (unsigned_converts 1)

-- a number of one octet by DER in an element of any tag, with the identifier of that
abbrev pub LevelByDer : List ℕ → Identifier × ℤ → Type 0
LevelByDer = DerWord NoCheck (HeadedWhole (DerWord IntegerCheck (IntegerBody (IsUnsigned 1))))
