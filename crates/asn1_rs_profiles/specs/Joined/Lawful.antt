-- Strings whose pieces are joined are lawful, and reading them is exact.
use Rattle.std.proofs.Common.{◌≡◌, ◌∙◌, ap, sym, subst, refl, inl, inr, arith, ℕ, ◌<◌, true, false, List, IsTrue, ◌↔◌}
use Rattle.std.specs.Prelude.{nat_eq, Result, Ok, Err}
use Rattle.std.specs.Cmp.{unsigned_Decides}
use Rattle.std.specs.Cmp.Lexicographic.{pointwise, pointwise_decides}
use Rattle.x690.specs.Identifiers.{Identifier}
use Rattle.x690.specs.Elements.{Parts}
use Rattle.x690.specs.Octets.{IsOctets}
use Rattle.x690.specs.Laws.Equality.{octets_set}
use Rattle.asn1_headers.specs.Ber.{max_depth}
use Rattle.asn1_headers.specs.Tag.{is_container_number}
use Rattle.asn1_headers.specs.declared.error.Error.{Error}
use Rattle.asn1_rs.specs.declared.asn1_types.any.Any.{Any}
use Rattle.asn1_rs.specs.Any.{parts_of}
use Rattle.asn1_rs.specs.Checks.{is_primitive}
use Rattle.asn1_rs.specs.Grammar.{TakesBody, made, of_class}
use Rattle.asn1_rs.specs.Kinds.{IsExactConversion, IsLawfulElement}
use Rattle.asn1_rs.specs.Kinds.Writing.{IsWrittenElement, universal_identifier}
use Rattle.asn1_rs.specs.Laws.Checks.{exact_check, is_primitive_is}
use Rattle.asn1_rs.specs.Laws.Forms.{universal_fits, universal_one, universal_value}
use Rattle.asn1_rs.specs.LeafReading.{IsExactReading}
use Rattle.asn1_rs.specs.Structs.Data.{LawfulTypeOf}
use Rattle.asn1_rs.specs.Structs.Types.{element_type}
use Rattle.asn1_rs_profiles.specs.Joined.{IsStrictContent, JoinedBody, JoinedGives, JoinedRefuses, joined_element}
use Rattle.asn1_rs_profiles.specs.Joined.{joined_reading, octets_of_joined}
use Rattle.asn1_rs_profiles.specs.Joined.Laws.{primitive_says, says_octets, says_one}
use Rattle.asn1_rs_profiles.specs.Joined.Pieces.{SaysOctets}
use Rattle.asn1_rs_profiles.specs.declared.joined.Joined.{Joined}

-- Under any class strict parts are primitive, and have the value.
takes : (number : ℕ) (IsText : List ℕ → Type 0) → is_container_number number ≡ false → (class : ℕ) (v : List ℕ)
    (i : Identifier) (c : List ℕ) → i ≡ universal_identifier number → IsStrictContent IsText v c →
    (i.constructed ≡ false) × JoinedBody number IsText (made (of_class class i) c) v
takes number IsText primitive class v i c e f =
    let bit : i.constructed ≡ false = ap (λ (j : Identifier). j.constructed) e ∙ primitive in (
      bit,
      (
        ap (λ (j : Identifier). j.number) e,
        subst (SaysOctets max_depth (made (of_class class i) c)) f.1
            (primitive_says max_depth (made (of_class class i) c) (λ z. absurd (omega (arith, z))) bit),
        f.0.1,
      ),
    )

-- a refusal comes only where there is no value, or when out of memory
refused : {T : Type 0} (value : T → List ℕ) (number : ℕ) (IsText : List ℕ → Type 0) (p : Parts) (e : Error) →
    JoinedRefuses IsText p e →
    TakesBody (JoinedBody number IsText) value true (λ (x y : Error). y ≡ x) p (Err e)
refused value number IsText p e (inl (k, inl m)) = inl (refl, m)
refused value number IsText p e (inl (k, inr n)) = inr (λ v b. n.1 v b.1)
refused value number IsText p e (inr n) =
    inr (λ v b. n.0.2 (subst IsText (says_one max_depth p v n.0.0 b.1 n.0.1) b.2))

module _ {K : Type 0} (number : ℕ) (IsText : List ℕ → Type 0) (small : number < 31)
    (primitive : is_container_number number ≡ false) where
  -- Such strings are lawful elements.
  pub joined_lawful : IsLawfulElement (joined_element {K = K} number IsText)
  joined_lawful = record {
    one_equality = octets_set;
    body_values = λ p v o b. says_octets max_depth p v o.content b.1;
    form_values = λ v i c f. f.1.0.0;
    body_one = λ p v w a b. says_one max_depth p v w a.1 b.1;
    one_form = universal_one (is_container_number number) number (IsStrictContent IsText) (λ v c d f g. f.1 ∙ sym g.1);
    one_value = universal_value (is_container_number number) number (IsStrictContent IsText)
        (λ v w c f g. sym f.1 ∙ g.1);
    form_fits = universal_fits (is_container_number number) number (IsStrictContent IsText) small
        (λ v c f. subst IsOctets (sym f.1) f.0.0);
    form_check = λ v i c f. (takes number IsText primitive i.class v i c f.0 f.1).0;
    form_der = λ v i c f. f.1.0;
    form_body = λ v i c f. (takes number IsText primitive i.class v i c f.0 f.1).1;
  }

  -- Their conversion is exact.
  pub joined_converts : IsExactConversion (JoinedGives number IsText) (joined_element {K = K} number IsText)
  joined_converts = record { exact = exact; asks_no_memory = λ none any h. let e = none in cc }
    where
      exact : (any : Any) (answer : Result (Joined K) Error) → IsOctets any.content.now →
          JoinedGives number IsText any answer →
          TakesBody (JoinedBody number IsText) (octets_of_joined {K = K}) true (λ (x y : Error). y ≡ x) (parts_of any)
          answer
      exact any (Ok x) o g = g.0
      exact any (Err e) o (inl g) = inr (λ v b. g.0 b.0)
      exact any (Err e) o (inr g) = refused (octets_of_joined {K = K}) number IsText (parts_of any) e g.1

  -- So reading them is.
  pub joined_exact : IsExactReading (joined_reading {K = K} number IsText)
  joined_exact = record {
    lawful = joined_lawful;
    checked = exact_check is_primitive is_primitive_is;
    converts = joined_converts;
  }

  -- Their octets are what is written.
  pub joined_written : IsWrittenElement (joined_element {K = K} number IsText) number octets_of_joined (λ x. false)
  joined_written = record {
    by_value = λ x y e. e;
    identifier = λ v i c f. f.0;
    form = λ x i c f. sym f.1.1;
    class = λ k v i c f. takes number IsText primitive k v i c f.0 f.1;
    der = λ x d. (refl, (d, refl));
    accepted = λ x i c f. refl;
    small = small;
  }

  -- They are fields of structs.
  abbrev pub joined_type : LawfulTypeOf (Joined K)
  joined_type = element_type number (joined_element number IsText) octets_of_joined joined_lawful joined_written

-- two are equal where their octets are
pub joined_equal : {K : Type 0} (x y : Joined K) →
    IsTrue (pointwise nat_eq (octets_of_joined x) (octets_of_joined y)) ↔ (octets_of_joined x ≡ octets_of_joined y)
joined_equal x y = pointwise_decides unsigned_Decides (octets_of_joined x) (octets_of_joined y)
