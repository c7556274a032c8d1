-- A struct under an implicit tag that is read by BER: its words, what its reader answers, and the laws of both.
use Rattle.std.specs.Prelude.{◌≡◌, false, List, ℕ, Result, Err}
use Rattle.std.proofs.Common.{lit<}
use Rattle.asn1_rs.specs.Prelude.{by_ber, Error, IsOctets, parts_of}
use Rattle.asn1_headers.specs.Answers.{IsOther}
use Rattle.asn1_headers.specs.declared.tag.Tag.{Tag}
use Rattle.asn1_rs.specs.declared.asn1_types.any.Any.{Any}
use Rattle.asn1_rs.specs.Checks.{CheckGives}
use Rattle.asn1_rs.specs.Grammar.{TakesBody}
use Rattle.asn1_rs.specs.Grammar.Item.{ItemGrammar, IsLawfulItem}
use Rattle.asn1_rs.specs.Kinds.{IsExactCheck}
use Rattle.asn1_rs.specs.Laws.Lists.{constructed_checks}
use Rattle.asn1_rs.specs.Laws.Structs.Readers.{struct_exact, struct_never_oom}
use Rattle.asn1_rs.specs.Laws.Structs.Structs.{struct_lawful, struct_number, struct_takes_class}
use Rattle.asn1_rs.specs.Laws.Tagged.Implicit.{implicit_checked, implicit_lawful, implicit_takes, implicit_takes_no_memory}
use Rattle.asn1_rs.specs.Lists.{IsListOr}
use Rattle.asn1_rs.specs.Structs.{StructGives}
use Rattle.asn1_rs.specs.Structs.Data.{AnswersAlso, LawfulStructOf, grammar_of_struct}
use Rattle.asn1_rs.specs.Tagged.Implicit.{ImplicitCheckGives, ImplicitConverts, implicit_grammar}

-- the tag of a struct
abbrev pub struct_tag : Tag
struct_tag = record { 0 = 16 }

-- its words under this tag
abbrev pub tagged_struct : {T W : Type 0} (class number : ℕ) → (W → T) → LawfulStructOf T → ItemGrammar W
tagged_struct class number inner X = implicit_grammar class number 16 inner (grammar_of_struct X)

-- what its conversion may answer, where that of its fields answers so
abbrev pub ConvertsTaggedStruct : {T W : Type 0} (class number : ℕ) → (W → T) → LawfulStructOf T →
    (List ℕ → Result T Error → Type 0) → Any → Result W Error → Type 0
ConvertsTaggedStruct class number inner X gives =
    ImplicitConverts class number inner struct_tag (StructGives (AnswersAlso by_ber X gives)) (λ (e f : Error). f ≡ e)

-- what its check may answer
abbrev pub ChecksTagged : CheckGives
ChecksTagged = ImplicitCheckGives 16 (IsListOr 16)

module _ {T W : Type 0} (class number : ℕ) (inner : W → T) (X : LawfulStructOf T) where
  -- It is lawful.
  pub tagged_lawful : IsLawfulItem (tagged_struct class number inner X)
  tagged_lawful = implicit_lawful class number 16 inner (grammar_of_struct X)
      (struct_lawful X.row.grammar X.lawful X.told X.as_row) (lit< tt) (struct_number X.row.grammar)
      (struct_takes_class X.row.grammar X.lawful X.told class)

  -- Its check is exact.
  pub tagged_checks : IsExactCheck ChecksTagged (tagged_struct class number inner X).Check
  tagged_checks = implicit_checked 16 (IsListOr 16) (grammar_of_struct X).Check (constructed_checks 16)

  module _ (gives : List ℕ → Result T Error → Type 0) where
    -- Its conversion is exact.
    pub tagged_exact : (any : Any) (answer : Result W Error) → IsOctets any.content.now →
        ConvertsTaggedStruct class number inner X gives any answer →
        TakesBody (tagged_struct class number inner X).Body (tagged_struct class number inner X).value
        (grammar_of_struct X).allocates (λ (e f : Error). f ≡ e) (parts_of any) answer
    tagged_exact = implicit_takes class number inner struct_tag (StructGives (AnswersAlso by_ber X gives))
        (λ (e f : Error). f ≡ e) (grammar_of_struct X).Body (grammar_of_struct X).value (grammar_of_struct X).allocates
        (struct_exact by_ber X gives)

    -- It is not out of memory where no field allocates.
    pub tagged_never_oom : (grammar_of_struct X).allocates ≡ false → (any : Any) (e : Error) →
        ConvertsTaggedStruct class number inner X gives any (Err e) → IsOther (λ (x y : Error). y ≡ x) e
    tagged_never_oom none = implicit_takes_no_memory {W = W} class number inner struct_tag
        (StructGives (AnswersAlso by_ber X gives)) (λ (e f : Error). f ≡ e) (struct_never_oom by_ber X gives none)
