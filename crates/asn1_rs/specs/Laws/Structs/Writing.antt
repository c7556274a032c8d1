-- What is written of rows of fields, and of structs, is lawful.
use Rattle.std.proofs.Common.{◌≡◌, ◌∙◌, ap, sym, subst, refl, arith, ℕ, ◌+◌, ◌^◌, ◌<◌, inl, inr, Bool, true, false, List, []}
use Rattle.std.proofs.Common.{◌++◌, length, length-append}
use Rattle.std.specs.Prelude.{Result, Ok, Err, MatchResult}
use mathlib.Core.Logic.{∥∥₁_prop, ∥∥₁_elim, ∥∥₁_map}
use Rattle.x690.specs.Identifiers.{Identifier}
use Rattle.x690.specs.Strict.{header_octets}
use Rattle.asn1_headers.specs.declared.error.Error.{Error}
use Rattle.asn1_headers.specs.declared.error.SerializeError.{SerializeError}
use Rattle.asn1_rs.specs.Fields.{FieldList, no_fields, field, SpecifiesFields, fields_octets, FieldsRefuse}
use Rattle.asn1_rs.specs.Fields.{FieldsRefuseCount, fields_writing, TakenFields}
use Rattle.asn1_rs.specs.Grammar.Form.{of_universal_class, header_of}
use Rattle.asn1_rs.specs.Grammar.Item.{IsLawfulWriting}
use Rattle.asn1_rs.specs.Laws.Forms.{both_by_value, whole_writable, behind_header}
use Rattle.asn1_rs.specs.ToDer.{Writing, HasNone, IsWritable, whole_octets, IntoVector}
use Rattle.asn1_rs.specs.Structs.{FieldGrammar, RowGrammar, empty_row, row_of, row_list, fields_by}
use Rattle.asn1_rs.specs.Structs.{struct_grammar, puts_of, PutsAll, PutList}
use Rattle.asn1_rs.specs.Laws.Structs.Fields.{IsLawfulPut}

-- neither counts nor writings of the fields have a refusal of their own
abbrev pub AreWritable : {S : Type 0} → FieldList S → S → Type 0
AreWritable list x = HasNone (FieldsRefuseCount list x) × HasNone (FieldsRefuse list x)

-- What is written of a row is told, follows from the value, and is the strict octets of a value that has such.
pub record IsLawfulPuts {S : Type 0} (R : RowGrammar S) (list : FieldList S) : Type 0 where
  pub tells_all : (x : S) → SpecifiesFields list x
  pub by_value : (x y : S) → R.value x ≡ R.value y → fields_octets list x ≡ fields_octets list y
  pub strict : (x : S) (o : List ℕ) → R.Strict (R.value x) o → AreWritable list x × (fields_octets list x ≡ o)
  pub der_strict : (x : S) → R.IsDer (R.value x) → length (fields_octets list x) < 2 ^ 64 →
      ∥ R.Strict (R.value x) (fields_octets list x) ∥₁
  pub der_writable : (x : S) → R.IsDer (R.value x) → AreWritable list x

-- so of the row of no fields
pub empty_puts : IsLawfulPuts empty_row no_fields
empty_puts = record {
  tells_all = λ x. tt;
  by_value = λ x y e. refl;
  strict = λ x o s. ((λ e h. h, λ e h. h), sym s);
  der_strict = λ x d l. ∣ refl ∣₁;
  der_writable = λ x d. (λ e h. h, λ e h. h);
}

-- The fields of what has a row are those of the row.
module _ {S T : Type 0} (row : S → T) where
  pub octets_by : (list : FieldList T) (x : S) → fields_octets (fields_by row list) x ≡ fields_octets list (row x)
  octets_by no_fields x = refl
  octets_by (field w of rest) x = ap (λ (z : List ℕ). whole_octets w (of (row x)) ++ z) (octets_by rest x)

  pub tells_by : (list : FieldList T) (x : S) → SpecifiesFields list (row x) → SpecifiesFields (fields_by row list) x
  tells_by no_fields x t = t
  tells_by (field w of rest) x t = (t.0, tells_by rest x t.1)

  pub count_by : (list : FieldList T) (x : S) → HasNone (FieldsRefuseCount list (row x)) →
      HasNone (FieldsRefuseCount (fields_by row list) x)
  count_by no_fields x n e h = n e h
  count_by (field w of rest) x n e (inl h) = n e (inl h)
  count_by (field w of rest) x n e (inr h) = count_by rest x (λ f g. n f (inr g)) e h

  pub refuse_by : (list : FieldList T) (x : S) → HasNone (FieldsRefuse list (row x)) →
      HasNone (FieldsRefuse (fields_by row list) x)
  refuse_by no_fields x n e h = n e h
  refuse_by (field w of rest) x n e (inl h) = n e (inl h)
  refuse_by (field w of rest) x n e (inr h) = refuse_by rest x (λ f g. n f (inr g)) e h

  pub writable_by : (list : FieldList T) (x : S) → AreWritable list (row x) → AreWritable (fields_by row list) x
  writable_by list x a = (count_by list x a.0, refuse_by list x a.1)

-- The fields of what has a row are put as those of the row.
pub puts_of_row : {S T : Type 0} (row : S → T) (list : FieldList T) (x : S) →
    puts_of (fields_by row list) x ≡ puts_of list (row x)
puts_of_row row no_fields x = refl
puts_of_row row (field w of rest) x = let e = puts_of_row row rest x in rw e refl

module _ {S R : Type 0} (F : FieldGrammar S) (w : Writing S) (f : IsLawfulPut F w) (G : RowGrammar R)
    (list : FieldList R) (g : IsLawfulPuts G list) where
  abbrev behind : S × R → R
  behind x = x.1

  others_by : (x : S × R) → fields_octets (fields_by behind list) x ≡ fields_octets list x.1
  others_by x = octets_by behind list x

  row_by_value : (x y : S × R) → (row_of F G).value x ≡ (row_of F G).value y →
      fields_octets (row_list w list) x ≡ fields_octets (row_list w list) y
  row_by_value x y e =
      let p : F.value x.0 ≡ F.value y.0 = ap (λ (z : F.Value × G.Value). z.0) e in
      let q : G.value x.1 ≡ G.value y.1 = ap (λ (z : F.Value × G.Value). z.1) e in
      both_by_value (f.by_value x.0 y.0 p) (others_by x ∙ g.by_value x.1 y.1 q ∙ sym (others_by y))

  row_writable : (x : S × R) → IsWritable w x.0 → AreWritable list x.1 → AreWritable (row_list w list) x
  row_writable x a b =
      let c = writable_by behind list x b in (
        counts c.0,
        writes c.1,
      )
    where
      counts : HasNone (FieldsRefuseCount (fields_by behind list) x) → HasNone (FieldsRefuseCount (row_list w list) x)
      counts n e (inl h) = a.0 e h
      counts n e (inr h) = n e h

      writes : HasNone (FieldsRefuse (fields_by behind list) x) → HasNone (FieldsRefuse (row_list w list) x)
      writes n e (inl h) = whole_writable w x.0 a e h
      writes n e (inr h) = n e h

  -- So of a field before a row.
  pub row_puts : IsLawfulPuts (row_of F G) (row_list w list)
  row_puts = record {
    tells_all = λ x. (f.tells_all x.0, tells_by behind list x (g.tells_all x.1));
    by_value = row_by_value;
    strict = λ x o s.
        let a = f.strict x.0 s.0 s.2 in
        let b = g.strict x.1 s.1 s.3 in (
          row_writable x a.0 b.0,
          ap (λ (z : List ℕ). z ++ fields_octets (fields_by behind list) x) a.1
              ∙ ap (λ (z : List ℕ). s.0 ++ z) (others_by x ∙ b.1) ∙ sym s.4,
        );
    der_strict = λ x d short.
        let both : length (fields_octets (row_list w list) x) ≡ length (whole_octets w x.0) + length (fields_octets list x.1) =
        length-append (whole_octets w x.0) (fields_octets (fields_by behind list) x)
        ∙ ap (λ (z : List ℕ). length (whole_octets w x.0) + length z) (others_by x) in
        ∥∥₁_elim (f.der_strict x.0 d.0 (omega (arith, both, short))) ∥∥₁_prop (λ s.
        ∥∥₁_map (g.der_strict x.1 d.1 (omega (arith, both, short))) (λ t. (
          whole_octets w x.0,
          fields_octets list x.1,
          s,
          t,
          ap (λ (z : List ℕ). whole_octets w x.0 ++ z) (others_by x),
        )));
    der_writable = λ x d. row_writable x (f.der_writable x.0 d.0) (g.der_writable x.1 d.1);
  }

module _ {S T : Type 0} (row : T → S) (R : RowGrammar S) (list : FieldList S) (l : IsLawfulPuts R list) where
  by_row : (m : T) → fields_octets (fields_by row list) m ≡ fields_octets list (row m)
  by_row m = octets_by row list m

  struct_writable : (m : T) → AreWritable list (row m) → IsWritable (fields_writing 16 (fields_by row list)) m
  struct_writable m a =
      let c = writable_by row list m a in
      (c.0, behind_header (FieldsRefuseCount (fields_by row list) m) c.0, into c.1)
    where
      into : HasNone (FieldsRefuse (fields_by row list) m) → HasNone (IntoVector (FieldsRefuse (fields_by row list) m))
      into n e h = n h.0 h.1

  -- What is written of a struct is lawful where its fields are.
  pub struct_lawful_writing : IsLawfulWriting (struct_grammar row R) (fields_writing 16 (fields_by row list))
  struct_lawful_writing = record {
    tells_all = λ m. tells_by row list m (l.tells_all (row m));
    by_value = λ x y e.
        let same = by_row x ∙ l.by_value (row x) (row y) e ∙ sym (by_row y) in
        (refl, ap (λ (c : List ℕ). header_octets 0 true 16 (length c)) same, same);
    form = λ m i c f.
        let s = l.strict (row m) c f.1 in
        let is = by_row m ∙ s.1 in (
          struct_writable m s.0,
          sym (ap (λ (z : Identifier). z.constructed) f.0),
          is,
          ap (λ (z : List ℕ). header_octets 0 true 16 (length z)) is ∙ ap (λ (z : Identifier). header_of z c) (sym f.0),
        );
    der_form = λ m d short.
        ∥∥₁_map (l.der_strict (row m) d (let e = ap length (by_row m) in omega (arith, e, short))) (λ s.
        (of_universal_class true 16, (refl, subst (R.Strict (R.value (row m))) (sym (by_row m)) s)));
    der_writable = λ m d. struct_writable m (l.der_writable (row m) d);
  }

-- so where they were put
pub puts_struct : {S T : Type 0} (row : T → S) (list : FieldList S) (m : T) (old new : TakenFields)
    (answer : Result (Unit {0}) SerializeError) → PutsAll (puts_of list (row m)) old new answer →
    PutsAll (puts_of (fields_by row list) m) old new answer
puts_struct row list m old new answer p =
    subst (λ (z : PutList). PutsAll z old new answer) (sym (puts_of_row row list m)) p
