-- What is read once is shown once: items, and lists and sets of them.
use Rattle.std.proofs.Common.{◌≡◌, ◌∙◌, sym, ap, subst, refl, List, [], ◌∷◌, ◌++◌, map, ℕ, Bool, true, false, inl, inr}
use Rattle.std.proofs.Common.{lit<, Result, Ok, Err, codes, BuildHasherDefault, FoldHasher}
use Rattle.std.specs.Prelude.{pos, decimal, IsTrue, nat_eq, ◌↔◌}
use Rattle.std.specs.Fmt.{signed_decimal}
use Rattle.std.specs.List.{join_by}
use Rattle.std.proofs.lemmas.List.Folds.{flat_map-map}
use mathlib.Core.Logic.{∥∥₁_elim}
use mathlib.Core.List.{is_set}
use native.Mathlib.Nat.{ℕ_set}
use Rattle.x690.specs.Identifiers.{Identifier, IsTruncatedIdentifier}
use Rattle.x690.specs.Elements.{Parts, IsDerElement}
use Rattle.x690.specs.Faults.{DerElementFault}
use Rattle.x690.specs.Nested.{IsElement, ElementFault}
use Rattle.asn1_rs.specs.declared.asn1_types.any.Any.{Any}
use Rattle.asn1_headers.specs.declared.error.Error.{Error}
use Rattle.asn1_headers.specs.Answers.{Exactly, TellsMemory}
use Rattle.std.specs.declared.alloc.Global.{Global}
use Rattle.std.specs.declared.vec.Vec.{Vec}
use Rattle.asn1_headers.specs.Ber.{max_depth, EndsWithin}
use Rattle.asn1_rs.specs.Grammar.{NoCheck, BerWord, DerWord}
use Rattle.asn1_rs.specs.Grammar.Form.{IsOneForm}
use Rattle.asn1_rs.specs.Grammar.Item.{IsLawfulItem}
use Rattle.asn1_headers.specs.Header.Reading.{ber_violation, der_violation}
use Rattle.asn1_rs.specs.Integer.{IntegerCheckGives, IsUnsigned, SignedGives, SignedRefuses, UnsignedGives}
use Rattle.asn1_rs.specs.Integer.{UnsignedRefuses, integer_element}
use Rattle.asn1_rs.specs.Kinds.{ElementGrammar, IsExactCheck, IsExactConversion, IsLawfulElement}
use Rattle.asn1_rs.specs.Leaf.{IsLawfulLeafUpTo, Leaf, LeafGives, leaf_element}
use Rattle.asn1_rs.specs.Laws.Leaf.{leaf_constraints, leaf_converts, leaf_lawful, leaf_one_refusal}
use Rattle.asn1_rs.specs.Lists.{has_items}
use Rattle.asn1_rs.specs.declared.asn1_types.set.set_of.SetOf.{SetOf}
use Rattle.asn1_rs.specs.Set.{HasItems, Members, ascends, is_other, items_of, members, set_of}
use Rattle.asn1_rs.specs.Laws.Set.{member_lawful, multiset_lawful, table_told}
use Rattle.std.specs.declared.cmp.Ordering.{Ordering}
use Rattle.std.specs.BTreeSet.{BTreeSet, IsFromIterResult}
use Rattle.std.specs.HashSet.{HashSet, IsFromIterResult as IsHashedOf}
use Rattle.std.proofs.lemmas.Map.Lookups.{CmpEqualImpliesEq, btree_set_from_contains, exact_signed, exact_unsigned}
use Rattle.std.specs.Ordering.{eq_by_cmp, int_cmp, nat_cmp}
use Rattle.std.specs.Cmp.{IsTotalOrder}
use Rattle.std.specs.Set.{is_member}
use Rattle.std.proofs.lemmas.Cmp.{int_cmp_total, nat_cmp_total}
use Rattle.std.proofs.lemmas.List.{map-id}
use Rattle.x690.specs.Collections.{multiset}
use Rattle.asn1_rs.specs.Traits.{BerGives, DerGives, OfParts, PassesAll}
use Rattle.asn1_rs.specs.Laws.Integer.{integer_checks, integer_lawful, one_integer_check_refusal, one_integer_refusal}
use Rattle.asn1_rs.specs.Laws.Integer.Signed.{one_signed_refusal, signed_converts, signed_equal}
use Rattle.asn1_rs.specs.Laws.Integer.Unsigned.{one_unsigned_refusal, unsigned_converts}
use Rattle.x690.specs.Signed.{IsSigned}
use Rattle.asn1_rs.specs.Laws.Kinds.{lawful_item}
use Rattle.asn1_rs.specs.Checks.{has_number}
use Rattle.asn1_rs.specs.Laws.Checks.{has_number_is}
use Rattle.asn1_rs.specs.Lists.{IsListOr}
use Rattle.asn1_rs.specs.Laws.Lists.{is_list_or_is, list_lawful}
use Rattle.asn1_rs.specs.Laws.Readers.{ber_elements, der_elements, element_exact, passes_all}
use Rattle.asn1_rs.specs.Laws.Words.{one_strict}
use Rattle.asn1vec_answers.specs.declared.request.Rule.{Rule}
use Rattle.asn1vec_answers.specs.declared.request.Rule.TheVariants.{Ber, Der}
use Rattle.asn1vec_answers.specs.Shown.{Encoding, IsUnwritten, IsWritten, Reading, Same, StrictEncodingIfAny}
use Rattle.asn1vec_answers.specs.Shown.{sorted_keys}
use Rattle.asn1vec_answers.specs.Shown.{list_text}
use Rattle.asn1vec_answers.proofs.InOrder.{in_order_same}
use Rattle.asn1_rs.specs.declared.asn1_types.sequence.sequence_of.SequenceOf.{SequenceOf}
use Rattle.asn1_rs.specs.Sequence.SequenceOf.{IsSequenceOf, sequence_items}
use Rattle.asn1vec_answers.specs.Types.{Item, alone, collection, hashed_set, leaf_item, ordered_set, sequence}
use Rattle.asn1vec_answers.specs.Types.{sequence_of, signed_item, unordered_set, unsigned_item, vector}
use Rattle.asn1vec_answers.proofs.OneList.{IsOneReader, taken_by_ber, taken_by_der}
use Rattle.asn1vec_answers.proofs.OneReading.{HasOneAnswer, SameEncoding, SameReading, ShownAlike, ber_same, der_same}
use Rattle.asn1vec_answers.proofs.OneReading.{readings_weaker, written_same}
use Rattle.asn1vec_answers.proofs.OneRefusal.{IsOneRefusal, IsOneRefusalBut, KeepsNames, one_name, one_of_parts}
use Rattle.asn1vec_answers.proofs.OneRefusal.{whole_keeps}

-- What there is to show of a type of items.

-- What is seen of an item tells its text and its value, and two readings of the same octets give the same to see.
pub record IsOneItem (I : Item) : Type 1 where
  pub D : Type 0
  pub view : I.T → D
  pub text : (x y : I.T) → view x ≡ view y → I.text_of x ≡ I.text_of y
  pub value : (x y : I.T) → view x ≡ view y → I.grammar.value x ≡ I.grammar.value y
  pub ber : IsOneReader view I.grammar.allocates I.ber_gives
  pub der : IsOneReader view I.grammar.allocates I.der_gives
  pub lawful : IsLawfulItem I.grammar

-- What follows for lists of them.

-- what each element of a list tells, the list does
pub follows : {S D A : Type 0} (view : S → D) (tells : S → A) → ((x y : S) → view x ≡ view y → tells x ≡ tells y) →
    (xs ys : List S) → map view xs ≡ map view ys → map tells xs ≡ map tells ys
follows view tells law [] [] e = refl
follows view tells law [] (y ∷ ys) e = cc
follows view tells law (x ∷ xs) [] e = cc
follows view tells law (x ∷ xs) (y ∷ ys) e =
    let head : view x ≡ view y = cc in
    let tail : map view xs ≡ map view ys = cc in
    ap (λ z. z ∷ map tells xs) (law x y head) ∙ ap (λ zs. tells y ∷ zs) (follows view tells law xs ys tail)

joined_texts : {S : Type 0} (text_of : S → List ℕ) (comma : List ℕ) (xs : List S) →
    join_by text_of comma xs ≡ join_by (λ (t : List ℕ). t) comma (map text_of xs)
joined_texts text_of comma [] = refl
joined_texts text_of comma (x ∷ xs) =
    ap (λ (l : List ℕ). text_of x ++ l) (sym (flat_map-map (λ (t : List ℕ). comma ++ t) text_of xs))

pub texts_same : {S : Type 0} (text_of : S → List ℕ) (xs ys : List S) → map text_of xs ≡ map text_of ys →
    list_text text_of xs ≡ list_text text_of ys
texts_same text_of xs ys e =
    ap (λ (l : List ℕ). codes "[" ++ (l ++ codes "]"))
    (joined_texts text_of (codes ",") xs ∙ ap (λ (ts : List (List ℕ)). join_by (λ (t : List ℕ). t) (codes ",") ts) e
    ∙ sym (joined_texts text_of (codes ",") ys))

module _ (I : Item) (one : IsOneItem I) where
  module _ {W : Type 0} (items : W → List I.T) (holds : List I.T → W → Type 0)
      (are : (xs : List I.T) (w : W) → holds xs w → items w ≡ xs) where
    sequence_held : (xs ys : List I.T) (v w : W) → map one.view xs ≡ map one.view ys → holds xs v → holds ys w →
        map one.view (items v) ≡ map one.view (items w)
    sequence_held xs ys v w e h k = ap (map one.view) (are xs v h) ∙ e ∙ sym (ap (map one.view) (are ys w k))

    sequence_once : IsOneItem (sequence I items holds)
    sequence_once = record {
      D = List one.D;
      view = λ v. map one.view (items v);
      text =
          λ v w e. texts_same I.text_of (items v) (items w) (follows one.view I.text_of one.text (items v) (items w) e);
      value = λ v w e. follows one.view I.grammar.value one.value (items v) (items w) e;
      ber = taken_by_ber one.view I.grammar.allocates I.ber_gives one.ber
          (λ v. map one.view (items v)) holds sequence_held (IsListOr 16) (is_list_or_is 16);
      der = taken_by_der one.view I.grammar.allocates I.der_gives one.der
          (λ v. map one.view (items v)) holds sequence_held (has_number 16) (has_number_is 16);
      lawful = list_lawful 16 (lit< tt) items I.grammar one.lawful;
    }

  pub vector_once : IsOneItem (vector I)
  vector_once = sequence_once {W = Vec I.T Global} (λ v. v.items) has_items (λ xs v h. h)

  pub sequence_of_once : IsOneItem (sequence_of I)
  sequence_of_once = sequence_once {W = SequenceOf I.T} sequence_items IsSequenceOf (λ xs s h. h)

  set_held : (xs ys : List I.T) (s t : SetOf I.T) → map one.view xs ≡ map one.view ys → HasItems xs s → HasItems ys t →
      map one.view (items_of s) ≡ map one.view (items_of t)
  set_held xs ys s t e h k = ap (map one.view) h ∙ e ∙ sym (ap (map one.view) k)

  -- a set that keeps the order of reading: its items are seen in that order, of which its value says nothing
  pub unordered_set_once : IsOneItem (unordered_set I)
  unordered_set_once = record {
    D = List one.D;
    view = λ s. map one.view (items_of s);
    text = λ s t e. texts_same I.text_of (items_of s) (items_of t)
        (follows one.view I.text_of one.text (items_of s) (items_of t) e);
    value = λ s t e. ap multiset (follows one.view I.grammar.value one.value (items_of s) (items_of t) e);
    ber = taken_by_ber one.view I.grammar.allocates I.ber_gives one.ber
        (λ s. map one.view (items_of s)) HasItems set_held (IsListOr 17) (is_list_or_is 17);
    der = taken_by_der one.view I.grammar.allocates I.der_gives one.der
        (λ s. map one.view (items_of s)) HasItems set_held (has_number 17) (has_number_is 17);
    lawful = multiset_lawful items_of I.grammar one.lawful;
  }

  -- a set whose items ascend, where an item is all that is seen of it: the set that has the items that were read is one
  module _ (cmp : I.T → I.T → Ordering) (total : IsTotalOrder cmp) (apart : CmpEqualImpliesEq cmp)
      (all : (x y : I.T) → one.view x ≡ one.view y → x ≡ y) where
    keys_held : (xs ys : List I.T) (s t : BTreeSet I.T) → map one.view xs ≡ map one.view ys →
        IsFromIterResult cmp xs s → IsFromIterResult cmp ys t → s.keys ≡ t.keys
    keys_held xs ys s t e h k =
        let same : xs ≡ ys = sym (map-id xs) ∙ follows one.view (λ x. x) all xs ys e ∙ map-id ys in
        btree_set_from_contains total s t h.1 k.1
        (λ q. h.0 q ∙ ap (λ (zs : List I.T). is_member (eq_by_cmp cmp) zs q) same ∙ sym (k.0 q)) apart

    pub ordered_set_once : (eq : I.T → I.T → Bool) → IsOneItem (ordered_set I cmp eq)
    ordered_set_once eq = record {
      D = List I.T;
      view = λ s. s.keys;
      text = λ s t e. ap (list_text I.text_of) e;
      value = λ s t e. ap (members (ascends cmp eq) I.grammar.value) e;
      ber = taken_by_ber one.view I.grammar.allocates I.ber_gives one.ber (λ s. s.keys)
          (λ items s. IsFromIterResult cmp items s) keys_held (IsListOr 17) (is_list_or_is 17);
      der = taken_by_der one.view I.grammar.allocates I.der_gives one.der (λ s. s.keys)
          (λ items s. IsFromIterResult cmp items s) keys_held (IsListOr 17) (is_list_or_is 17);
      lawful = member_lawful (ascends cmp eq) (λ s. s.keys) I.grammar one.lawful;
    }

  -- a set whose items stand in no order: what is seen are the items in order, and its value
  module _ (cmp : I.T → I.T → Ordering) (total : IsTotalOrder cmp) (apart : CmpEqualImpliesEq cmp)
      (same : (x y : I.T) → IsTrue (eq_by_cmp cmp x y) ↔ (I.grammar.value x ≡ I.grammar.value y))
      (all : (x y : I.T) → one.view x ≡ one.view y → x ≡ y) where
    abbrev Hashed : Type 0
    Hashed = HashSet I.T (BuildHasherDefault FoldHasher)

    seen : Hashed → List I.T × Members I.grammar.Value
    seen s = (sorted_keys cmp s.keys, members (is_other (eq_by_cmp cmp)) I.grammar.value s.keys)

    both : {A B : Type 0} {a b : A} {c d : B} → a ≡ b → c ≡ d → ◌≡◌ {A = A × B} (a, c) (b, d)
    both p q = cc

    hashed_held : (xs ys : List I.T) (s t : Hashed) → map one.view xs ≡ map one.view ys →
        IsHashedOf (eq_by_cmp cmp) xs s → IsHashedOf (eq_by_cmp cmp) ys t → seen s ≡ seen t
    unfolding seen
    hashed_held xs ys s t e h k =
        let equal : xs ≡ ys = sym (map-id xs) ∙ follows one.view (λ x. x) all xs ys e ∙ map-id ys in
        both
        (in_order_same cmp total apart s.keys t.keys
        (λ q. h.0 q ∙ ap (λ (zs : List I.T). is_member (eq_by_cmp cmp) zs q) equal ∙ sym (k.0 q)))
        (sym (table_told (eq_by_cmp cmp) I.grammar.value same xs s h)
        ∙ ap (λ (zs : List I.T). set_of (map I.grammar.value zs)) equal
        ∙ table_told (eq_by_cmp cmp) I.grammar.value same ys t k)

    pub hashed_set_once : IsOneItem (hashed_set I cmp)
    unfolding seen
    hashed_set_once = record {
      D = List I.T × Members I.grammar.Value;
      view = seen;
      text = λ s t e. ap (λ z. list_text I.text_of z.0) e;
      value = λ s t e. ap (λ z. z.1) e;
      ber = taken_by_ber one.view I.grammar.allocates I.ber_gives one.ber seen
          (λ items s. IsHashedOf (eq_by_cmp cmp) items s) hashed_held (IsListOr 17) (is_list_or_is 17);
      der = taken_by_der one.view I.grammar.allocates I.der_gives one.der seen
          (λ items s. IsHashedOf (eq_by_cmp cmp) items s) hashed_held (IsListOr 17) (is_list_or_is 17);
      lawful = member_lawful (is_other (eq_by_cmp cmp)) (λ s. s.keys) I.grammar one.lawful;
    }

-- Items that are one element, checked and converted.

module _ {S : Type 0} (G : ElementGrammar S) (lawful : IsLawfulElement G) (convert : Any → Result S Error → Type 0)
    (converts : IsExactConversion convert G) (one_conversion : IsOneRefusalBut G.allocates convert)
    (check : Parts → Result (Unit {0}) Error → Type 0) (checks : IsExactCheck check G.Check)
    (one_check : IsOneRefusal check) where
  pub element_by_ber : IsOneReader G.value G.allocates (BerGives convert Same)
  element_by_ber octets a b p q = ber_same G.Body G.value G.allocates convert lawful.body_one one_conversion octets a b
      (exact octets a p, p) (exact octets b q, q)
    where
      exact : (octets : List ℕ) (answer : Reading S) → BerGives convert Same octets answer →
          Exactly EndsWithin (BerWord G.Body) G.value (TellsMemory G.allocates Same) octets answer
      exact = element_exact (IsElement max_depth) (ElementFault max_depth) EndsWithin ber_elements ber_violation PassesAll
          convert Same NoCheck G.Body G.value G.allocates (BerWord G.Body) passes_all converts.exact (λ o v w. w)
          (λ o v w. w)

  pub element_by_der : IsOneReader G.value G.allocates (DerGives check convert Same)
  element_by_der octets a b p q = der_same G.Body G.value G.allocates convert lawful.body_one one_conversion check
      G.Check one_check (λ p e h k. checks.exact p (Err e) k (checks.exact p (Ok tt) h)) octets a b
      (exact octets a p, p) (exact octets b q, q)
    where
      exact : (octets : List ℕ) (answer : Reading S) → DerGives check convert Same octets answer →
          Exactly IsTruncatedIdentifier (DerWord G.Check G.Body) G.value (TellsMemory G.allocates Same) octets answer
      exact =
          element_exact IsDerElement DerElementFault IsTruncatedIdentifier der_elements der_violation check convert Same G.Check
          G.Body G.value G.allocates (DerWord G.Check G.Body) checks.exact converts.exact (λ o v w. w) (λ o v w. w)

integer_check : IsOneRefusal IntegerCheckGives
integer_check = one_name whole_keeps IntegerCheckGives one_integer_check_refusal

pos_same : (x y : ℕ) → pos x ≡ pos y → x ≡ y
pos_same x y e = cc

module _ (size : ℕ) where
  unsigned_conversion : IsOneRefusalBut false (OfParts (UnsignedGives size))
  unsigned_conversion = one_of_parts (UnsignedGives size) (one_name whole_keeps (UnsignedGives size)
      (one_integer_refusal (UnsignedRefuses size) (one_unsigned_refusal size)))

  pub unsigned_once : IsOneItem (unsigned_item size)
  unsigned_once =
      let G = integer_element pos (IsUnsigned size) in
      let lawful = integer_lawful (IsUnsigned size) pos in
      record {
        D = _;
        view = pos;
        text = λ x y e. ap decimal (pos_same x y e);
        value = λ x y e. e;
        ber = element_by_ber G lawful (OfParts (UnsignedGives size))
            (unsigned_converts size) unsigned_conversion IntegerCheckGives integer_checks integer_check;
        der = element_by_der G lawful (OfParts (UnsignedGives size))
            (unsigned_converts size) unsigned_conversion IntegerCheckGives integer_checks integer_check;
        lawful = lawful_item G lawful;
      }

  -- and the sets of these whose items ascend
  pub ordered_unsigned_once : IsOneItem (ordered_set (unsigned_item size) nat_cmp nat_eq)
  unfolding unsigned_once
  ordered_unsigned_once =
      ordered_set_once (unsigned_item size) unsigned_once nat_cmp nat_cmp_total exact_unsigned pos_same nat_eq

-- the same of signed integers
module _ (size : ℕ) where
  signed_conversion : IsOneRefusalBut false (OfParts (SignedGives size))
  signed_conversion = one_of_parts (SignedGives size)
      (one_name whole_keeps (SignedGives size) (one_integer_refusal (SignedRefuses size) (one_signed_refusal size)))

  pub signed_once : IsOneItem (signed_item size)
  signed_once =
      let G = integer_element (λ n. n) (IsSigned size) in
      let lawful = integer_lawful (IsSigned size) (λ n. n) in
      record {
        D = _;
        view = λ n. n;
        text = λ x y e. ap signed_decimal e;
        value = λ x y e. e;
        ber = element_by_ber G lawful (OfParts (SignedGives size))
            (signed_converts size) signed_conversion IntegerCheckGives integer_checks integer_check;
        der = element_by_der G lawful (OfParts (SignedGives size))
            (signed_converts size) signed_conversion IntegerCheckGives integer_checks integer_check;
        lawful = lawful_item G lawful;
      }

  -- and the sets of these that have no order
  pub hashed_signed_once : IsOneItem (hashed_set (signed_item size) int_cmp)
  unfolding signed_once
  hashed_signed_once =
      hashed_set_once (signed_item size) signed_once int_cmp int_cmp_total exact_signed signed_equal (λ x y e. e)

-- the values of a leaf type
pub leaf_item_once : {K : Type 0} {key : Error → K} → KeepsNames key →
    {S : Type 0} (L : Leaf S) (text : L.Value → List ℕ) → IsLawfulLeafUpTo key L → IsOneItem (leaf_item L text)
leaf_item_once keeps L text lawful =
    let one = leaf_one_refusal L lawful in
    let conversion = one_of_parts (LeafGives L) (one_name keeps (LeafGives L) one.0.one) in
    let check = one_name keeps L.constraints one.1.one in
    record {
      D = L.Value;
      view = L.value;
      text = λ x y e. ap text e;
      value = λ x y e. e;
      ber = element_by_ber (leaf_element L) (leaf_lawful L lawful) (OfParts (LeafGives L))
          (leaf_converts L lawful) conversion L.constraints (leaf_constraints L lawful) check;
      der = element_by_der (leaf_element L) (leaf_lawful L lawful) (OfParts (LeafGives L))
          (leaf_converts L lawful) conversion L.constraints (leaf_constraints L lawful) check;
      lawful = lawful_item (leaf_element L) (leaf_lawful L lawful);
    }

-- What a name of items stands for.

both_unwritten : (allocates : Bool) (e f : Encoding) → IsUnwritten allocates e → IsUnwritten allocates f →
    SameEncoding allocates e f
both_unwritten allocates e f (inl is) (inl too) = rw (is, too) (inl refl)
both_unwritten allocates e f (inl is) (inr (takes, too)) = rw (is, too) (inr (takes, inr refl))
both_unwritten allocates e f (inr (takes, is)) (inl too) = rw (is, too) (inr (takes, inl refl))
both_unwritten allocates e f (inr (takes, is)) (inr (also, too)) = rw (is, too) (inl refl)

module _ {V : Type 0} (Form : V → Identifier → List ℕ → Type 0) (one : IsOneForm Form) (allocates : Bool) where
  one_if_any : (v : V) (e f : Encoding) → StrictEncodingIfAny Form allocates v e →
      StrictEncodingIfAny Form allocates v f → SameEncoding allocates e f
  one_if_any v e f (inl (o, s, written)) (inl (p, t, also)) =
      let same : o ≡ p =
      ∥∥₁_elim s (is_set ℕ_set _ _) (λ s. ∥∥₁_elim t (is_set ℕ_set _ _) (λ t. one_strict Form one v o p s t)) in
      written_same allocates p e f (subst (λ (l : List ℕ). IsWritten allocates l e) same written) also
  one_if_any v e f (inl (o, s, written)) (inr (none, refused)) = absurd (∥∥₁_elim s (λ a. absurd a) (λ s. none o s))
  one_if_any v e f (inr (none, refused)) (inl (p, t, also)) = absurd (∥∥₁_elim t (λ a. absurd a) (λ t. none p t))
  one_if_any v e f (inr (none, refused)) (inr (nor, too)) = both_unwritten allocates e f refused too

  if_any_same : (v w : V) → v ≡ w → (e f : Encoding) → StrictEncodingIfAny Form allocates v e →
      StrictEncodingIfAny Form allocates w f → SameEncoding allocates e f
  if_any_same v w same e f h k = one_if_any w e f (subst (λ (x : V). StrictEncodingIfAny Form allocates x e) same h) k

pub alone_once : (allocates : Bool) (I : Item) → IsOneItem I → HasOneAnswer (alone allocates I)
alone_once allocates I one rule octets a b p q = readings_weaker (λ x y. one.view x ≡ one.view y)
    (ShownAlike (alone allocates I)) I.grammar.allocates shown a b (read rule p q)
  where
    shown : (x y : I.T) → one.view x ≡ one.view y → ShownAlike (alone allocates I) x y
    shown x y same = record {
      text = one.text x y same;
      encoding = if_any_same I.grammar.Form one.lawful.one_form allocates (I.grammar.value x) (I.grammar.value y)
          (one.value x y same);
    }

    read : (rule : Rule) → (alone allocates I).Reads rule octets a → (alone allocates I).Reads rule octets b →
        SameReading (λ x y. one.view x ≡ one.view y) I.grammar.allocates a b
    read Ber p q = one.ber octets a b p.1 q.1
    read Der p q = one.der octets a b p.1 q.1

pub collection_once : (I : Item) → IsOneItem I → HasOneAnswer (collection I)
collection_once = alone_once true
