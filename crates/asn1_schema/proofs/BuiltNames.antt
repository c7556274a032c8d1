-- Which names a call put behind those beside a table.
use Rattle.std.proofs.Common.{ℕ, List, [], ◌∷◌, ◌++◌, ◌≡◌, ◌<◌, length, ◌∙◌, subst, refl, Some}
use Rattle.std.specs.Prelude.{ℤ, Result, Ok, Err, OnOk, OnErr, slice_get, slice_set}
use Rattle.asn1_schema.specs.declared.build.Schema.{Schema}
use Rattle.asn1_schema.specs.declared.names.PartName.{PartName}
use Rattle.asn1_schema.specs.declared.names.TypeNames.{TypeNames}
use Rattle.asn1_schema.specs.BuildNames.{AreLabels, HasName, HasNames, HasLabels, AreNamesAt, AreAdded, PutsNames, PutsOpenNames, AreUnder, AreDefined}
use Rattle.asn1_schema.proofs.Builds.{at_place}

-- where the names are as they should be
pub put_names : {E : Type 0} (r : Result ℕ E) (old new : Schema) (names : TypeNames) (P : TypeNames → Type 0) →
    OnOk r (new.names.items ≡ old.names.items ++ names ∷ []) → OnErr r (new.names.items ≡ old.names.items) → P names →
    PutsNames old new P r
put_names (Ok place) old new names P all stays are = record { names = names; all = all; are = are }
put_names (Err e) old new names P all stays are = stays

-- where more is known of the labels
pub put_labels : {E : Type 0} (r : Result ℕ E) (old new : Schema) (name : List ℕ) (labels : List PartName)
    (told : List (List ℕ × ℤ)) → AreLabels told labels → PutsNames old new (HasLabels name labels) r →
    PutsNames old new (HasNames name told) r
put_labels r old new name labels told are =
    subst (λ (ls : List (List ℕ × ℤ)). PutsNames old new (HasNames name ls) r) are

-- names behind those of unknown elements
pub put_open_names : {E : Type 0} (r : Result ℕ E) (old mid new : Schema) (P : TypeNames → Type 0) →
    AreAdded old.names.items mid.names.items (HasName []) → PutsNames mid new P r → PutsOpenNames old new P r
put_open_names (Ok place) old mid new P first a = record {
  unknown = first.names;
  empty = first.are;
  added = subst (λ (xs : List TypeNames). AreAdded xs new.names.items P) first.all a;
}
put_open_names (Err e) old mid new P first a = (first.names ∷ [], a ∙ first.all)

-- the names of a type were put behind the others once more
pub are_under : {E : Type 0} (r : Result ℕ E) (old : List TypeNames) (mid new : Schema) (of : ℕ) (like : TypeNames) →
    AreNamesAt old of like → PutsNames mid new (HasLabels like.name.now like.labels.items) r →
    OnOk r (AreUnder old new.names.items of)
are_under (Ok place) old mid new of like known a = record {
  front = mid.names.items;
  names = a.names;
  all = a.all;
  same = (known.0, known.1, (a.are.0 ∙ known.2.0, a.are.1 ∙ known.2.1));
}
are_under (Err e) old mid new of like known a = tt

-- a declared type has the labels of another
pub are_defined : (old new : List TypeNames) (place of : ℕ) (like : TypeNames) → place < length old →
    AreNamesAt old of like → ((own : TypeNames) → slice_get old place ≡ Some own →
    new ≡ slice_set old place (record own { labels = like.labels })) →
    AreDefined old new place of
are_defined old new place of like within known set =
    let at = at_place old place within in
    record {
      declared = at.0;
      was = known.0;
      names = record at.0 { labels = like.labels };
      hole = at.1;
      known = known.1;
      are = (refl, known.2.1);
      all = set at.0 at.1;
    }
