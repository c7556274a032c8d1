-- The tags of several types together.
use Rattle.std.proofs.Common.{ℕ, ◌+◌, ◌<◌, length, drop, subst, List, [], ◌∷◌, ◌≡◌, ◌∙◌, ap, sym, refl, Bool, true, false}
use Rattle.std.specs.Prelude.{◌||◌, ◌&&◌, not, if◌then◌else◌, map}
use Rattle.std.specs.List.{list_any, list_all}
use Rattle.std.proofs.Math.ListN.{get_or}
use Rattle.std.proofs.lemmas.List.{drop_more}
use Rattle.x690.specs.Identifiers.{Identifier}
use Rattle.asn1_schema.specs.declared.schema.TypeTag.{TypeTag}
use Rattle.asn1_schema.specs.declared.schema.Tags.{Tags}
use Rattle.asn1_schema.specs.declared.schema.Tags.TheVariants as tags
use Rattle.asn1_schema.specs.declared.schema.Node.{Node}
use Rattle.asn1_schema.specs.declared.parts.Part.{Part}
use Rattle.asn1_schema.specs.Grammar.{has_tag, is_tag_of}
use Rattle.asn1_schema.specs.Build.{IsTagged, Decides, has_tag_at, has_tag_of, may_be_omitted, last_places}

or_more : (a b c : Bool) → ((a || b) || c) ≡ (a || (b || c))
or_more true b c = refl
or_more false b c = refl

or_none : (a : Bool) → (a || false) ≡ a
or_none true = refl
or_none false = refl

-- Tags that are kept where a test of the identifier holds. With those of what is left, they are those of all.

abbrev pub has_one : List TypeTag → Identifier → Bool
has_one ts id = list_any (is_tag_of id) ts

abbrev pub KeptTags : (Identifier → Bool) → List TypeTag → List TypeTag → List TypeTag → Type 0
KeptTags Q left all kept = (id : Identifier) → (has_one kept id || (has_one left id && Q id)) ≡ (has_one all id && Q id)

-- With the tags of the types that are left, the tags are those of all types.
abbrev pub LeftTags : List Node → List ℕ → List ℕ → Tags → Type 0
LeftTags table left all ts = (id : Identifier) → (has_tag ts id || has_tag_of table left id) ≡ has_tag_of table all id

-- The tags count where the parts that are left may all be left out.
abbrev pub end_tags : List Node → Tags → List Part → Identifier → Bool
end_tags table ts ps id = if list_all may_be_omitted ps then has_tag ts id || has_tag_of table (map (λ q. q.of) ps) id
    else has_tag_of table (last_places ps) id

abbrev pub LastTags : List Node → List Part → List Part → Tags → Type 0
LastTags table left all ts = (id : Identifier) → end_tags table ts left id ≡ has_tag_of table (last_places all) id

all_last : (ps : List Part) → list_all may_be_omitted ps ≡ true → last_places ps ≡ map (λ q. q.of) ps
all_last [] e = refl
all_last (p ∷ ps) e = ap (λ (b : Bool). if b then map (λ q. q.of) (p ∷ ps) else last_places ps) e

pub no_part_yet : (table : List Node) (ps : List Part) (ts : Tags) → ((id : Identifier) → has_tag ts id ≡ false) →
    LastTags table ps ps ts
no_part_yet table [] ts none id = ap (λ (b : Bool). b || false) (none id)
no_part_yet table (p ∷ ps) ts none id = by_all (list_all may_be_omitted (p ∷ ps))
  where
    by_all : (b : Bool) → (if b then has_tag ts id || has_tag_of table (map (λ q. q.of) (p ∷ ps)) id
        else has_tag_of table (if b then map (λ q. q.of) (p ∷ ps) else last_places ps) id) ≡
        has_tag_of table (if b then map (λ q. q.of) (p ∷ ps) else last_places ps) id
    by_all true = ap (λ (b : Bool). b || has_tag_of table (map (λ q. q.of) (p ∷ ps)) id) (none id)
    by_all false = refl

part_more : (table : List Node) (p : Part) (left all : List Part) (ts us : Tags) → LastTags table (p ∷ left) all ts →
    Decides (λ id. may_be_omitted p && (has_tag ts id || has_tag_at table id p.of)) us → LastTags table left all us
part_more table p left all ts us so more id =
    by_part (may_be_omitted p) (list_all may_be_omitted left) (all_last left) (has_tag us id) (more id) (so id)
  where
    by_part : (m a : Bool) → (a ≡ true → last_places left ≡ map (λ q. q.of) left) → (u : Bool) →
        u ≡ (m && (has_tag ts id || has_tag_at table id p.of)) →
        (if (m && a) then has_tag ts id || has_tag_of table (map (λ q. q.of) (p ∷ left)) id
        else has_tag_of table (if (m && a) then map (λ q. q.of) (p ∷ left) else last_places left) id) ≡
        has_tag_of table (last_places all) id →
        (if a then u || has_tag_of table (map (λ q. q.of) left) id else has_tag_of table (last_places left) id) ≡
        has_tag_of table (last_places all) id
    by_part true true l u e s = ap (λ (b : Bool). b || has_tag_of table (map (λ q. q.of) left) id) e
        ∙ (or_more (has_tag ts id) (has_tag_at table id p.of) (has_tag_of table (map (λ q. q.of) left) id) ∙ s)
    by_part true false l u e s = s
    by_part false true l u e s = ap (λ (b : Bool). b || has_tag_of table (map (λ q. q.of) left) id) e
        ∙ (sym (ap (λ (ps : List ℕ). has_tag_of table ps id) (l refl)) ∙ s)
    by_part false false l u e s = s

pub one_part_more : (table : List Node) (all : List Part) (i : ℕ) (d : Part) (ts us : Tags) → i < length all →
    LastTags table (drop i all) all ts →
    Decides (λ id. may_be_omitted (get_or all i d) && (has_tag ts id || has_tag_at table id (get_or all i d).of)) us →
    LastTags table (drop (i + 1) all) all us
one_part_more table all i d ts us within so more = part_more table (get_or all i d) (drop (i + 1) all) all ts us
    (subst (λ (ps : List Part). LastTags table ps all ts) (drop_more all i d within) so) more

-- what the tags of unknown elements are
one_tag_has : (tag : TypeTag) (ts : Tags) → IsTagged tag ts → (id : Identifier) → has_tag ts id ≡ is_tag_of id tag
one_tag_has tag (tags.Among ts) is id = ap (λ (xs : List TypeTag). list_any (is_tag_of id) xs) is ∙ or_none (is_tag_of id tag)
one_tag_has tag (tags.AllBut ts) is id = absurd is

pub unknown_tags : (ts end us vs : Tags) (tag other : TypeTag) → IsTagged tag end → tag ≡ other →
    Decides (λ id. has_tag ts id || has_tag end id) us → Decides (λ id. not (has_tag us id)) vs →
    Decides (λ id. not (has_tag ts id || is_tag_of id other)) vs
unknown_tags ts end us vs tag other is same both none id = none id ∙ (ap not (both id)
    ∙ ap (λ (b : Bool). not (has_tag ts id || b)) (one_tag_has tag end is id ∙ ap (is_tag_of id) same))
