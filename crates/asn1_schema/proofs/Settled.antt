-- The place of an element among others that ascend by their tags.
use Rattle.std.proofs.Common.{◌≡◌, ◌∙◌, ap, sym, subst, refl, ℕ, ◌<◌, arith, inl, inr, List, [], ◌∷◌, ◌++◌, append_assoc, length, length-append, ◌-◌}
use Rattle.std.specs.Prelude.{◌⊎◌, Option, Some, None, IfSome}
use Rattle.std.proofs.lemmas.List.{append-nil}
use Rattle.x690.specs.Identifiers.{Identifier}
use Rattle.x690.specs.Elements.{Parts, IsDerElement}
use Rattle.x690.specs.Joined.{IsConcatenation, NoPrefix}
use Rattle.asn1_headers.specs.Answers.{HasPrefix}
use Rattle.asn1_schema.specs.Grammar.{Takes}
use Rattle.asn1_schema.specs.Each.{Each}
use Rattle.asn1_schema.specs.Rules.{IsTagBefore, AscendBehind, TagsAscend, strict}
use Rattle.asn1_schema.specs.Writing.{HasRoom, Settles}
use Rattle.asn1_schema.proofs.TakesParts.{each_append, tags_onward, not_each_before, each_left, all_behind}
use Rattle.asn1_schema.proofs.OneValue.{same_front}
use Rattle.asn1_schema.proofs.Lawful.{strict_lawful}
use Rattle.asn1_schema.proofs.TakenSets.{front_joined, none_joined}

abbrev Before : Parts → Parts → Type 0
Before e p = IsTagBefore p.id e.id

abbrev Apart : Parts → Parts → Type 0
Apart e p = IsTagBefore p.id e.id ⊎ IsTagBefore e.id p.id

-- what stands behind an element has another tag
behind_apart : (e : Parts) (last : Identifier) (back : List Parts) → IsTagBefore e.id last →
    AscendBehind (Some last) back → Each (Apart e) back
behind_apart e last [] b a = tt
behind_apart e last (x ∷ back) b a =
    let h = tags_onward e.id last x.id b a.0 in (inr h, behind_apart e x.id back h a.1)

each_apart : (last : Option Identifier) (front back : List Parts) (e : Parts) →
    AscendBehind last (front ++ e ∷ back) → Each (Apart e) (front ++ back)
each_apart last [] [] e a = tt
each_apart last [] (x ∷ back) e a = (inr a.1.0, behind_apart e x.id back a.1.0 a.1.1)
each_apart last (x ∷ front) back e a = (inl (all_behind x.id front back e a.1), each_apart (Some x.id) front back e a.1)

-- an element with the tag of another has no place beside it
no_place : (es : List Parts) (e x : Parts) (front back : List Parts) → es ≡ front ++ x ∷ back →
    (IsTagBefore e.id x.id → ⊥) → (IsTagBefore x.id e.id → ⊥) → (all : List Parts) → Takes all e es →
    TagsAscend all → ⊥
no_place es e x front back is after before all t a =
    let apart = each_apart None t.front t.back e (subst TagsAscend t.is a) in
    let here = (each_left (Apart e) es x (front ++ back) (record { front = front; back = back; is = is; rest = refl })
    (subst (Each (Apart e)) (sym t.rest) apart)).0 in
    elim here [ inl b ↦ before b | inr b ↦ after b ]

-- an element is put behind those with less tags
ascend_put : (last : Option Identifier) (front back : List Parts) (e : Parts) → AscendBehind last (front ++ back) →
    IfSome last (λ l. IsTagBefore l e.id) → Each (Before e) front →
    ((x : Parts) (others : List Parts) → back ≡ x ∷ others → IsTagBefore e.id x.id) →
    AscendBehind last (front ++ e ∷ back)
ascend_put last [] [] e a l c n = (l, tt)
ascend_put last [] (x ∷ back) e a l c n = (l, (n x back refl, a.1))
ascend_put last (x ∷ front) back e a l c n = (a.0, ascend_put (Some x.id) front back e a.1 c.0 c.1 n)

pub joined_append : (one other : List ℕ) (front back : List Parts) → IsConcatenation IsDerElement one front →
    IsConcatenation IsDerElement other back → IsConcatenation IsDerElement (one ++ other) (front ++ back)
joined_append one other [] back i j =
    subst (λ (z : List ℕ). IsConcatenation IsDerElement (z ++ other) back) (sym i) j
joined_append one other (x ∷ front) back i j = (
  i.0,
  i.1 ++ other,
  i.2,
  ap (λ (z : List ℕ). z ++ other) i.3 ∙ append_assoc i.0 i.1 other,
  joined_append i.1 other front back i.4 j,
)

-- Elements of less tags were passed.
pub record RoomSoFar (e : Parts) (es : List Parts) (octets rest : List ℕ) : Type 0 where
  pub front : List Parts
  pub back : List Parts
  pub passed : List ℕ
  pub is : es ≡ front ++ back
  pub less : Each (Before e) front
  pub joins : IsConcatenation IsDerElement passed front
  pub left : IsConcatenation IsDerElement rest back
  pub octets_are : octets ≡ passed ++ rest

pub room_begun : (e : Parts) (es : List Parts) (octets : List ℕ) → IsConcatenation IsDerElement octets es →
    RoomSoFar e es octets octets
room_begun e es octets j =
    record { front = []; back = es; passed = []; is = refl; less = tt; joins = refl; left = j; octets_are = refl }

pub room_further : (e : Parts) (es : List Parts) (octets rest tail : List ℕ) (p : Parts) → RoomSoFar e es octets rest →
    HasPrefix IsDerElement rest p tail → IsTagBefore p.id e.id → RoomSoFar e es octets tail
room_further e es octets rest tail p s f b =
    let u = front_joined strict strict_lawful rest tail p s.back f s.left in
    record {
      front = s.front ++ p ∷ [];
      back = u.0;
      passed = s.passed ++ f.word;
      is = s.is ∙ (ap (λ (z : List Parts). s.front ++ z) u.1 ∙ sym (append_assoc s.front (p ∷ []) u.0));
      less = each_append (Before e) s.front (p ∷ []) s.less (b, tt);
      joins = joined_append s.passed f.word s.front (p ∷ []) s.joins (f.word, [], f.fits, sym (append-nil f.word), refl);
      left = u.2;
      octets_are = s.octets_are ∙ (ap (λ (z : List ℕ). s.passed ++ z) f.is ∙ sym (append_assoc s.passed f.word tail));
    }

room : (e : Parts) (es : List Parts) (octets rest : List ℕ) (n : ℕ) → (s : RoomSoFar e es octets rest) →
    TagsAscend es → n ≡ length s.passed →
    ((x : Parts) (others : List Parts) → s.back ≡ x ∷ others → IsTagBefore e.id x.id) → HasRoom e es octets (Some n)
room e es octets rest n s a l h = (
  s.front,
  s.back,
  s.passed,
  rest,
  s.is,
  ascend_put None s.front s.back e (subst TagsAscend s.is a) tt s.less h,
  s.joins,
  s.left,
  s.octets_are,
  l,
)

pub room_before : (e : Parts) (es : List Parts) (octets rest tail : List ℕ) (p : Parts) (n : ℕ) →
    (s : RoomSoFar e es octets rest) → TagsAscend es → n ≡ length s.passed → HasPrefix IsDerElement rest p tail →
    IsTagBefore e.id p.id → HasRoom e es octets (Some n)
room_before e es octets rest tail p n s a l f b =
    let u = front_joined strict strict_lawful rest tail p s.back f s.left in
    room e es octets rest n s a l (λ x others is.
    let same : p ≡ x = (let first = u.1 in cc) in subst (λ (z : Parts). IsTagBefore e.id z.id) same b)

pub room_at_end : (e : Parts) (es : List Parts) (octets rest : List ℕ) (n : ℕ) → (s : RoomSoFar e es octets rest) →
    TagsAscend es → n ≡ length s.passed → NoPrefix IsDerElement rest → HasRoom e es octets (Some n)
room_at_end e es octets rest n s a l none =
    let over = none_joined strict strict_lawful rest s.back none s.left in
    room e es octets rest n s a l (λ x others is. absurd (cc))

pub no_room : (e : Parts) (es : List Parts) (octets rest tail : List ℕ) (p : Parts) → RoomSoFar e es octets rest →
    HasPrefix IsDerElement rest p tail → (IsTagBefore e.id p.id → ⊥) → (IsTagBefore p.id e.id → ⊥) → HasRoom e es octets None
no_room e es octets rest tail p s f after before =
    let u = front_joined strict strict_lawful rest tail p s.back f s.left in
    no_place es e p s.front u.0 (s.is ∙ ap (λ (z : List Parts). s.front ++ z) u.1) after before

pub room_size : (e : Parts) (es : List Parts) (octets rest : List ℕ) (s : RoomSoFar e es octets rest) →
    length octets - length rest ≡ length s.passed
room_size e es octets rest s =
    let size = ap length s.octets_are ∙ length-append s.passed rest in omega (arith, size)

-- the element is the one at the front
pub one_id : (one rest : List ℕ) (e p : Parts) → HasPrefix IsDerElement one p rest → IsDerElement one e → e.id ≡ p.id
one_id one rest e p f d =
    ap (λ (z : Parts). z.id) (same_front strict strict_lawful one one f.word [] rest e p d f.fits (sym (append-nil one)) f.is).0

pub not_one : (one : List ℕ) (e : Parts) → NoPrefix IsDerElement one → IsDerElement one e → ⊥
not_one one e none d = none one [] e (sym (append-nil one)) d

-- the element is moved there
pub moved : (e : Parts) (es : List Parts) (word others old new : List ℕ) (n : ℕ) → HasRoom e es others (Some n) →
    IsDerElement word e →
    ((one other rest : List ℕ) → word ++ (others ++ old) ≡ one ++ (other ++ rest) → length word ≡ length one →
    n ≡ length other → new ≡ other ++ (one ++ rest)) → (all : List Parts) × (octets : List ℕ) × Takes all e es ×
    TagsAscend all × IsConcatenation IsDerElement octets all × (new ≡ octets ++ old)
moved e es word others old new n r d move = (
  r.0 ++ e ∷ r.1,
  r.2 ++ (word ++ r.3),
  record { front = r.0; back = r.1; is = refl; rest = r.4 },
  r.5,
  joined_append r.2 (word ++ r.3) r.0 (e ∷ r.1) r.6 (word, r.3, d, refl, r.7),
  move word r.2 (r.3 ++ old) (ap (λ (z : List ℕ). word ++ z) (ap (λ (z : List ℕ). z ++ old) r.8
      ∙ append_assoc r.2 r.3 old)) refl r.9
      ∙ (ap (λ (z : List ℕ). r.2 ++ z) (sym (append_assoc word r.3 old)) ∙ sym (append_assoc r.2 (word ++ r.3) old)),
)
