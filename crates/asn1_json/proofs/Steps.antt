-- What a step leaves of what frames await.
use Rattle.std.proofs.Common.{◌≡◌, ◌∙◌, ap, sym, refl, subst, ℕ, zero, suc, ◌≤◌, Bool, true, false, List, [], ◌∷◌, ◌++◌, append_assoc}
use Rattle.std.proofs.Common.{length, reverse, drop, Option, Some, None, nat_lt, codes, arith}
use Rattle.std.proofs.Common.{◌⊎◌, inl, inr}
use Rattle.std.proofs.lemmas.Bool.{le-ltb}
use Rattle.std.proofs.lemmas.List.{reverse-append}
use Rattle.json.specs.Token.{Token, begin_object, end_object, begin_array, end_array, key}
use Rattle.asn1_schema.specs.Values.{LeafValue, leaf, Value, Values, row, none, absent, more, bits, joined}
use Rattle.asn1_schema.specs.Tape.{Mark, end_mark, arm_end_mark, string}
use Rattle.asn1_schema.specs.Tape.{Kept, KeptRow, kept_leaf, kept_string, kept_bits, kept_row, kept_chosen, kept_none, kept_absent, kept_more}
use Rattle.asn1_schema.specs.Tape.{value_of, values_of, tape_of, tapes_of}
use Rattle.asn1_json.specs.declared.walk.Frame.{Frame}
use Rattle.asn1_json.specs.declared.walk.Frame.TheVariants as frames
use Rattle.asn1_json.specs.declared.front.Front.{Front}
use Rattle.asn1_json.specs.declared.front.Front.TheVariants as fronts
use Rattle.asn1_json.specs.declared.front.Opening.{Opening}
use Rattle.asn1_json.specs.declared.front.Opening.TheVariants as openings
use Rattle.asn1_json.specs.Leaves.{leaf_tokens}
use Rattle.asn1_json.specs.Types.{labels_at, resolved}
use Rattle.asn1_json.specs.Tokens.{Types, tokens_of, tokens_of_items, tokens_of_fields, row_tokens, type_of_arm, name_of_arm, type_of_members}
use Rattle.asn1_json.specs.Tokens.{type_of_field, type_of_unknown, name_of_field, count_of_fields}
use Rattle.asn1_json.specs.Walk.{front_of, items_end, row_marks, Await, Advances, AwaitNot, weight, OpensRow}
use Rattle.asn1_json.specs.Walk.{BeginsField}

-- Which values have which fronts.

pub leaf_of_front : (k : Kept) (here rest : List Mark) → here ≡ tape_of k ++ rest →
    front_of here ≡ fronts.Value openings.Leaf → (l : LeafValue) × (value_of k ≡ leaf l)
leaf_of_front (kept_leaf l) here rest at f = (l, refl)
leaf_of_front (kept_string s o os) here rest at f = (string s (joined (o ∷ os)), refl)
leaf_of_front (kept_bits b bs) here rest at f = (bits (joined (b ∷ bs)), refl)
leaf_of_front (kept_row ks) here rest at f = let g = ap front_of at in absurd (cc)
leaf_of_front (kept_chosen arm v) here rest at f = let g = ap front_of at in absurd (cc)

pub row_of_front : (k : Kept) (here rest : List Mark) → here ≡ tape_of k ++ rest →
    front_of here ≡ fronts.Value openings.Row →
    (ks : KeptRow) × (n : ℕ) × (k ≡ kept_row ks) × (drop 1 here ≡ row_marks ks n rest)
row_of_front (kept_leaf l) here rest at f = let g = ap front_of at in absurd (cc)
row_of_front (kept_string s o os) here rest at f = let g = ap front_of at in absurd (cc)
row_of_front (kept_bits b bs) here rest at f = let g = ap front_of at in absurd (cc)
row_of_front (kept_row ks) here rest at f =
    (ks, length (tapes_of ks), refl, ap (λ (ms : List Mark). drop 1 ms) at ∙ append_assoc (tapes_of ks) (end_mark (length (tapes_of ks)) ∷ []) rest)
row_of_front (kept_chosen arm v) here rest at f = let g = ap front_of at in absurd (cc)

pub arm_of_front : (k : Kept) (here rest : List Mark) (arm : ℕ) → here ≡ tape_of k ++ rest →
    front_of here ≡ fronts.Value (openings.Arm arm) →
    (v : Kept) × (k ≡ kept_chosen arm v) × (drop 1 here ≡ tape_of v ++ arm_end_mark arm ∷ rest)
arm_of_front (kept_leaf l) here rest arm at f = let g = ap front_of at in absurd (cc)
arm_of_front (kept_string s o os) here rest arm at f = let g = ap front_of at in absurd (cc)
arm_of_front (kept_bits b bs) here rest arm at f = let g = ap front_of at in absurd (cc)
arm_of_front (kept_row ks) here rest arm at f = let g = ap front_of at in absurd (cc)
arm_of_front (kept_chosen j v) here rest arm at f =
    let g = ap front_of at in
    let same : j ≡ arm = cc in
    let behind : drop 1 here ≡ tape_of v ++ arm_end_mark j ∷ rest =
    ap (λ (ms : List Mark). drop 1 ms) at ∙ append_assoc (tape_of v) (arm_end_mark j ∷ []) rest in
    (v, ap (λ (i : ℕ). kept_chosen i v) same, behind ∙ ap (λ (i : ℕ). tape_of v ++ arm_end_mark i ∷ rest) same)

-- some value begins
abbrev pub IsValueFront : Front → Type 0
IsValueFront front = (o : Opening) × (front ≡ fronts.Value o)

pub value_front : (k : Kept) (rest : List Mark) → IsValueFront (front_of (tape_of k ++ rest))
value_front (kept_leaf l) rest = (openings.Leaf, refl)
value_front (kept_string s o os) rest = (openings.Leaf, refl)
value_front (kept_bits b bs) rest = (openings.Leaf, refl)
value_front (kept_row ks) rest = (openings.Row, refl)
value_front (kept_chosen arm v) rest = (openings.Arm arm, refl)

-- what a row is, by its front
pub more_of_front : (ks : KeptRow) (n : ℕ) (here rest : List Mark) (o : Opening) → here ≡ row_marks ks n rest →
    front_of here ≡ fronts.Value o →
    (k : Kept) × (others : KeptRow) × (ks ≡ kept_more k others) × (here ≡ tape_of k ++ row_marks others n rest)
more_of_front kept_none n here rest o at f = let g = ap front_of at in absurd (cc)
more_of_front (kept_absent ks) n here rest o at f = let g = ap front_of at in absurd (cc)
more_of_front (kept_more k ks) n here rest o at f =
    (k, ks, refl, at ∙ append_assoc (tape_of k) (tapes_of ks) (end_mark n ∷ rest))

more_at : (k : Kept) (ks : KeptRow) (n : ℕ) (here rest : List Mark) → here ≡ row_marks (kept_more k ks) n rest →
    IsValueFront (front_of here)
more_at k ks n here rest at =
    let e = at ∙ append_assoc (tape_of k) (tapes_of ks) (end_mark n ∷ rest) in
    let v = value_front k (row_marks ks n rest) in
    (v.0, ap front_of e ∙ v.1)

pub end_of_front : (ks : KeptRow) (n : ℕ) (here rest : List Mark) → here ≡ row_marks ks n rest →
    front_of here ≡ fronts.Close → (ks ≡ kept_none) × (drop 1 here ≡ rest)
end_of_front kept_none n here rest at f = (refl, ap (λ (ms : List Mark). drop 1 ms) at)
end_of_front (kept_absent ks) n here rest at f = let g = ap front_of at in absurd (cc)
end_of_front (kept_more k ks) n here rest at f =
    let v = more_at k ks n here rest at in
    let g = v.1 in absurd (cc)

pub gone_of_front : (ks : KeptRow) (n : ℕ) (here rest : List Mark) → here ≡ row_marks ks n rest →
    front_of here ≡ fronts.Gone → (others : KeptRow) × (ks ≡ kept_absent others) × (drop 1 here ≡ row_marks others n rest)
gone_of_front kept_none n here rest at f = let g = ap front_of at in absurd (cc)
gone_of_front (kept_absent ks) n here rest at f = (ks, refl, ap (λ (ms : List Mark). drop 1 ms) at)
gone_of_front (kept_more k ks) n here rest at f =
    let v = more_at k ks n here rest at in
    let g = v.1 in absurd (cc)

-- a row begins with a value, the end or a field that is left out
pub row_front : (ks : KeptRow) (n : ℕ) (here rest : List Mark) → here ≡ row_marks ks n rest →
    (front_of here ≡ fronts.ArmEnd → ⊥) × (front_of here ≡ fronts.Nothing → ⊥)
row_front kept_none n here rest at = (
  λ f. let g = ap front_of at in absurd (cc),
  λ f. let g = ap front_of at in absurd (cc),
)
row_front (kept_absent ks) n here rest at = (
  λ f. let g = ap front_of at in absurd (cc),
  λ f. let g = ap front_of at in absurd (cc),
)
row_front (kept_more k ks) n here rest at =
    let v = more_at k ks n here rest at in
    let g = v.1 in (
      λ f. absurd (cc),
      λ f. absurd (cc),
    )

-- Each step.

-- tokens behind others
behind_tokens : (old new front others shown : List Token) → shown ≡ front ++ others → new ≡ old ++ front →
    old ++ shown ≡ new ++ others
behind_tokens old new front others shown is written =
    ap (λ (ts : List Token). old ++ ts) is ∙ sym (append_assoc old front others)
    ∙ ap (λ (ts : List Token). ts ++ others) (sym written)

pub leaf_goes : (types : Types) (of : Option ℕ) (fs : List Frame) (here behind : List Mark) (old new : List Token) →
    front_of here ≡ fronts.Value openings.Leaf →
    ((k : Kept) (rest : List Mark) → here ≡ tape_of k ++ rest → behind ≡ rest) →
    ((k : Kept) (rest : List Mark) (l : LeafValue) → here ≡ tape_of k ++ rest → value_of k ≡ leaf l →
    new ≡ old ++ leaf_tokens (labels_at types.names (resolved types.table of)) l) →
    Advances types (frames.Value of ∷ fs) here fs behind old new
leaf_goes types of fs here behind old new f truncated written = λ shown w.
    let k = w.0 in
    let l = leaf_of_front k here w.1 w.3 f in
    let is : shown ≡ leaf_tokens (labels_at types.names (resolved types.table of)) l.0 ++ w.2 =
    w.4 ∙ ap (λ (v : Value). tokens_of types of v ++ w.2) l.1 in (
      w.2,
      subst (λ (ms : List Mark). Await types fs ms w.2) (sym (truncated k w.1 w.3)) w.5,
      behind_tokens old new _ w.2 shown is (written k w.1 l.0 w.3 l.1),
    )

-- the last frame comes first
pub last_first : (fs : List Frame) (f : Frame) → reverse (fs ++ f ∷ []) ≡ f ∷ reverse fs
last_first fs f = reverse-append fs (f ∷ [])

pub two_last : (fs : List Frame) (f g : Frame) → reverse ((fs ++ f ∷ []) ++ g ∷ []) ≡ g ∷ f ∷ reverse fs
two_last fs f g = last_first (fs ++ f ∷ []) g ∙ ap (λ (x : List Frame). g ∷ x) (last_first fs f)

-- one frame more, and what it awaits
one_more : (types : Types) (before after : List Frame) (f : Frame) (behind : List Mark) (others : List Token) →
    after ≡ before ++ f ∷ [] → Await types (f ∷ reverse before) behind others → Await types (reverse after) behind others
one_more types before after f behind others is w =
    subst (λ (fs : List Frame). Await types fs behind others) (sym (ap (λ (fs : List Frame). reverse fs) is ∙ last_first before f)) w

two_more : (types : Types) (before after : List Frame) (f g : Frame) (behind : List Mark) (others : List Token) →
    after ≡ (before ++ f ∷ []) ++ g ∷ [] → Await types (g ∷ f ∷ reverse before) behind others →
    Await types (reverse after) behind others
two_more types before after f g behind others is w =
    subst (λ (fs : List Frame). Await types fs behind others) (sym (ap (λ (fs : List Frame). reverse fs) is ∙ two_last before f g)) w

row_opens : (types : Types) (of : Option ℕ) (m : Option ℕ) (before after : List Frame) (ks : KeptRow) (n : ℕ)
    (behind rest : List Mark) (others shown old new : List Token) → type_of_members types (resolved types.table of) ≡ m →
    behind ≡ row_marks ks n rest → shown ≡ tokens_of types of (row (values_of ks)) ++ others →
    Await types (reverse before) rest others → OpensRow m (resolved types.table of) before after old new →
    (left : List Token) × Await types (reverse after) behind left × (old ++ shown ≡ new ++ left)
row_opens types of None before after ks n behind rest others shown old new e at is w opens =
    let inner = tokens_of_fields types (resolved types.table of) zero (values_of ks) in
    let left : List Token = inner ++ end_object ∷ others in
    let whole : shown ≡ (begin_object ∷ []) ++ left =
    is ∙ ap (λ (m : Option ℕ). row_tokens m (λ t. tokens_of_items types t (values_of ks)) inner ++ others) e
    ∙ ap (λ (ts : List Token). begin_object ∷ ts) (append_assoc inner (end_object ∷ []) others) in (
      left,
      one_more types before after (frames.Fields (resolved types.table of) zero) behind left opens.0 (ks, n, rest, others, at, refl, w),
      behind_tokens old new (begin_object ∷ []) left shown whole opens.1,
    )
row_opens types of (Some t) before after ks n behind rest others shown old new e at is w opens =
    let fields = tokens_of_fields types (resolved types.table of) zero (values_of ks) in
    let inner = tokens_of_items types (Some t) (values_of ks) in
    let left : List Token = inner ++ end_array ∷ others in
    let whole : shown ≡ (begin_array ∷ []) ++ left =
    is ∙ ap (λ (m : Option ℕ). row_tokens m (λ t. tokens_of_items types t (values_of ks)) fields ++ others) e
    ∙ ap (λ (ts : List Token). begin_array ∷ ts) (append_assoc inner (end_array ∷ []) others) in (
      left,
      one_more types before after (frames.Items (Some t) false) behind left opens.0 (ks, n, rest, others, at, refl, w),
      behind_tokens old new (begin_array ∷ []) left shown whole opens.1,
    )

pub row_goes : (types : Types) (of : Option ℕ) (before after : List Frame) (here behind : List Mark) (old new : List Token) →
    front_of here ≡ fronts.Value openings.Row → behind ≡ drop 1 here →
    OpensRow (type_of_members types (resolved types.table of)) (resolved types.table of) before after old new →
    Advances types (frames.Value of ∷ reverse before) here (reverse after) behind old new
row_goes types of before after here behind old new f truncated opens = λ shown w.
    let r = row_of_front w.0 here w.1 w.3 f in
    let is = w.4 ∙ ap (λ (k : Kept). tokens_of types of (value_of k) ++ w.2) r.2 in
    row_opens types of (type_of_members types (resolved types.table of)) before after r.0 r.1 behind w.1 w.2 shown old new refl
    (truncated ∙ r.3) is w.5 opens

pub arm_goes : (types : Types) (of : Option ℕ) (arm : ℕ) (before after : List Frame) (here behind : List Mark)
    (old new : List Token) → front_of here ≡ fronts.Value (openings.Arm arm) → behind ≡ drop 1 here →
    after ≡ (before ++ frames.ArmEnd ∷ []) ++ frames.Value (type_of_arm types (resolved types.table of) arm) ∷ [] →
    new ≡ (old ++ begin_object ∷ []) ++ key (name_of_arm types (resolved types.table of) arm) ∷ [] →
    Advances types (frames.Value of ∷ reverse before) here (reverse after) behind old new
arm_goes types of arm before after here behind old new f truncated opens written = λ shown w.
    let r = arm_of_front w.0 here w.1 arm w.3 f in
    let name = key (name_of_arm types (resolved types.table of) arm) in
    let inner = tokens_of types (type_of_arm types (resolved types.table of) arm) (value_of r.0) in
    let left : List Token = inner ++ end_object ∷ w.2 in
    let whole : shown ≡ (begin_object ∷ name ∷ []) ++ left =
    w.4 ∙ ap (λ (k : Kept). tokens_of types of (value_of k) ++ w.2) r.1
    ∙ ap (λ (ts : List Token). begin_object ∷ name ∷ ts) (append_assoc inner (end_object ∷ []) w.2) in (
      left,
      two_more types before after frames.ArmEnd (frames.Value (type_of_arm types (resolved types.table of) arm)) behind left opens
          (r.0, arm_end_mark arm ∷ w.1, end_object ∷ w.2, truncated ∙ r.2, refl, (arm, w.1, w.2, refl, refl, w.5)),
      behind_tokens old new (begin_object ∷ name ∷ []) left shown whole
          (written ∙ append_assoc old (begin_object ∷ []) (name ∷ [])),
    )

-- a field or an unknown element
field_begins : (types : Types) (at : Option ℕ) (place : ℕ) (b : Bool) (before after : List Frame) (k : Kept) (ks : KeptRow)
    (n : ℕ) (here rest : List Mark) (others shown old new : List Token) → nat_lt place (count_of_fields types at) ≡ b →
    here ≡ tape_of k ++ row_marks ks n rest →
    shown ≡ tokens_of_fields types at place (more (value_of k) (values_of ks)) ++ end_object ∷ others →
    Await types (reverse before) rest others → BeginsField b types at place before after old new →
    (left : List Token) × Await types (reverse after) here left × (old ++ shown ≡ new ++ left)
field_begins types at place true before after k ks n here rest others shown old new e truncated is w begins =
    let name = key (name_of_field types at place) in
    let of = type_of_field types at place in
    let inner = tokens_of types of (value_of k) in
    let fields = tokens_of_fields types at (suc place) (values_of ks) in
    let last : List Token = fields ++ end_object ∷ others in
    let left : List Token = inner ++ last in
    let all : tokens_of_fields types at place (more (value_of k) (values_of ks)) ≡ name ∷ (inner ++ fields) = rw e refl in
    let whole : shown ≡ (name ∷ []) ++ left =
    is ∙ ap (λ (ts : List Token). ts ++ end_object ∷ others) all
    ∙ ap (λ (ts : List Token). name ∷ ts) (append_assoc inner fields (end_object ∷ others)) in (
      left,
      two_more types before after (frames.Fields at (suc place)) (frames.Value of) here left begins.0
          (k, row_marks ks n rest, last, truncated, refl, (ks, n, rest, others, refl, refl, w)),
      behind_tokens old new (name ∷ []) left shown whole begins.1,
    )
field_begins types at place false before after k ks n here rest others shown old new e truncated is w begins =
    let name = key (codes "...") in
    let of = type_of_unknown types at in
    let inner = tokens_of types of (value_of k) in
    let items = tokens_of_items types of (values_of ks) in
    let last : List Token = items ++ end_array ∷ end_object ∷ others in
    let left : List Token = inner ++ last in
    let all : tokens_of_fields types at place (more (value_of k) (values_of ks)) ≡
    name ∷ begin_array ∷ ((inner ++ items) ++ end_array ∷ []) = rw e refl in
    let whole : shown ≡ (name ∷ begin_array ∷ []) ++ left =
    is ∙ ap (λ (ts : List Token). ts ++ end_object ∷ others) all
    ∙ ap (λ (ts : List Token). name ∷ begin_array ∷ ts) (append_assoc (inner ++ items) (end_array ∷ []) (end_object ∷ others)
    ∙ append_assoc inner items (end_array ∷ end_object ∷ others)) in (
      left,
      two_more types before after (frames.Items of true) (frames.Value of) here left begins.0
          (k, row_marks ks n rest, last, truncated, refl, (ks, n, rest, others, refl, refl, w)),
      behind_tokens old new (name ∷ begin_array ∷ []) left shown whole
          (begins.1 ∙ append_assoc old (name ∷ []) (begin_array ∷ [])),
    )

pub field_goes : (types : Types) (at : Option ℕ) (place : ℕ) (before after : List Frame) (here : List Mark) (o : Opening)
    (old new : List Token) → front_of here ≡ fronts.Value o →
    BeginsField (nat_lt place (count_of_fields types at)) types at place before after old new →
    Advances types (frames.Fields at place ∷ reverse before) here (reverse after) here old new
field_goes types at place before after here o old new f begins = λ shown w.
    let m = more_of_front w.0 w.1 here w.2 o w.4 f in
    let is = w.5 ∙ ap (λ (ks : KeptRow). tokens_of_fields types at place (values_of ks) ++ end_object ∷ w.3) m.2 in
    field_begins types at place (nat_lt place (count_of_fields types at)) before after m.0 m.1 w.1 here w.2 w.3 shown old new refl
    m.3 is w.6 begins

pub fields_end : (types : Types) (at : Option ℕ) (place : ℕ) (fs : List Frame) (here behind : List Mark) (old new : List Token) →
    front_of here ≡ fronts.Close → behind ≡ drop 1 here → new ≡ old ++ end_object ∷ [] →
    Advances types (frames.Fields at place ∷ fs) here fs behind old new
fields_end types at place fs here behind old new f truncated written = λ shown w.
    let m = end_of_front w.0 w.1 here w.2 w.4 f in
    let is : shown ≡ (end_object ∷ []) ++ w.3 =
    w.5 ∙ ap (λ (ks : KeptRow). tokens_of_fields types at place (values_of ks) ++ end_object ∷ w.3) m.0 in (
      w.3,
      subst (λ (ms : List Mark). Await types fs ms w.3) (sym (truncated ∙ m.1)) w.6,
      behind_tokens old new (end_object ∷ []) w.3 shown is written,
    )

pub field_gone : (types : Types) (at : Option ℕ) (place next : ℕ) (before after : List Frame) (here behind : List Mark)
    (old : List Token) → front_of here ≡ fronts.Gone → behind ≡ drop 1 here → after ≡ before ++ frames.Fields at next ∷ [] →
    ((vs : Values) → tokens_of_fields types at next vs ≡ tokens_of_fields types at (suc place) vs) →
    Advances types (frames.Fields at place ∷ reverse before) here (reverse after) behind old old
field_gone types at place next before after here behind old f truncated pushed same = λ shown w.
    let m = gone_of_front w.0 w.1 here w.2 w.4 f in
    let is : shown ≡ tokens_of_fields types at next (values_of m.0) ++ end_object ∷ w.3 =
    w.5 ∙ ap (λ (ks : KeptRow). tokens_of_fields types at place (values_of ks) ++ end_object ∷ w.3) m.1
    ∙ ap (λ (ts : List Token). ts ++ end_object ∷ w.3) (sym (same (values_of m.0))) in (
      shown,
      one_more types before after (frames.Fields at next) behind shown pushed (m.0, w.1, w.2, w.3, truncated ∙ m.2, is, w.6),
      refl,
    )

-- behind the last field the place says nothing
pub beyond : (types : Types) (at : Option ℕ) (place : ℕ) (vs : Values) → count_of_fields types at ≤ place →
    tokens_of_fields types at place vs ≡ tokens_of_fields types at (suc place) vs
beyond types at place none le = refl
beyond types at place (absent vs) le = beyond types at (suc place) vs (omega arith)
beyond types at place (more v vs) le = rw (le-ltb place (count_of_fields types at) le, le-ltb (suc place) (count_of_fields types at) (omega arith)) refl

pub item_goes : (types : Types) (of : Option ℕ) (are_unknown : Bool) (before after : List Frame) (here : List Mark) (o : Opening)
    (old : List Token) → front_of here ≡ fronts.Value o →
    after ≡ (before ++ frames.Items of are_unknown ∷ []) ++ frames.Value of ∷ [] →
    Advances types (frames.Items of are_unknown ∷ reverse before) here (reverse after) here old old
item_goes types of are_unknown before after here o old f pushed = λ shown w.
    let m = more_of_front w.0 w.1 here w.2 o w.4 f in
    let inner = tokens_of types of (value_of m.0) in
    let items = tokens_of_items types of (values_of m.1) in
    let last : List Token = items ++ (items_end are_unknown ++ w.3) in
    let is : shown ≡ inner ++ last =
    w.5 ∙ ap (λ (ks : KeptRow). tokens_of_items types of (values_of ks) ++ (items_end are_unknown ++ w.3)) m.2
    ∙ append_assoc inner items (items_end are_unknown ++ w.3) in (
      shown,
      two_more types before after (frames.Items of are_unknown) (frames.Value of) here shown pushed
          (m.0, row_marks m.1 w.1 w.2, last, m.3, is, (m.1, w.1, w.2, w.3, refl, refl, w.6)),
      refl,
    )

pub items_end_goes : (types : Types) (of : Option ℕ) (are_unknown : Bool) (fs : List Frame) (here behind : List Mark)
    (old new : List Token) → front_of here ≡ fronts.Close → behind ≡ drop 1 here → new ≡ old ++ items_end are_unknown →
    Advances types (frames.Items of are_unknown ∷ fs) here fs behind old new
items_end_goes types of are_unknown fs here behind old new f truncated written = λ shown w.
    let m = end_of_front w.0 w.1 here w.2 w.4 f in
    let is : shown ≡ items_end are_unknown ++ w.3 =
    w.5 ∙ ap (λ (ks : KeptRow). tokens_of_items types of (values_of ks) ++ (items_end are_unknown ++ w.3)) m.0 in (
      w.3,
      subst (λ (ms : List Mark). Await types fs ms w.3) (sym (truncated ∙ m.1)) w.6,
      behind_tokens old new (items_end are_unknown) w.3 shown is written,
    )

pub item_gone : (types : Types) (of : Option ℕ) (are_unknown : Bool) (before after : List Frame) (here behind : List Mark)
    (old : List Token) → front_of here ≡ fronts.Gone → behind ≡ drop 1 here →
    after ≡ before ++ frames.Items of are_unknown ∷ [] →
    Advances types (frames.Items of are_unknown ∷ reverse before) here (reverse after) behind old old
item_gone types of are_unknown before after here behind old f truncated pushed = λ shown w.
    let m = gone_of_front w.0 w.1 here w.2 w.4 f in
    let is : shown ≡ tokens_of_items types of (values_of m.0) ++ (items_end are_unknown ++ w.3) =
    w.5 ∙ ap (λ (ks : KeptRow). tokens_of_items types of (values_of ks) ++ (items_end are_unknown ++ w.3)) m.1 in (
      shown,
      one_more types before after (frames.Items of are_unknown) behind shown pushed (m.0, w.1, w.2, w.3, truncated ∙ m.2, is, w.6),
      refl,
    )

-- What is not awaited.

pub no_value : (types : Types) (of : Option ℕ) (fs : List Frame) (here : List Mark) →
    ((o : Opening) → front_of here ≡ fronts.Value o → ⊥) → AwaitNot types (frames.Value of ∷ fs) here
no_value types of fs here not = λ shown w.
    let v = value_front w.0 w.1 in
    not v.0 (ap front_of w.3 ∙ v.1)

pub no_items : (types : Types) (of : Option ℕ) (are_unknown : Bool) (fs : List Frame) (here : List Mark) →
    (front_of here ≡ fronts.ArmEnd) ⊎ (front_of here ≡ fronts.Nothing) → AwaitNot types (frames.Items of are_unknown ∷ fs) here
no_items types of are_unknown fs here (inl f) = λ shown w. (row_front w.0 w.1 here w.2 w.4).0 f
no_items types of are_unknown fs here (inr f) = λ shown w. (row_front w.0 w.1 here w.2 w.4).1 f

pub no_fields : (types : Types) (at : Option ℕ) (place : ℕ) (fs : List Frame) (here : List Mark) →
    (front_of here ≡ fronts.ArmEnd) ⊎ (front_of here ≡ fronts.Nothing) → AwaitNot types (frames.Fields at place ∷ fs) here
no_fields types at place fs here (inl f) = λ shown w. (row_front w.0 w.1 here w.2 w.4).0 f
no_fields types at place fs here (inr f) = λ shown w. (row_front w.0 w.1 here w.2 w.4).1 f

-- How many steps are left.

pub light : (fs : List Frame) → weight fs ≤ 2
light [] = omega arith
light (frames.Value of ∷ fs) = omega arith
light (frames.Items of are_unknown ∷ fs) = omega arith
light (frames.Fields at place ∷ fs) = omega arith
light (frames.ArmEnd ∷ fs) = omega arith

-- Steps one behind another.
pub goes_on : (types : Types) (fs gs hs : List Frame) (here behind rest : List Mark) (old mid new : List Token) →
    Advances types fs here gs behind old mid → Advances types gs behind hs rest mid new →
    Advances types fs here hs rest old new
goes_on types fs gs hs here behind rest old mid new a b = λ shown w.
    let x = a shown w in
    let y = b x.0 x.1 in
    (y.0, y.1, x.2 ∙ y.2)
