-- Two rows of the same octets come out alike.
use Rattle.std.proofs.Common.{◌≡◌, ℕ, suc, ◌+◌, ◌≤◌, Bool, true, false, List, [], ◌∷◌, ◌++◌, length, drop, ◌⊎◌, inl, inr, refl}
use Rattle.std.proofs.Common.{sym, subst, ap, ◌∙◌, arith, length-append}
use Rattle.x690.specs.Identifiers.{Identifier}
use Rattle.x690.specs.Lengths.{LengthForm, definite, indefinite}
use Rattle.x690.specs.Rules.{ber_rule}
use Rattle.x690.specs.Elements.{IsHeader}
use Rattle.x690.specs.Faults.{Fault}
use Rattle.x690.specs.Laws.Headers.{header_unique}
use Rattle.x690.specs.Laws.Faults.{header_or_fault}
use Rattle.asn1_headers.specs.Length.{form_of}
use Rattle.asn1_walk.specs.declared.line.Line.{Line}
use Rattle.asn1_walk.specs.Rows.{Row, Outcome, ended, refused, at_end, at_fault, leaf, node, broken, AtEnd, NoElement}
use Rattle.asn1_walk.specs.Rows.{BeginsWithLine, Opens, end_width, identifier_of_line}

-- both end at one place, with the same octets behind it, or both are refused
abbrev Agree : Outcome → Outcome → Type 0
Agree (ended at left) (ended to behind) = (at ≡ to) × (left ≡ behind)
Agree (ended at left) (refused to fault) = ⊥
Agree (refused at fault) (ended to behind) = ⊥
Agree (refused at fault) (refused to other) = Unit {0}

-- what a length form counts is there
abbrev IsThere : LengthForm → List ℕ → Type 0
IsThere (definite n) after = n ≤ length after
IsThere indefinite after = Unit {0}

counted_is_there : (n : ℕ) (form : LengthForm) (after : List ℕ) → form ≡ definite n → IsThere form after → n ≤ length after
counted_is_there n form after e h = subst (λ (f : LengthForm). IsThere f after) e h

opens_is_there : (form : LengthForm) (marked : Bool) (after content tail : List ℕ) → Opens form after marked content tail →
    IsThere form after
opens_is_there (definite n) marked after content tail h = omega (arith, h.1, ap length h.2, length-append content tail)
opens_is_there indefinite marked after content tail h = tt

-- a header with what it counts excludes a fault
no_fault : (octets header after : List ℕ) (id : Identifier) (form : LengthForm) (fault : Fault) →
    IsHeader ber_rule header id form → octets ≡ header ++ after → IsThere form after → NoElement octets fault → ⊥
no_fault octets header after id form fault h e there (inl why) = header_or_fault ber_rule octets header after id form fault why h e
no_fault octets header after id form fault h e there (inr truncated) =
    let u = header_unique ber_rule ber_rule header truncated.header after truncated.rest id truncated.id form (definite truncated.counted)
    h truncated.header_is (sym e ∙ truncated.is) in
    omega (arith, counted_is_there truncated.counted form after u.2 there, ap length u.3, truncated.some, truncated.sum)

-- two lines tell the same
record Same (one other : Line) (after rest : List ℕ) : Type 0 where
  pub constructed : one.constructed ≡ other.constructed
  pub form : form_of one.length ≡ form_of other.length
  pub header_len : one.header_len ≡ other.header_len
  pub after_is : after ≡ rest

same_line : (marked : Bool) (depth offset : ℕ) (octets : List ℕ) (one other : Line) (after rest : List ℕ) →
    BeginsWithLine marked depth offset octets one after → BeginsWithLine marked depth offset octets other rest →
    Same one other after rest
same_line marked depth offset octets one other after rest s t =
    let u = header_unique ber_rule ber_rule s.header t.header after rest (identifier_of_line one) (identifier_of_line other)
    (form_of one.length) (form_of other.length) s.header_is t.header_is (sym s.is ∙ t.is) in
    record {
      constructed = ap (λ (id : Identifier). id.constructed) u.1;
      form = u.2;
      header_len = s.header_len_is ∙ ap length u.0 ∙ sym t.header_len_is;
      after_is = u.3;
    }

-- contents that are opened by the same form are the same
record SameOpen (marked other_marked : Bool) (content other tail behind : List ℕ) : Type 0 where
  pub marked_is : marked ≡ other_marked
  pub content_is : content ≡ other
  pub tail_is : tail ≡ behind

truncated_alike : (xs ys us vs : List ℕ) → length xs ≡ length ys → xs ++ us ≡ ys ++ vs → (xs ≡ ys) × (us ≡ vs)
truncated_alike [] [] us vs l e = (refl, e)
truncated_alike [] (y ∷ ys) us vs l e = absurd (omega (arith, l))
truncated_alike (x ∷ xs) [] us vs l e = absurd (omega (arith, l))
truncated_alike (x ∷ xs) (y ∷ ys) us vs l e =
    let r = truncated_alike xs ys us vs (omega (arith, l)) (ap (drop 1) e) in
    (ap (λ (n : ℕ). n ∷ xs) (head e) ∙ ap (λ (zs : List ℕ). y ∷ zs) r.0, r.1)
  where
    head : x ∷ (xs ++ us) ≡ y ∷ (ys ++ vs) → x ≡ y
    head h = ap first h
      where
        first : List ℕ → ℕ
        first [] = x
        first (z ∷ zs) = z

same_open : (form : LengthForm) (marked other_marked : Bool) (after content other tail behind : List ℕ) →
    Opens form after marked content tail → Opens form after other_marked other behind →
    SameOpen marked other_marked content other tail behind
same_open (definite n) marked other_marked after content other tail behind h k =
    let both = truncated_alike content other tail behind (h.1 ∙ sym k.1) (sym h.2 ∙ k.2) in
    record { marked_is = h.0 ∙ sym k.0; content_is = both.0; tail_is = both.1 }
same_open indefinite marked other_marked after content other tail behind h k =
    record { marked_is = h.0 ∙ sym k.0; content_is = h.1 ∙ sym k.1; tail_is = h.2 ∙ sym k.2 }

-- how a row begins
record EndsHere (marked : Bool) (offset : ℕ) (octets : List ℕ) (outcome : Outcome) : Type 0 where
  pub rest : List ℕ
  pub end : AtEnd marked octets rest
  pub is : outcome ≡ ended (offset + end_width marked) rest

record FaultHere (marked : Bool) (offset : ℕ) (octets : List ℕ) (outcome : Outcome) : Type 0 where
  pub fault : Fault
  pub not_end : (rest : List ℕ) → AtEnd marked octets rest → ⊥
  pub why : NoElement octets fault
  pub is : outcome ≡ refused offset fault

record LeafHere (marked : Bool) (depth offset : ℕ) (octets : List ℕ) (outcome : Outcome) : Type 0 where
  pub line : Line
  pub rest : List ℕ
  pub lines : List Line
  pub tells : BeginsWithLine marked depth offset octets line (line.content.now ++ rest)
  pub primitive : line.constructed ≡ false
  pub counted : form_of line.length ≡ definite (length line.content.now)
  pub row : Row marked depth (offset + line.header_len + length line.content.now) rest lines outcome

record NodeHere (marked : Bool) (depth offset : ℕ) (octets : List ℕ) (outcome : Outcome) : Type 0 where
  pub line : Line
  pub after : List ℕ
  pub inner_marked : Bool
  pub tail : List ℕ
  pub inner : List Line
  pub inner_outcome : Outcome
  pub tells : BeginsWithLine marked depth offset octets line after
  pub constructed : line.constructed ≡ true
  pub opens : Opens (form_of line.length) after inner_marked line.content.now tail
  pub inner_row : Row inner_marked (suc depth) (offset + line.header_len) line.content.now inner inner_outcome
  pub goes_on : (at : ℕ) (left : List ℕ) → inner_outcome ≡ ended at left →
      (lines : List Line) × Row marked depth at (left ++ tail) lines outcome
  pub breaks : (at : ℕ) (fault : Fault) → inner_outcome ≡ refused at fault → outcome ≡ refused at fault

abbrev Begins : Bool → ℕ → ℕ → List ℕ → Outcome → Type 0
Begins marked depth offset octets outcome = EndsHere marked offset octets outcome ⊎
    (FaultHere marked offset octets outcome ⊎ (LeafHere marked depth offset octets outcome ⊎
    NodeHere marked depth offset octets outcome))

ended_is : (at to : ℕ) (left behind : List ℕ) → ended at left ≡ ended to behind → (at ≡ to) × (left ≡ behind)
ended_is at to left behind e = subst (Agree (ended at left)) e (refl, refl)

not_both : (at to : ℕ) (left : List ℕ) (fault : Fault) → ended at left ≡ refused to fault → ⊥
not_both at to left fault e = subst (Agree (ended at left)) e (refl, refl)

-- what an element with contents to go into makes of a row, by how these come out
node_here : (marked : Bool) (depth offset : ℕ) (octets : List ℕ) (outcome : Outcome) (line : Line) (after : List ℕ)
    (inner_marked : Bool) (tail : List ℕ) (inner : List Line) (inner_outcome : Outcome) →
    BeginsWithLine marked depth offset octets line after → line.constructed ≡ true →
    Opens (form_of line.length) after inner_marked line.content.now tail →
    Row inner_marked (suc depth) (offset + line.header_len) line.content.now inner inner_outcome →
    ((at : ℕ) (left : List ℕ) → inner_outcome ≡ ended at left →
    (lines : List Line) × Row marked depth at (left ++ tail) lines outcome) →
    ((at : ℕ) (fault : Fault) → inner_outcome ≡ refused at fault → outcome ≡ refused at fault) →
    Begins marked depth offset octets outcome
node_here _ _ _ _ _ line after inner_marked tail inner inner_outcome tells constructed opens inner_row goes_on breaks =
    inr (inr (inr (record {
      line = line;
      after = after;
      inner_marked = inner_marked;
      tail = tail;
      inner = inner;
      inner_outcome = inner_outcome;
      tells = tells;
      constructed = constructed;
      opens = opens;
      inner_row = inner_row;
      goes_on = goes_on;
      breaks = breaks;
    })))

begins : (marked : Bool) (depth offset : ℕ) (octets : List ℕ) (lines : List Line) (outcome : Outcome) →
    Row marked depth offset octets lines outcome → Begins marked depth offset octets outcome
begins _ _ _ _ _ _ (at_end marked depth offset octets rest end) = inl (record { rest = rest; end = end; is = refl })
begins _ _ _ _ _ _ (at_fault marked depth offset octets fault not_end why) =
    inr (inl (record { fault = fault; not_end = not_end; why = why; is = refl }))
begins _ _ _ _ _ _ (leaf marked depth offset octets line rest lines outcome tells primitive counted row) =
    inr (inr (inl (record { line = line; rest = rest; lines = lines; tells = tells; primitive = primitive; counted = counted; row = row })))
begins _ _ _ _ _ _ (node marked depth offset octets line after inner_marked tail inner at left lines outcome tells constructed opens inner_row row) =
    node_here marked depth offset octets outcome line after inner_marked tail inner (ended at left) tells constructed opens
    inner_row
    (λ to behind e. let p = ended_is at to left behind e in (
      lines,
      subst (λ (l : List ℕ). Row marked depth to (l ++ tail) lines outcome) p.1
          (subst (λ (n : ℕ). Row marked depth n (left ++ tail) lines outcome) p.0 row),
    ))
    (λ to fault e. absurd (not_both at to left fault e))
begins _ _ _ _ _ _ (broken marked depth offset octets line after inner_marked tail inner at fault tells constructed opens inner_row) =
    node_here marked depth offset octets (refused at fault) line after inner_marked tail inner (refused at fault) tells
    constructed opens inner_row (λ to behind e. absurd (not_both to at behind fault (sym e))) (λ to other e. e)

-- the rest behind an end is one
same_end : (marked : Bool) (octets rest other : List ℕ) → AtEnd marked octets rest → AtEnd marked octets other → rest ≡ other
same_end false octets rest other h k = h.1 ∙ sym k.1
same_end true octets rest other h k = ap (drop 2) (sym h ∙ k)

abbrev IsSet : Bool → Type 0
IsSet true = Unit {0}
IsSet false = ⊥

pub apart : (b c : Bool) → b ≡ true → c ≡ false → b ≡ c → ⊥
apart b c h k e = subst IsSet (sym h ∙ e ∙ k) tt

same_count : (n m : ℕ) → definite n ≡ definite m → n ≡ m
same_count n m e = ap count e
  where
    count : LengthForm → ℕ
    count (definite k) = k
    count indefinite = n

ended_alike : (at : ℕ) (left : List ℕ) (other : Outcome) → Agree (ended at left) other → other ≡ ended at left
ended_alike at left (ended to behind) h =
    ap (λ (n : ℕ). ended n behind) (sym h.0) ∙ ap (λ (l : List ℕ). ended at l) (sym h.1)
ended_alike at left (refused to fault) h = absurd h

refused_too : (at : ℕ) (fault : Fault) (other : Outcome) → Agree (refused at fault) other →
    (to : ℕ) × (why : Fault) × (other ≡ refused to why)
refused_too at fault (ended to behind) h = absurd h
refused_too at fault (refused to why) h = (to, why, refl)

leaf_is_there : (line : Line) (rest : List ℕ) → form_of line.length ≡ definite (length line.content.now) →
    IsThere (form_of line.length) (line.content.now ++ rest)
leaf_is_there line rest e = subst (λ (f : LengthForm). IsThere f (line.content.now ++ rest)) (sym e) (omega (arith, length-append line.content.now rest))

-- the row of a leaf goes on where that of the same leaf does
same_rest : (marked : Bool) (depth offset : ℕ) (octets : List ℕ) (outcome : Outcome) (line : Line) (rest : List ℕ) →
    BeginsWithLine marked depth offset octets line (line.content.now ++ rest) →
    form_of line.length ≡ definite (length line.content.now) → (l : LeafHere marked depth offset octets outcome) →
    Row marked depth (offset + line.header_len + length line.content.now) rest l.lines outcome
same_rest marked depth offset octets outcome line rest tells counted l =
    let s = same_line marked depth offset octets line l.line (line.content.now ++ rest) (l.line.content.now ++ l.rest) tells l.tells in
    let count : length line.content.now ≡ length l.line.content.now =
    same_count (length line.content.now) (length l.line.content.now) (sym counted ∙ s.form ∙ l.counted) in
    let both = truncated_alike line.content.now l.line.content.now rest l.rest count s.after_is in
    let here : offset + l.line.header_len + length l.line.content.now ≡ offset + line.header_len + length line.content.now =
    omega (arith, count, s.header_len) in
    subst (λ (o : List ℕ). Row marked depth (offset + line.header_len + length line.content.now) o l.lines outcome) (sym both.1)
    (subst (λ (n : ℕ). Row marked depth n l.rest l.lines outcome) here l.row)

-- what is opened by the same header is the same
node_open : (marked : Bool) (depth offset : ℕ) (octets : List ℕ) (outcome : Outcome) (line : Line) (after : List ℕ)
    (inner_marked : Bool) (tail : List ℕ) → BeginsWithLine marked depth offset octets line after →
    Opens (form_of line.length) after inner_marked line.content.now tail → (n : NodeHere marked depth offset octets outcome) →
    SameOpen inner_marked n.inner_marked line.content.now n.line.content.now tail n.tail
node_open marked depth offset octets outcome line after inner_marked tail tells opens n =
    let s = same_line marked depth offset octets line n.line after n.after tells n.tells in
    same_open (form_of line.length) inner_marked n.inner_marked after line.content.now n.line.content.now tail n.tail opens
    (subst (λ (o : List ℕ). Opens (form_of line.length) o n.inner_marked n.line.content.now n.tail) (sym s.after_is)
    (subst (λ (f : LengthForm). Opens f n.after n.inner_marked n.line.content.now n.tail) (sym s.form) n.opens))

same_inner : (marked : Bool) (depth offset : ℕ) (octets : List ℕ) (outcome : Outcome) (line : Line) (after : List ℕ)
    (inner_marked : Bool) (tail : List ℕ) → BeginsWithLine marked depth offset octets line after →
    Opens (form_of line.length) after inner_marked line.content.now tail → (n : NodeHere marked depth offset octets outcome) →
    Row inner_marked (suc depth) (offset + line.header_len) line.content.now n.inner n.inner_outcome
same_inner marked depth offset octets outcome line after inner_marked tail tells opens n =
    let s = same_line marked depth offset octets line n.line after n.after tells n.tells in
    let o = node_open marked depth offset octets outcome line after inner_marked tail tells opens n in
    subst (λ (m : Bool). Row m (suc depth) (offset + line.header_len) line.content.now n.inner n.inner_outcome) (sym o.marked_is)
    (subst (λ (k : ℕ). Row n.inner_marked (suc depth) (offset + k) line.content.now n.inner n.inner_outcome) (sym s.header_len)
    (subst (λ (c : List ℕ). Row n.inner_marked (suc depth) (offset + n.line.header_len) c n.inner n.inner_outcome) (sym o.content_is) n.inner_row))

agree : (marked : Bool) (depth offset : ℕ) (octets : List ℕ) (lines : List Line) (outcome : Outcome) →
    Row marked depth offset octets lines outcome → (other : Outcome) → Begins marked depth offset octets other →
    Agree outcome other
agree _ _ _ _ _ _ (at_end marked depth offset octets rest end) other (inl e) =
    subst (Agree (ended (offset + end_width marked) rest)) (sym e.is) (refl, same_end marked octets rest e.rest end e.end)
agree _ _ _ _ _ _ (at_end marked depth offset octets rest end) other (inr (inl f)) = absurd (f.not_end rest end)
agree _ _ _ _ _ _ (at_end marked depth offset octets rest end) other (inr (inr (inl l))) = absurd (l.tells.not_end rest end)
agree _ _ _ _ _ _ (at_end marked depth offset octets rest end) other (inr (inr (inr n))) = absurd (n.tells.not_end rest end)
agree _ _ _ _ _ _ (at_fault marked depth offset octets fault not_end why) other (inl e) = absurd (not_end e.rest e.end)
agree _ _ _ _ _ _ (at_fault marked depth offset octets fault not_end why) other (inr (inl f)) =
    subst (Agree (refused offset fault)) (sym f.is) tt
agree _ _ _ _ _ _ (at_fault marked depth offset octets fault not_end why) other (inr (inr (inl l))) =
    absurd (no_fault octets l.tells.header (l.line.content.now ++ l.rest) (identifier_of_line l.line) (form_of l.line.length) fault
    l.tells.header_is l.tells.is (leaf_is_there l.line l.rest l.counted) why)
agree _ _ _ _ _ _ (at_fault marked depth offset octets fault not_end why) other (inr (inr (inr n))) =
    absurd (no_fault octets n.tells.header n.after (identifier_of_line n.line) (form_of n.line.length) fault n.tells.header_is
    n.tells.is (opens_is_there (form_of n.line.length) n.inner_marked n.after n.line.content.now n.tail n.opens) why)
agree _ _ _ _ _ _ (leaf marked depth offset octets line rest lines outcome tells primitive counted row) other (inl e) =
    absurd (tells.not_end e.rest e.end)
agree _ _ _ _ _ _ (leaf marked depth offset octets line rest lines outcome tells primitive counted row) other (inr (inl f)) =
    absurd (no_fault octets tells.header (line.content.now ++ rest) (identifier_of_line line) (form_of line.length) f.fault
    tells.header_is tells.is (leaf_is_there line rest counted) f.why)
agree _ _ _ _ _ _ (leaf marked depth offset octets line rest lines outcome tells primitive counted row) other (inr (inr (inl l))) =
    agree marked depth (offset + line.header_len + length line.content.now) rest lines outcome row other
    (begins marked depth (offset + line.header_len + length line.content.now) rest l.lines other
    (same_rest marked depth offset octets other line rest tells counted l))
agree _ _ _ _ _ _ (leaf marked depth offset octets line rest lines outcome tells primitive counted row) other (inr (inr (inr n))) =
    let s = same_line marked depth offset octets line n.line (line.content.now ++ rest) n.after tells n.tells in
    absurd (apart n.line.constructed line.constructed n.constructed primitive (sym s.constructed))
agree _ _ _ _ _ _ (node marked depth offset octets line after inner_marked tail inner at left lines outcome tells constructed opens inner_row row) other (inl e) =
    absurd (tells.not_end e.rest e.end)
agree _ _ _ _ _ _ (node marked depth offset octets line after inner_marked tail inner at left lines outcome tells constructed opens inner_row row) other (inr (inl f)) =
    absurd (no_fault octets tells.header after (identifier_of_line line) (form_of line.length) f.fault tells.header_is tells.is
    (opens_is_there (form_of line.length) inner_marked after line.content.now tail opens) f.why)
agree _ _ _ _ _ _ (node marked depth offset octets line after inner_marked tail inner at left lines outcome tells constructed opens inner_row row) other (inr (inr (inl l))) =
    let s = same_line marked depth offset octets line l.line after (l.line.content.now ++ l.rest) tells l.tells in
    absurd (apart line.constructed l.line.constructed constructed l.primitive s.constructed)
agree _ _ _ _ _ _ (node marked depth offset octets line after inner_marked tail inner at left lines outcome tells constructed opens inner_row row) other (inr (inr (inr n))) =
    let o = node_open marked depth offset octets other line after inner_marked tail tells opens n in
    let i : Agree (ended at left) n.inner_outcome =
    agree inner_marked (suc depth) (offset + line.header_len) line.content.now inner (ended at left) inner_row n.inner_outcome
    (begins inner_marked (suc depth) (offset + line.header_len) line.content.now n.inner n.inner_outcome
    (same_inner marked depth offset octets other line after inner_marked tail tells opens n)) in
    let more = n.goes_on at left (ended_alike at left n.inner_outcome i) in
    agree marked depth at (left ++ tail) lines outcome row other
    (begins marked depth at (left ++ tail) more.0 other
    (subst (λ (t : List ℕ). Row marked depth at (left ++ t) more.0 other) (sym o.tail_is) more.1))
agree _ _ _ _ _ _ (broken marked depth offset octets line after inner_marked tail inner at fault tells constructed opens inner_row) other (inl e) =
    absurd (tells.not_end e.rest e.end)
agree _ _ _ _ _ _ (broken marked depth offset octets line after inner_marked tail inner at fault tells constructed opens inner_row) other (inr (inl f)) =
    subst (Agree (refused at fault)) (sym f.is) tt
agree _ _ _ _ _ _ (broken marked depth offset octets line after inner_marked tail inner at fault tells constructed opens inner_row) other (inr (inr (inl l))) =
    let s = same_line marked depth offset octets line l.line after (l.line.content.now ++ l.rest) tells l.tells in
    absurd (apart line.constructed l.line.constructed constructed l.primitive s.constructed)
agree _ _ _ _ _ _ (broken marked depth offset octets line after inner_marked tail inner at fault tells constructed opens inner_row) other (inr (inr (inr n))) =
    let i : Agree (refused at fault) n.inner_outcome =
    agree inner_marked (suc depth) (offset + line.header_len) line.content.now inner (refused at fault) inner_row n.inner_outcome
    (begins inner_marked (suc depth) (offset + line.header_len) line.content.now n.inner n.inner_outcome
    (same_inner marked depth offset octets other line after inner_marked tail tells opens n)) in
    let r = refused_too at fault n.inner_outcome i in
    subst (Agree (refused at fault)) (sym (n.breaks r.0 r.1 r.2)) tt

-- a row that ends does not break off
pub ends_or_breaks : (octets : List ℕ) (lines others : List Line) (at to : ℕ) (left : List ℕ) (fault : Fault) →
    Row false 0 0 octets lines (ended at left) → Row false 0 0 octets others (refused to fault) → ⊥
ends_or_breaks octets lines others at to left fault row other =
    agree false 0 0 octets lines (ended at left) row (refused to fault) (begins false 0 0 octets others (refused to fault) other)
