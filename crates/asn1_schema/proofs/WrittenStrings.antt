-- Strings at the end of a tape, in one piece and in several.
use Rattle.std.proofs.Common.{◌≡◌, ◌∙◌, ap, sym, subst, refl, ℕ, suc, ◌+◌, ◌-◌, ◌<◌, ◌≤◌, inl, inr, List, [], ◌∷◌, ◌++◌, append_assoc, append-nil, length, length-append, arith}
use Rattle.std.specs.Prelude.{◌⊎◌, map, Some, None, Ok, Err}
use Rattle.std.proofs.lemmas.List.{length-map, map-append}
use Rattle.x690.specs.Octets.{IsOctets}
use Rattle.x690.specs.Laws.Octets.{below_octets, octets_append}
use Rattle.asn1_schema.specs.declared.fault.Fault.TheVariants as faults
use Rattle.asn1_schema.specs.declared.tape.Item.{Item}
use Rattle.asn1_schema.specs.declared.schema.TextKind.{TextKind}
use Rattle.asn1_schema.specs.declared.schema.TimeKind.{TimeKind}
use Rattle.asn1_schema.specs.declared.schema.Node.{Node}
use Rattle.asn1_schema.specs.declared.schema.Kind.TheVariants as kinds
use Rattle.asn1_schema.specs.Grammar.{IsText}
use Rattle.asn1_schema.specs.Rules.{IsStrictTime}
use Rattle.asn1_schema.specs.Values.{LeafValue, text, time, Value, leaf, joined}
use Rattle.asn1_schema.specs.Tape.{Sort, of_octets, of_text, of_time, string, pieces, Kept, kept_leaf, kept_string, kept_bits, kept_row, kept_chosen, Mark, leaf_mark, pieces_mark, pieces_end_mark, between, tape_of, value_of}
use Rattle.asn1_schema.specs.Writing.{before, NoneAtEnd, Writes, IsContentOfKind, IsPlainString, TakesPieces, JoinsPieces, NoPieces, BeginPieces}
use Rattle.asn1_schema.proofs.SameParts.{same_last}
use Rattle.asn1_schema.proofs.OneTape.{one_tape_back}
use Rattle.asn1_schema.proofs.TruncatedTapes.{length_before, before_truncated, truncated, last_of}

-- a value that is a string stands as a leaf or in pieces
pub string_shape : (s : Sort) (k : Kept) (o : List ℕ) → value_of k ≡ leaf (string s o) →
    (k ≡ kept_leaf (string s o)) ⊎
    ((x : List ℕ) × (xs : List (List ℕ)) × (k ≡ kept_string s x xs) × (o ≡ joined (x ∷ xs)))
string_shape s (kept_leaf l) o e = inl (cc)
string_shape of_octets (kept_string of_octets x xs) o e = inr (x, xs, refl, cc)
string_shape of_octets (kept_string (of_text j) x xs) o e = absurd (cc)
string_shape of_octets (kept_string (of_time j) x xs) o e = absurd (cc)
string_shape (of_text i) (kept_string of_octets x xs) o e = absurd (cc)
string_shape (of_text i) (kept_string (of_text j) x xs) o e =
    let same : j ≡ i = cc in
    inr (x, xs, ap (λ (z : _). kept_string (of_text z) x xs) same, cc)
string_shape (of_text i) (kept_string (of_time j) x xs) o e = absurd (cc)
string_shape (of_time i) (kept_string of_octets x xs) o e = absurd (cc)
string_shape (of_time i) (kept_string (of_text j) x xs) o e = absurd (cc)
string_shape (of_time i) (kept_string (of_time j) x xs) o e =
    let same : j ≡ i = cc in
    inr (x, xs, ap (λ (z : _). kept_string (of_time z) x xs) same, cc)
string_shape of_octets (kept_bits b bs) o e = absurd (cc)
string_shape (of_text i) (kept_bits b bs) o e = absurd (cc)
string_shape (of_time i) (kept_bits b bs) o e = absurd (cc)
string_shape s (kept_row ks) o e = absurd (cc)
string_shape s (kept_chosen k v) o e = absurd (cc)

regrouped : (front init back : List Mark) (m : Mark) →
    front ++ ((init ++ m ∷ []) ++ back) ≡ ((front ++ init) ++ m ∷ []) ++ back
regrouped front init back m =
    sym (append_assoc front (init ++ m ∷ []) back)
    ∙ ap (λ (z : List Mark). z ++ back) (sym (append_assoc front init (m ∷ [])))

-- Pieces of a string with these marks, at the end of a tape.
module _ {A : Type 0} (make : List A → LeafValue) (tape : List Item) where
  abbrev all_marks : List (List A) → List Mark
  all_marks xs = map (λ y. leaf_mark (make y)) xs

  -- no piece is taken yet
  pub no_pieces_yet : (at : ℕ) → TakesPieces make tape at at []
  no_pieces_yet at = record {
    within = omega arith;
    counted = omega arith;
    taken = sym (append-nil (before tape at));
  }

  -- one more is
  pub one_piece_more : (rest end : ℕ) (done : List (List A)) (x : List A) → TakesPieces make tape rest end done →
      (0 < rest) × (before tape rest ≡ before tape (rest - 1) ++ leaf_mark (make x) ∷ []) →
      TakesPieces make tape (rest - 1) end (x ∷ done)
  one_piece_more rest end done x s e =
      let c = s.counted in
      let w = s.within in
      record {
        within = omega (arith, w, e.0);
        counted = omega (arith, c, w, e.0);
        taken = s.taken ∙ (ap (λ (z : List Mark). z ++ all_marks done) e.1
            ∙ append_assoc (before tape (rest - 1)) (leaf_mark (make x) ∷ []) (all_marks done));
      }

  -- the marks of pieces, by the last one of those at the front
  truncated_marks : (all heads backs init : List (List A)) (x : List A) → all ≡ heads ++ backs → heads ≡ init ++ x ∷ [] →
      all_marks all ≡ (all_marks init ++ leaf_mark (make x) ∷ []) ++ all_marks backs
  truncated_marks all heads backs init x e f =
      ap all_marks e ∙ (map-append (λ y. leaf_mark (make y)) heads backs
      ∙ ap (λ (z : List Mark). z ++ all_marks backs)
      (ap all_marks f ∙ map-append (λ y. leaf_mark (make y)) init (x ∷ [])))

  -- the last piece before a place
  piece_before : (start rest end : ℕ) (all heads backs init : List (List A)) (x : List A) → end ≤ length tape →
      before tape end ≡ before tape start ++ all_marks all → all ≡ heads ++ backs → heads ≡ init ++ x ∷ [] →
      length backs + rest ≡ end → before tape rest ≡ (before tape start ++ all_marks init) ++ leaf_mark (make x) ∷ []
  piece_before start rest end all heads backs init x fits e f g l =
      let size = length-map backs (λ y. leaf_mark (make y)) in
      before_truncated tape rest end ((before tape start ++ all_marks init) ++ leaf_mark (make x) ∷ []) (all_marks backs) fits
      (e ∙ (ap (λ (z : List Mark). before tape start ++ z) (truncated_marks all heads backs init x f g)
      ∙ regrouped (before tape start) (all_marks init) (all_marks backs) (leaf_mark (make x)))) (omega (arith, size, l))

  -- where no piece stands before a place, there are no such pieces
  pub piece_missing : (start rest end : ℕ) (done : List (List A)) → end ≤ length tape → start < rest →
      TakesPieces make tape rest end done →
      ((x : List A) (r : List Mark) → before tape rest ≡ r ++ leaf_mark (make x) ∷ [] → ⊥) →
      NoPieces make tape start end
  piece_missing start rest end done fits less s nothing all e =
      let w = s.within in
      let n = length_before tape end fits in
      let m = length_before tape start (omega (arith, fits, less, w)) in
      let a = ap length e ∙ length-append (before tape start) (all_marks all) in
      let la = length-map all (λ y. leaf_mark (make y)) in
      let count : length all + start ≡ end = omega (arith, n, m, a, la) in
      let u = truncated (rest - start) all (omega (arith, count, less, w)) in
      let few = u.3 in
      let others = u.4 in
      let v = last_of u.0 (omega (arith, few, less)) in
      nothing v.1 (before tape start ++ all_marks v.0) (piece_before start rest end all u.0 u.1 v.0 v.1 fits e u.2 v.2
      (omega (arith, others, count, less, w)))

  -- pieces with their marks on both sides
  pub pieces_closed : (at count start : ℕ) (x : List A) (xs : List (List A)) →
      before tape at ≡ before tape (at - 1) ++ pieces_end_mark count ∷ [] →
      BeginPieces tape count (at - 1) (Some start) → TakesPieces make tape start (at - 1) (x ∷ xs) →
      before tape at ≡ before tape (start - 1) ++ pieces make x xs
  pieces_closed at count start x xs last b s =
      let c = s.counted in
      let sum = b.2 in
      let n : count ≡ suc (length xs) = omega (arith, c, sum) in
      last ∙ (ap (λ (z : List Mark). z ++ pieces_end_mark count ∷ []) (s.taken
      ∙ ap (λ (z : List Mark). z ++ all_marks (x ∷ xs)) b.3)
      ∙ (ap (λ (z : List Mark). z ++ pieces_end_mark count ∷ []) (append_assoc (before tape (start - 1))
      (pieces_mark count ∷ []) (all_marks (x ∷ xs)))
      ∙ (append_assoc (before tape (start - 1)) (pieces_mark count ∷ all_marks (x ∷ xs)) (pieces_end_mark count ∷ [])
      ∙ ap (λ (z : ℕ). before tape (start - 1) ++ between (pieces_mark z) (all_marks (x ∷ xs)) (pieces_end_mark z)) n)))

  -- the parts of a tape that ends with pieces
  pub pieces_inside : (at count : ℕ) (x : List A) (xs : List (List A)) (front : List Mark) →
      before tape at ≡ before tape (at - 1) ++ pieces_end_mark count ∷ [] →
      before tape at ≡ front ++ pieces make x xs →
      (count ≡ suc (length xs)) ×
      (before tape (at - 1) ≡ (front ++ pieces_mark count ∷ []) ++ all_marks (x ∷ xs))
  pieces_inside at count x xs front last e =
      let n = suc (length xs) in
      let u = same_last (before tape (at - 1)) (front ++ (pieces_mark n ∷ all_marks (x ∷ xs)))
      (pieces_end_mark count) (pieces_end_mark n)
      (sym last ∙ (e ∙ sym (append_assoc front (pieces_mark n ∷ all_marks (x ∷ xs)) (pieces_end_mark n ∷ [])))) in
      let same = same_count count n u.1 in (
        same,
        u.0 ∙ (sym (append_assoc front (pieces_mark n ∷ []) (all_marks (x ∷ xs)))
            ∙ ap (λ (z : ℕ). (front ++ pieces_mark z ∷ []) ++ all_marks (x ∷ xs)) (sym same)),
      )
    where
      same_count : (k n : ℕ) → pieces_end_mark k ≡ pieces_end_mark n → k ≡ n
      same_count k n e = cc

  -- where so many pieces do not begin, or are none of these, the tape ends with none
  pub never_begun : (at count : ℕ) → before tape at ≡ before tape (at - 1) ++ pieces_end_mark count ∷ [] →
      BeginPieces tape count (at - 1) None → (x : List A) (xs : List (List A)) (front : List Mark) →
      before tape at ≡ front ++ pieces make x xs → ⊥
  never_begun at count last b x xs front e =
      let i = pieces_inside at count x xs front last e in
      let n = i.0 in
      let l = length-map (x ∷ xs) (λ y. leaf_mark (make y)) in
      b front (all_marks (x ∷ xs)) (omega (arith, n)) (omega (arith, l, n)) i.1

  pub never_pieces : (at count start : ℕ) → at ≤ length tape →
      before tape at ≡ before tape (at - 1) ++ pieces_end_mark count ∷ [] →
      BeginPieces tape count (at - 1) (Some start) → NoPieces make tape start (at - 1) →
      (x : List A) (xs : List (List A)) (front : List Mark) → before tape at ≡ front ++ pieces make x xs → ⊥
  never_pieces at count start fits last b none x xs front e =
      let i = pieces_inside at count x xs front last e in
      let n = i.0 in
      let sum = b.2 in
      let l = length-map (x ∷ xs) (λ y. leaf_mark (make y)) in
      let f = before_truncated tape start (at - 1) (front ++ pieces_mark count ∷ []) (all_marks (x ∷ xs))
      (omega (arith, fits)) i.1 (omega (arith, l, n, sum)) in
      none (x ∷ xs) (i.1 ∙ ap (λ (z : List Mark). z ++ all_marks (x ∷ xs)) (sym f))

-- where neither a leaf nor pieces stand, the tape ends with no string
pub no_string : (s : Sort) (tape : List Mark) →
    ((o : List ℕ) (r : List Mark) → tape ≡ r ++ leaf_mark (string s o) ∷ [] → ⊥) →
    ((x : List ℕ) (xs : List (List ℕ)) (r : List Mark) → tape ≡ r ++ pieces (string s) x xs → ⊥) →
    NoneAtEnd (IsPlainString s) tape
no_string s tape no_leaf none word kept rest h e = elim (string_shape s kept word h) [
  | inl k ↦ no_leaf word rest (e ∙ ap (λ (z : Kept). rest ++ tape_of z) k)
  | inr k ↦ none k.0 k.1 rest (e ∙ ap (λ (z : Kept). rest ++ tape_of z) k.2)
]

-- the end of pieces is no leaf
pub end_is_no_leaf : (s : Sort) (tape r : List Mark) (count : ℕ) → tape ≡ r ++ pieces_end_mark count ∷ [] →
    (o : List ℕ) (q : List Mark) → tape ≡ q ++ leaf_mark (string s o) ∷ [] → ⊥
end_is_no_leaf s tape r count e o q f =
    let u = (same_last r q (pieces_end_mark count) (leaf_mark (string s o)) (sym e ∙ f)).1 in
    absurd (cc)

-- neither end of a string stands there
pub no_pieces_end : {A : Type 0} (make : List A → LeafValue) (tape : List Mark) →
    ((n : ℕ) (r : List Mark) → tape ≡ r ++ pieces_end_mark n ∷ [] → ⊥) →
    (x : List A) (xs : List (List A)) (r : List Mark) → tape ≡ r ++ pieces make x xs → ⊥
no_pieces_end make tape nothing x xs r e =
    let n = suc (length xs) in
    nothing n (r ++ (pieces_mark n ∷ map (λ y. leaf_mark (make y)) (x ∷ xs)))
    (e ∙ sym (append_assoc r (pieces_mark n ∷ map (λ y. leaf_mark (make y)) (x ∷ xs)) (pieces_end_mark n ∷ [])))

-- the octets of one piece more are in front
pub octets_joined : (s : Sort) (tape : List Item) (rest end : ℕ) (old mid new x : List ℕ) →
    JoinsPieces s tape rest end old mid → IsOctets x →
    (0 < rest) × (before tape rest ≡ before tape (rest - 1) ++ leaf_mark (string s x) ∷ []) → new ≡ x ++ mid →
    JoinsPieces s tape (rest - 1) end old new
octets_joined s tape rest end old mid new x j b e p = record {
  pieces = x ∷ j.pieces;
  puts = one_piece_more (string s) tape rest end j.pieces x j.puts e;
  are_octets = octets_append x (joined j.pieces) b j.are_octets;
  put = p ∙ (ap (λ (z : List ℕ). x ++ z) j.put ∙ sym (append_assoc x (joined j.pieces) old));
}

pub none_joined : (s : Sort) (tape : List Item) (end : ℕ) (old : List ℕ) → JoinsPieces s tape end end old old
none_joined s tape end old = record {
  pieces = [];
  puts = no_pieces_yet (string s) tape end;
  are_octets = below_octets [] tt;
  put = refl;
}

-- a string in pieces is written
pub pieces_written : (s : Sort) (tape : List Item) (at count start : ℕ) (old new : List ℕ) → at ≤ length tape →
    before tape at ≡ before tape (at - 1) ++ pieces_end_mark count ∷ [] →
    BeginPieces tape count (at - 1) (Some start) → JoinsPieces s tape start (at - 1) old new →
    Writes (IsPlainString s) tape at old new (Ok (start - 1))
pieces_written s tape at count start old new fits last b j = by_pieces j.pieces j.puts j.are_octets j.put
  where
    by_pieces : (xs : List (List ℕ)) → TakesPieces (string s) tape start (at - 1) xs → IsOctets (joined xs) →
        new ≡ joined xs ++ old → Writes (IsPlainString s) tape at old new (Ok (start - 1))
    by_pieces [] p o n =
        let c = p.counted in
        let sum = b.2 in
        absurd (omega (arith, c, sum, b.1))
    by_pieces (x ∷ xs) p o n = (
      omega (arith, p.within),
      record {
        word = joined (x ∷ xs);
        kept = kept_string s x xs;
        are_octets = o;
        holds = refl;
        taken = pieces_closed (string s) tape at count start x xs last b p;
        put = n;
      },
    )

-- What is written of a plain string is judged. The value at the end of a tape is one.
module _ (s : Sort) (P : List ℕ → Value → Type 0) (Asked : List ℕ → Type 0)
    (is : (o : List ℕ) (v : Value) → P o v → IsPlainString s o v × Asked o) where
  pub string_not_asked : (tape : List Item) (at : ℕ) (old new : List ℕ) (rest : ℕ) →
      Writes (IsPlainString s) tape at old new (Ok rest) →
      ((word : List ℕ) → new ≡ word ++ old → Asked word → ⊥) → Writes P tape at old new (Err faults.Refused)
  string_not_asked tape at old new rest w a = (
    λ f word kept front h e.
        let t = one_tape_back kept w.1.kept front (before tape rest) (sym e ∙ w.1.taken) in
        let i = is word (value_of kept) h in
        let v : leaf (string s word) ≡ leaf (string s w.1.word) = sym i.0 ∙ (ap value_of t.0 ∙ w.1.holds) in
        a w.1.word w.1.put (subst Asked (same_octets s word w.1.word v) i.1),
    (w.1.word, w.1.put),
  )
    where
      same_octets : (s : Sort) (x y : List ℕ) → leaf (string s x) ≡ leaf (string s y) → x ≡ y
      same_octets of_octets x y e = cc
      same_octets (of_text k) x y e = cc
      same_octets (of_time k) x y e = cc

-- contents octets of character strings and of times
pub text_said : (nodes : List Node) (depth : ℕ) (kind : TextKind) (o : List ℕ) (v : Value) →
    IsContentOfKind nodes depth (kinds.Text kind) o v → IsPlainString (of_text kind) o v × IsText kind o
text_said nodes depth kind o v (x, is, inl c, t) = (is ∙ ap (λ (z : List ℕ). leaf (text kind z)) c.1, subst (IsText kind) c.1 t)
text_said nodes depth kind o v (x, is, inr c, t) = absurd (let f = c.0 in cc)

pub time_said : (nodes : List Node) (depth : ℕ) (kind : TimeKind) (o : List ℕ) (v : Value) →
    IsContentOfKind nodes depth (kinds.Time kind) o v → IsPlainString (of_time kind) o v × IsStrictTime kind o
time_said nodes depth kind o v (x, is, inl c, t) =
    (is ∙ ap (λ (z : List ℕ). leaf (time kind z)) c.1, subst (IsStrictTime kind) c.1 t)
time_said nodes depth kind o v (x, is, inr c, t) = absurd (let f = c.0 in cc)
