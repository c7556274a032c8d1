-- Strings in pieces that are read.
use Rattle.std.proofs.Common.{◌≡◌, ◌≢◌, ◌∙◌, ◌↔◌, ap, sym, subst, refl, ℕ, zero, suc, ◌+◌, ◌-◌, ◌<◌, take, drop, ◌⊎◌, inl, inr, Bool, true, false, IsTrue, List, [], ◌∷◌, ◌++◌, arith, append_assoc, length}
use Rattle.std.specs.Prelude.{Result, Ok, Err, map, OnOk, IfErr, slice_set}
use Rattle.std.proofs.lemmas.List.{map-append, append-nil, length-append, length-map, length-drop, take_all, drop_at, drop-map}
use Rattle.x690.specs.Lengths.{indefinite}
use Rattle.x690.specs.Elements.{Parts}
use Rattle.x690.specs.Joined.{NoPrefix, IsConcatenation}
use Rattle.asn1_headers.specs.Answers.{HasPrefix}
use Rattle.asn1_schema.specs.declared.fault.Fault.{Fault}
use Rattle.asn1_schema.specs.declared.fault.Fault.TheVariants as faults
use Rattle.asn1_schema.specs.declared.coding.Coding.{Coding}
use Rattle.asn1_schema.specs.declared.coding.Coding.TheVariants as codings
use Rattle.asn1_schema.specs.declared.tape.Item.{Item}
use Rattle.asn1_schema.specs.declared.tape.Item.TheVariants as items
use Rattle.asn1_schema.specs.declared.pieces.Sort.{Sort}
use Rattle.asn1_schema.specs.declared.pieces.Sort.TheVariants as sorts
use Rattle.asn1_schema.specs.Values.{Value, leaf, joined}
use Rattle.asn1_schema.specs.Grammar.{Rules, StringOf, Says, AllButLast, IsString}
use Rattle.asn1_schema.specs.Tape.{of_octets as sort_of_octets, of_text, of_time, Kept, kept_leaf, kept_string, kept_bits, Mark, mark, marks, pieces_mark, pieces_end_mark, between, pieces, value_of, tape_of}
use Rattle.asn1_schema.specs.Reading.{rules_of, ReadsValue}
use Rattle.asn1_schema.specs.Pieces.{Elem, leaf_of, string_of, piece_mark, IsPiece, ArePieces, SaysPiece, PutsPieces, ReadsPieces, ClosesPieces}
use Rattle.asn1_schema.proofs.Strings.{AreLawfulRules, HasOneContent, one_octets, one_bits, string_one}
use Rattle.asn1_schema.proofs.OneValue.{same_front, some_octets}
use Rattle.asn1_schema.proofs.Depths.{unless, where_memory}
use Rattle.asn1_schema.proofs.Taken.{lawful_of}
use Rattle.asn1_schema.proofs.ClosedRows.{marks_append, set_mark}

pub joined_append : {A : Type 0} (xs ys : List (List A)) → joined (xs ++ ys) ≡ joined xs ++ joined ys
joined_append [] ys = refl
joined_append {A} (x ∷ xs) ys =
    ap (λ (z : List A). x ++ z) (joined_append xs ys) ∙ sym (append_assoc x (joined xs) (joined ys))

-- What strings of a sort have in common.
module _ (e : Coding) where
  one_content : (s : Sort) → HasOneContent (string_of e s)
  one_content sorts.Octets = one_octets
  one_content (sorts.Text kind) = one_octets
  one_content (sorts.Time kind) = one_octets
  one_content sorts.Bits = one_bits (rules_of e)

  none_whole : (s : Sort) → (string_of e s).Whole []
  none_whole sorts.Octets = tt
  none_whole (sorts.Text kind) = tt
  none_whole (sorts.Time kind) = tt
  none_whole sorts.Bits = omega arith

  -- others may follow pieces where they may follow the last one
  whole_more : (s : Sort) (xs ys : List (Elem s)) → (string_of e s).Whole xs →
      (string_of e s).Whole (xs ++ ys) ↔ (string_of e s).Whole ys
  whole_more sorts.Octets xs ys w = (λ a. tt, λ a. tt)
  whole_more (sorts.Text kind) xs ys w = (λ a. tt, λ a. tt)
  whole_more (sorts.Time kind) xs ys w = (λ a. tt, λ a. tt)
  whole_more sorts.Bits xs ys w =
      let l = length-append xs ys in
      (λ a. omega (arith, l, w, a), λ a. omega (arith, l, w, a))

-- A string.
module _ (R : Rules) {A : Type 0} (S : StringOf A) where
  pub string_primitive : (depth : ℕ) (p : Parts) (xs : List A) → depth ≢ 0 → p.id.constructed ≡ false →
      S.Content p.content xs → IsString R S depth p xs
  string_primitive zero p xs some c a = absurd (some refl)
  string_primitive (suc depth) p xs some c a = inl (c, a)

  pub string_content : (depth : ℕ) (p : Parts) (xs : List A) → p.id.constructed ≡ false → IsString R S depth p xs →
      S.Content p.content xs
  string_content zero p xs c a = absurd a
  string_content (suc depth) p xs c (inl a) = a.1
  string_content (suc depth) p xs c (inr a) = absurd (let f = a.1 in cc)

  pub string_none : (depth : ℕ) (p : Parts) (xs : List A) → depth ≡ 0 → IsString R S depth p xs → ⊥
  string_none zero p xs e a = a
  string_none (suc depth) p xs e a = absurd (omega arith)

module _ (e : Coding) {A : Type 0} (S : StringOf A) where
  pub string_pieces : (depth : ℕ) (p : Parts) (xs : List A) → depth ≢ 0 → (rules_of e).in_pieces ≡ true →
      p.id.constructed ≡ true → ArePieces e S (depth - 1) p.content xs → IsString (rules_of e) S depth p xs
  string_pieces zero p xs some i c a = absurd (some refl)
  string_pieces (suc depth) p xs some i c a =
      let z : suc depth - 1 ≡ depth = omega arith in
      let b = subst (λ (d : ℕ). ArePieces e S d p.content xs) z a in
      inr (i, c, b.0, b.1, b.2, b.3)

  pub pieces_of_string : (depth : ℕ) (p : Parts) (xs : List A) → p.id.constructed ≡ true →
      IsString (rules_of e) S depth p xs →
      ((rules_of e).in_pieces ≡ true) × ArePieces e S (depth - 1) p.content xs
  pieces_of_string zero p xs c a = absurd a
  pieces_of_string (suc depth) p xs c (inl a) = absurd (let f = a.0 in cc)
  pieces_of_string (suc depth) p xs c (inr a) =
      let z : depth ≡ suc depth - 1 = omega arith in
      (a.0, subst (λ (d : ℕ). ArePieces e S d p.content xs) z (a.2, a.3, a.4, a.5))

-- by DER no string is constructed
pub none_by_der : (e : Coding) {A : Type 0} (S : StringOf A) (depth : ℕ) (p : Parts) (xs : List A) → e ≡ codings.Der →
    p.id.constructed ≡ true → IsString (rules_of e) S depth p xs → ⊥
none_by_der e S depth p xs is c a =
    let some = (pieces_of_string e S depth p xs c a).0 in
    let none : (rules_of e).in_pieces ≡ false = ap (λ (z : Coding). (rules_of z).in_pieces) is in
    absurd (cc)

-- pieces join to one string
pub one_string : (max : ℕ) (s : Sort) (depth : ℕ) (content : List ℕ) (xs ys : List (Elem s)) →
    ArePieces (codings.Ber max) (string_of (codings.Ber max) s) depth content xs →
    ArePieces (codings.Ber max) (string_of (codings.Ber max) s) depth content ys → xs ≡ ys
one_string max s depth content xs ys a b =
    string_one (rules_of (codings.Ber max)) (lawful_of (codings.Ber max)) (string_of (codings.Ber max) s)
    (one_content (codings.Ber max) s) (suc depth)
    (record { id = record { class = 0; constructed = true; number = 0 }; form = indefinite; content = content }) xs ys
    (inr (refl, refl, a.0, a.1, a.2, a.3)) (inr (refl, refl, b.0, b.1, b.2, b.3))

-- What is read as pieces.
module _ (e : Coding) (s : Sort) where
  -- what is read as the one is read as the other
  pub pieces_map : (P Q : List (Elem s) → Type 0) → ((xs : List (Elem s)) → P xs → Q xs) →
      ((xs : List (Elem s)) → Q xs → P xs) → (old new : List Item) (r : Result Bool Fault) →
      ReadsPieces e s P old new r → ReadsPieces e s Q old new r
  pieces_map P Q f g old new (Ok x) a =
      record { pieces = a.pieces; holds = f (joined a.pieces) a.holds; is = a.is; whole = a.whole }
  pieces_map P Q f g old new (Err x) a =
      unless x ((xs : List (Elem s)) → P xs → ⊥) ((xs : List (Elem s)) → Q xs → ⊥) (λ n xs q. n xs (g xs q)) a

  -- one piece
  pub piece_put : (P : List (Elem s) → Type 0) (octets : List ℕ) (item : Item) (follow : Bool) (old new : List Item) →
      (a : SaysPiece e s octets item follow) → P a.said → marks new ≡ marks old ++ mark item ∷ [] →
      PutsPieces e s P follow old new
  piece_put P octets item follow old new a h put = record {
    pieces = a.said ∷ [];
    holds = subst P (sym (append-nil a.said)) h;
    is = put ∙ ap (λ (m : Mark). marks old ++ m ∷ []) a.is;
    whole = subst (λ (xs : List (Elem s)). IsTrue follow ↔ (string_of e s).Whole xs) (sym (append-nil a.said)) a.whole;
  }

  pub piece_unput : (P : List (Elem s) → Type 0) (old new : List Item) (f : Fault) → f ≡ faults.Memory →
      ReadsPieces e s P old new (Err f)
  piece_unput P old new f is = where_memory f ((xs : List (Elem s)) → P xs → ⊥) is

  -- Some pieces were put on the tape. Others follow only where they may.
  pub record PiecesSoFar (Now All : List (Elem s) → Type 0) (rest : List ℕ) (follow : Bool) (old new : List Item) : Type 0 where
    pub done : List (List (Elem s))
    pub is : marks new ≡ marks old ++ map (piece_mark s) done
    pub whole : IsTrue follow ↔ (string_of e s).Whole (joined done)
    pub onward : (xs : List (Elem s)) → Now xs → IsTrue follow ⊎ (rest ≡ []) → All (joined done ++ xs)
    pub back : (xs : List (Elem s)) → All xs → (ys : List (Elem s)) × Now ys × (IsTrue follow ⊎ (rest ≡ []))

  pub no_piece_yet : (All : List (Elem s) → Type 0) (rest : List ℕ) (old : List Item) →
      PiecesSoFar All All rest true old old
  no_piece_yet All rest old = record {
    done = [];
    is = sym (append-nil (marks old));
    whole = (λ a. none_whole e s, λ a. refl);
    onward = λ xs a f. a;
    back = λ xs a. (xs, a, inl refl);
  }

module _ (e : Coding) (s : Sort) (depth : ℕ) (All : List (Elem s) → Type 0) (rest : List ℕ) (follow : Bool)
    (old mid : List Item) (so : PiecesSoFar e s (ArePieces e (string_of e s) depth rest) All rest follow old mid) where
  lawful : AreLawfulRules (rules_of e)
  lawful = lawful_of e

  -- a piece has one value
  same_piece : (p : Parts) (xs ys : List (Elem s)) → IsPiece e (string_of e s) depth p xs →
      IsPiece e (string_of e s) depth p ys → xs ≡ ys
  same_piece p xs ys a b = string_one (rules_of e) lawful (string_of e s) (one_content e s) depth p xs ys a.1 b.1

  -- others may not follow where octets are left
  pub none_follows : (rest ≡ [] → ⊥) → (IsTrue follow → ⊥) → (xs : List (Elem s)) → All xs → ⊥
  none_follows some last xs a = elim (so.back xs a).2 [ inl f ↦ last f | inr f ↦ some f ]

  -- one more
  pub piece_more : (tail : List ℕ) (p : Parts) (next : Bool) (new : List Item) → IsTrue follow →
      HasPrefix (rules_of e).ElementOf rest p tail → PutsPieces e s (IsPiece e (string_of e s) depth p) next mid new →
      PiecesSoFar e s (ArePieces e (string_of e s) depth tail) All tail next old new
  piece_more tail p next new may f a = record {
    done = so.done ++ a.pieces;
    is = (a.is ∙ ap (λ (z : List Mark). z ++ map (piece_mark s) a.pieces) so.is) ∙ (append_assoc (marks old)
        (map (piece_mark s) so.done) (map (piece_mark s) a.pieces) ∙
        ap (λ (z : List Mark). marks old ++ z) (sym (map-append (piece_mark s) so.done a.pieces)));
    whole =
        let w = whole_more e s (joined so.done) (joined a.pieces) (so.whole.0 may) in
        let j = joined_append so.done a.pieces in (
          λ n. subst (string_of e s).Whole (sym j) (w.1 (a.whole.0 n)),
          λ n. a.whole.1 (w.0 (subst (string_of e s).Whole j n)),
        );
    onward = λ xs b g. subst All (sym (ap (λ (z : List (Elem s)). z ++ xs) (joined_append so.done a.pieces)
        ∙ append_assoc (joined so.done) (joined a.pieces) xs))
        (so.onward (joined a.pieces ++ xs) (
          joined a.pieces ∷ b.0,
          ap (λ (z : List (Elem s)). joined a.pieces ++ z) b.1,
          in_front b.0 b.2 b.3 g,
          (f.word, tail, record { parts = p; element = f.fits; value = a.holds }, f.is, b.3),
        ) (inl may));
    back = λ xs b. let c = so.back xs b in by_pieces c.1.0 c.1.2 c.1.3;
  }
    where
      in_front : (pieces : List (List (Elem s))) → AllButLast (string_of e s).Whole pieces →
          IsConcatenation (Says (rules_of e) (IsPiece e (string_of e s) depth)) tail pieces → IsTrue next ⊎ (tail ≡ []) →
          AllButLast (string_of e s).Whole (joined a.pieces ∷ pieces)
      in_front [] w j g = tt
      in_front (y ∷ ys) w j (inl n) = (a.whole.0 n, w)
      in_front (y ∷ ys) w j (inr z) =
          absurd (some_octets (rules_of e) lawful j.0 j.1 j.2.parts j.2.element (sym j.3 ∙ z))

      by_pieces : (pieces : List (List (Elem s))) → AllButLast (string_of e s).Whole pieces →
          IsConcatenation (Says (rules_of e) (IsPiece e (string_of e s) depth)) rest pieces →
          (ys : List (Elem s)) × ArePieces e (string_of e s) depth tail ys × (IsTrue next ⊎ (tail ≡ []))
      by_pieces [] w c = absurd (some_octets (rules_of e) lawful f.word tail p f.fits (sym f.is ∙ c))
      by_pieces (x ∷ []) w c =
          let u = same_front (rules_of e) lawful rest c.0 f.word c.1 tail c.2.parts p c.2.element f.fits c.3 f.is in
          let ended : tail ≡ [] = sym u.1 ∙ c.4 in
          ([], ([], refl, tt, ended), inr ended)
      by_pieces (x ∷ y ∷ ys) w c =
          let u = same_front (rules_of e) lawful rest c.0 f.word c.1 tail c.2.parts p c.2.element f.fits c.3 f.is in
          let here = subst (λ (z : Parts). IsPiece e (string_of e s) depth z x) u.0 c.2.value in
          let same = same_piece p x (joined a.pieces) here a.holds in (
            joined (y ∷ ys),
            (
              y ∷ ys,
              refl,
              w.1,
              subst (λ (z : List ℕ). IsConcatenation (Says (rules_of e) (IsPiece e (string_of e s) depth)) z (y ∷ ys)) u.1 c.4,
            ),
            inl (a.whole.1 (subst (string_of e s).Whole same w.0)),
          )

  pub piece_refused : (tail : List ℕ) (p : Parts) (new : List Item) (x : Fault) →
      (rest ≡ [] → ⊥) → HasPrefix (rules_of e).ElementOf rest p tail →
      ReadsPieces e s (IsPiece e (string_of e s) depth p) mid new (Err x) → ReadsPieces e s All old new (Err x)
  piece_refused tail p new x some f a =
      unless x ((xs : List (Elem s)) → IsPiece e (string_of e s) depth p xs → ⊥) ((xs : List (Elem s)) → All xs → ⊥)
      (λ n xs b. let c = so.back xs b in by_pieces n c.1.0 c.1.3) a
    where
      by_pieces : ((xs : List (Elem s)) → IsPiece e (string_of e s) depth p xs → ⊥) → (pieces : List (List (Elem s))) →
          IsConcatenation (Says (rules_of e) (IsPiece e (string_of e s) depth)) rest pieces → ⊥
      by_pieces n [] c = some c
      by_pieces n (x ∷ pieces) c =
          let u = same_front (rules_of e) lawful rest c.0 f.word c.1 tail c.2.parts p c.2.element f.fits c.3 f.is in
          n x (subst (λ (z : Parts). IsPiece e (string_of e s) depth z x) u.0 c.2.value)

  pub no_piece : (rest ≡ [] → ⊥) → NoPrefix (rules_of e).ElementOf rest → (xs : List (Elem s)) → All xs → ⊥
  no_piece some n xs b = let c = so.back xs b in by_pieces c.1.0 c.1.3
    where
      by_pieces : (pieces : List (List (Elem s))) →
          IsConcatenation (Says (rules_of e) (IsPiece e (string_of e s) depth)) rest pieces → ⊥
      by_pieces [] c = some c
      by_pieces (x ∷ pieces) c = n c.0 c.1 c.2.parts c.3 c.2.element

  pub pieces_done : rest ≡ [] → PutsPieces e s All follow old mid
  pieces_done over = record {
    pieces = so.done;
    holds = subst All (append-nil (joined so.done)) (so.onward [] ([], refl, tt, over) (inr over));
    is = so.is;
    whole = so.whole;
  }

-- Pieces are closed.
kept_of : (s : Sort) → List (Elem s) → List (List (Elem s)) → Kept
kept_of sorts.Octets o os = kept_string sort_of_octets o os
kept_of (sorts.Text kind) o os = kept_string (of_text kind) o os
kept_of (sorts.Time kind) o os = kept_string (of_time kind) o os
kept_of sorts.Bits b bs = kept_bits b bs

unfolding_kept : (s : Sort) (x : List (Elem s)) (xs : List (List (Elem s))) →
    (value_of (kept_of s x xs) ≡ leaf (leaf_of s (joined (x ∷ xs)))) × (tape_of (kept_of s x xs) ≡ pieces (leaf_of s) x xs)
unfolding kept_of
unfolding_kept sorts.Octets o os = (refl, refl)
unfolding_kept (sorts.Text kind) o os = (refl, refl)
unfolding_kept (sorts.Time kind) o os = (refl, refl)
unfolding_kept sorts.Bits b bs = (refl, refl)

pub none_closed : (s : Sort) (xs ys : List Item) (front : List Mark) (os : List (List (Elem s))) (place : ℕ) (x : Item) →
    marks xs ≡ front ++ pieces_mark 0 ∷ map (piece_mark s) os → place ≡ length front → (length xs - place) - 1 ≡ 0 →
    mark x ≡ piece_mark s [] → ys ≡ slice_set xs place x → ClosesPieces s os front ys
none_closed s xs ys front os place x e p c m y =
    let l = sym (length-map xs mark) ∙ (ap length e ∙ length-append front (pieces_mark 0 ∷ map (piece_mark s) os)) in
    let n = length-map os (piece_mark s) in
    by_pieces os e (omega (arith, l, n, p, c))
  where
    by_pieces : (os : List (List (Elem s))) → marks xs ≡ front ++ pieces_mark 0 ∷ map (piece_mark s) os → length os ≡ 0 →
        ClosesPieces s os front ys
    by_pieces [] e z = record {
      kept = kept_leaf (leaf_of s []);
      value = refl;
      is = ap marks y ∙ (set_mark xs front [] (pieces_mark 0) x place p e ∙ ap (λ (k : Mark). front ++ k ∷ []) m);
    }
    by_pieces (o ∷ os) e z = absurd (omega (arith, z))

pub some_closed : (s : Sort) (xs ys : List Item) (front : List Mark) (os : List (List (Elem s))) (place count : ℕ) →
    marks xs ≡ front ++ pieces_mark 0 ∷ map (piece_mark s) os → place ≡ length front → count ≡ (length xs - place) - 1 →
    (count ≡ 0 → ⊥) → ys ≡ xs ++ items.PiecesEnd count ∷ [] →
    ClosesPieces s os front (slice_set ys place (items.Pieces count))
some_closed s xs ys front [] place count e p c some y =
    let l = sym (length-map xs mark) ∙ (ap length e ∙ length-append front (pieces_mark 0 ∷ [])) in
    absurd (some (omega (arith, l, p, c)))
some_closed s xs ys front (o ∷ os) place count e p c some y =
    let l = sym (length-map xs mark) ∙ (ap length e ∙ length-append front (pieces_mark 0 ∷ map (piece_mark s) (o ∷ os))) in
    let m = length-map (o ∷ os) (piece_mark s) in
    let n : count ≡ suc (length os) = omega (arith, l, m, p, c) in
    let all : marks ys ≡ front ++ pieces_mark 0 ∷ (map (piece_mark s) (o ∷ os) ++ pieces_end_mark count ∷ []) =
    ap marks y ∙ (marks_append xs (items.PiecesEnd count ∷ []) ∙ (ap (λ (z : List Mark). z ++ pieces_end_mark count ∷ []) e
    ∙ append_assoc front (pieces_mark 0 ∷ map (piece_mark s) (o ∷ os)) (pieces_end_mark count ∷ []))) in
    let k = unfolding_kept s o os in
    record {
      kept = kept_of s o os;
      value = k.0;
      is = set_mark ys front (map (piece_mark s) (o ∷ os) ++ pieces_end_mark count ∷ []) (pieces_mark 0) (items.Pieces count) place p all
          ∙ ap (λ (k : ℕ). front ++ between (pieces_mark k) (map (piece_mark s) (o ∷ os)) (pieces_end_mark k)) n
          ∙ ap (λ (ms : List Mark). front ++ ms) (sym k.1);
    }

-- a string in pieces is a value
pub closed_read : (s : Sort) (P : Value → Type 0) (Q : List (Elem s) → Type 0) →
    ((xs : List (Elem s)) → Q xs → P (leaf (leaf_of s xs))) →
    (old mid made new : List Item) (r : Result (Unit {0}) Fault) → marks mid ≡ marks old ++ pieces_mark 0 ∷ [] →
    (os : List (List (Elem s))) → Q (joined os) → marks made ≡ marks mid ++ map (piece_mark s) os →
    ((front : List Mark) (os : List (List (Elem s))) →
    marks made ≡ front ++ pieces_mark 0 ∷ map (piece_mark s) os → length (marks old) ≡ length front →
    OnOk r (ClosesPieces s os front new)) → IfErr r (λ f. f ≡ faults.Memory) → ReadsValue P old new r
closed_read s P Q up old mid made new (Ok x) opened os holds is closed err =
    let c = closed (marks old) os ((is ∙ ap (λ (z : List Mark). z ++ map (piece_mark s) os) opened)
    ∙ append_assoc (marks old) (pieces_mark 0 ∷ []) (map (piece_mark s) os)) refl in
    record { kept = c.kept; holds = subst P (sym c.value) (up (joined os) holds); is = c.is }
closed_read s P Q up old mid made new (Err e) opened os holds is closed err =
    where_memory e ((v : Value) → P v → ⊥) err

pub pieces_refused : (e : Coding) (s : Sort) (T : Type 0) (P : Value → Type 0) (Q : List (Elem s) → Type 0) →
    ((v : Value) → P v → (xs : List (Elem s)) × Q xs) → (old mid made new : List Item) (x : Fault) →
    ReadsPieces e s Q mid made (Err x) → ReadsValue {T = T} P old new (Err x)
pieces_refused e s T P Q down old mid made new x a =
    unless x ((xs : List (Elem s)) → Q xs → ⊥) ((v : Value) → P v → ⊥) (λ n v b. let o = down v b in n o.0 o.1) a

pub place_of_pieces : (s : Sort) (old mid made : List Item) (os : List (List (Elem s))) (place : ℕ) → place ≡ length old →
    marks mid ≡ marks old ++ pieces_mark 0 ∷ [] → marks made ≡ marks mid ++ map (piece_mark s) os → place < length made
place_of_pieces s old mid made os place at opened is =
    let l = ap length is ∙ length-append (marks mid) (map (piece_mark s) os) in
    let m = ap length opened ∙ length-append (marks old) (pieces_mark 0 ∷ []) in
    omega (arith, l, m, at, length-map old mark, length-map made mark, length-map mid mark)

pub place_behind : (old mid : List Item) (place : ℕ) → place ≡ length old →
    marks mid ≡ marks old ++ pieces_mark 0 ∷ [] → place + 1 ≡ length (marks mid)
place_behind old mid place at opened =
    let l = ap length opened ∙ length-append (marks old) (pieces_mark 0 ∷ []) in
    omega (arith, l, at, length-map old mark)

-- the pieces stand behind the place where they begin
pub pieces_behind : (s : Sort) (old mid made : List Item) (os : List (List (Elem s))) (place : ℕ) → place ≡ length old →
    marks mid ≡ marks old ++ pieces_mark 0 ∷ [] → marks made ≡ marks mid ++ map (piece_mark s) os →
    marks (take (length made - (place + 1)) (drop (place + 1) made)) ≡ map (piece_mark s) os
pieces_behind s old mid made os place at opened is =
    let m = sym (place_behind old mid place at opened) in
    let d = length-drop (place + 1) made in
    ap marks (take_all (length made - (place + 1)) (drop (place + 1) made) (omega (arith, d)))
    ∙ sym (drop-map mark (place + 1) made) ∙ ap (λ (ms : List Mark). drop (place + 1) ms) is
    ∙ drop_at (marks mid) (map (piece_mark s) os) (place + 1) m

pub pieces_allowed : (e : Coding) (max : ℕ) → e ≡ codings.Ber max → (rules_of e).in_pieces ≡ true
pieces_allowed e max is = subst (λ (z : Coding). (rules_of z).in_pieces ≡ true) (sym is) refl
