-- Bits at the end of a tape, in one piece and in several.
use Rattle.std.proofs.Common.{◌≡◌, ◌∙◌, ap, sym, subst, refl, ℕ, zero, suc, ◌+◌, ◌-◌, ◌*◌, ◌^◌, ◌/◌, ◌%◌, ◌<◌, ◌≤◌, inl, inr, Bool, true, false, List, [], ◌∷◌, ◌++◌, append_assoc, append-nil, length, length-append, arith}
use Rattle.std.specs.Prelude.{◌⊎◌, map, replicate, Some, Result, Ok, Err, OnOk, IfErr}
use Rattle.std.proofs.lemmas.List.{length-replicate}
use Rattle.std.proofs.lemmas.Nat.{pow-add}
use Rattle.x690.specs.Octets.{IsOctets}
use Rattle.x690.specs.Laws.Octets.{below_octets, octets_append}
use Rattle.asn1_schema.specs.declared.fault.Fault.{Fault}
use Rattle.asn1_schema.specs.declared.fault.Fault.TheVariants as faults
use Rattle.asn1_schema.specs.declared.put_bits.Pending.{Pending}
use Rattle.asn1_schema.specs.declared.schema.Node.{Node}
use Rattle.asn1_schema.specs.declared.schema.Kind.TheVariants as kinds
use Rattle.asn1_schema.specs.declared.tape.Item.{Item}
use Rattle.asn1_schema.specs.Values.{bits, Value, leaf, joined}
use Rattle.asn1_schema.specs.Grammar.{digits_2, bits_in, trimmed, IsBitContent}
use Rattle.asn1_schema.specs.Bits.{used_bits, first_bits}
use Rattle.asn1_schema.specs.Rules.{strict, der}
use Rattle.asn1_schema.specs.Tape.{of_octets, of_text, of_time, pieces, Kept, kept_leaf, kept_string, kept_bits, kept_row, kept_chosen, Mark, leaf_mark, pieces_end_mark, tape_of, value_of}
use Rattle.asn1_schema.specs.Writing.{before, NoneAtEnd, WritingAnswers, Writes, IsContentOfKind, IsPlainBits, TakesPieces, NoPieces, BeginPieces, Pushes, PushesBits, IsPending, pending_bits, LeavesUnused, JoinsBits, PutsBitPieces}
use Rattle.asn1_schema.proofs.SameParts.{same_parts, same_last}
use Rattle.asn1_schema.proofs.OneTape.{one_tape_back}
use Rattle.asn1_schema.proofs.BitContents.{digits_length, bits_length}
use Rattle.asn1_schema.proofs.BitsTaken.{bits_taken}
use Rattle.asn1_schema.proofs.UnusedBits.{bits_append}
use Rattle.asn1_schema.proofs.TruncatedTapes.{before_truncated}
use Rattle.asn1_schema.proofs.WrittenLeaves.{grew_on}
use Rattle.asn1_schema.proofs.WrittenStrings.{pieces_closed, one_piece_more}
use Rattle.asn1_schema.proofs.DigitsJoined.{digits_joined, less_joined, front_small, front_digits, zero_digits, one_octet_bits}

-- Bits in front of others.

module _ (xs ys : List Bool) (p q r : Pending) (old mid new : List ℕ) (a : PushesBits xs p old mid q) where
  pub pushed_on : PushesBits ys q mid new r → PushesBits (ys ++ xs) p old new r
  pushed_on b = record {
    octets = b.octets ++ a.octets;
    are_octets = octets_append b.octets a.octets b.are_octets a.are_octets;
    put = b.put ∙ (ap (λ (z : List ℕ). b.octets ++ z) a.put ∙ sym (append_assoc b.octets a.octets old));
    said = ap (λ (z : List Bool). pending_bits r ++ z) (bits_append b.octets a.octets)
        ∙ (sym (append_assoc (pending_bits r) (bits_in b.octets) (bits_in a.octets))
        ∙ (ap (λ (z : List Bool). z ++ bits_in a.octets) b.said
        ∙ (append_assoc ys (pending_bits q) (bits_in a.octets)
        ∙ (ap (λ (z : List Bool). ys ++ z) a.said ∙ sym (append_assoc ys xs (pending_bits p))))));
    pending = b.pending;
  }

pub pushed_more : (xs ys : List Bool) (p q : Pending) (old mid new : List ℕ) (r : Result Pending Fault) →
    PushesBits xs p old mid q → Pushes ys q mid new r → Pushes (ys ++ xs) p old new r
pushed_more xs ys p q old mid new (Ok n) a b = pushed_on xs ys p q n old mid new a b
pushed_more xs ys p q old mid new (Err e) a b = (b.0, grew_on old mid new (a.octets, a.put) b.1)

-- the number that an octet makes of what is pending
module _ (p : Pending) (skip octet : ℕ) (few : skip ≤ 7) (low : octet < 256) (is : IsPending p) where
  abbrev number : ℕ
  number = p.number + (octet / 2 ^ skip) * 2 ^ p.count

  said : digits_2 ((8 - skip) + p.count) number ≡ first_bits skip octet ++ pending_bits p
  said = digits_joined (8 - skip) p.count p.number (octet / 2 ^ skip) is.1
      ∙ ap (λ (z : List Bool). z ++ pending_bits p) (sym (front_digits skip octet few))

  small : number < 2 ^ ((8 - skip) + p.count)
  small = less_joined (8 - skip) p.count p.number (octet / 2 ^ skip) is.1 (front_small skip octet few low)

  pub octet_pending : (old : List ℕ) (q : Pending) → q.number ≡ number → q.count ≡ p.count + (8 - skip) → q.count < 8 →
      PushesBits (first_bits skip octet) p old old q
  octet_pending old q n c l =
      let width : q.count ≡ (8 - skip) + p.count = omega (arith, c) in
      record {
        octets = [];
        are_octets = below_octets [] tt;
        put = refl;
        said = append-nil (digits_2 q.count q.number) ∙ (ap (λ (z : ℕ). digits_2 z q.number) width
            ∙ (ap (digits_2 ((8 - skip) + p.count)) n ∙ said));
        pending = (
          omega (arith, l),
          subst (λ (z : ℕ). q.number < 2 ^ z) (sym width) (subst (λ (z : ℕ). z < 2 ^ ((8 - skip) + p.count)) (sym n) small),
        );
      }

  pub octet_filled : (old new : List ℕ) (q : Pending) (o : ℕ) → IsOctets (o ∷ []) → o ≡ number % 256 →
      q.number ≡ number / 256 → q.count ≡ p.count + (8 - skip) - 8 → 8 ≤ p.count + (8 - skip) → new ≡ (o ∷ []) ++ old →
      PushesBits (first_bits skip octet) p old new q
  octet_filled old new q o b is_low n c l put =
      let small = small in
      let few = is.0 in
      let width : q.count + 8 ≡ (8 - skip) + p.count = omega (arith, c, l) in
      let whole : o + q.number * 2 ^ 8 ≡ number = omega (arith, is_low, n) in
      let rest : o < 2 ^ 8 = omega (arith, is_low) in
      let power = pow-add 2 q.count 8 in
      let power' : 2 ^ ((8 - skip) + p.count) ≡ 2 ^ (q.count + 8) = ap (λ (z : ℕ). 2 ^ z) (sym width) in
      record {
        octets = o ∷ [];
        are_octets = b;
        put = put;
        said = ap (λ (z : List Bool). digits_2 q.count q.number ++ z) (one_octet_bits o)
            ∙ (sym (digits_joined q.count 8 o q.number rest)
            ∙ (ap (digits_2 (q.count + 8)) whole ∙ (ap (λ (z : ℕ). digits_2 z number) width ∙ said)));
        pending = (omega (arith, c, few), omega (arith, n, small, power, power'));
      }

-- nothing is pushed
pub none_pushed : (p : Pending) (old : List ℕ) → IsPending p → PushesBits [] p old old p
none_pushed p old is = record {
  octets = [];
  are_octets = below_octets [] tt;
  put = refl;
  said = append-nil (pending_bits p);
  pending = is;
}

-- one piece more is pushed
pub piece_joined : (tape : List Item) (rest end : ℕ) (p q r : Pending) (old mid new : List ℕ) (x : List Bool) →
    JoinsBits tape rest end p old mid q →
    (0 < rest) × (before tape rest ≡ before tape (rest - 1) ++ leaf_mark (bits x) ∷ []) → PushesBits x q mid new r →
    JoinsBits tape (rest - 1) end p old new r
piece_joined tape rest end p q r old mid new x j e b = record {
  pieces = x ∷ j.pieces;
  puts = one_piece_more bits tape rest end j.pieces x j.puts e;
  pushes = pushed_on (joined j.pieces) x p q r old mid new j.pushes b;
}

-- how many bits are unused behind one piece more
pub unused_more : (tape : List Item) (rest end unused skip zeros : ℕ) (used all : List ℕ) →
    LeavesUnused tape rest end unused →
    (0 < rest) × (before tape rest ≡ before tape (rest - 1) ++ leaf_mark (bits (used_bits zeros all)) ∷ []) →
    used_bits skip used ≡ used_bits zeros all → skip ≤ 8 * length used →
    LeavesUnused tape (rest - 1) end ((unused + skip) % 8)
unused_more tape rest end unused skip zeros used all s e same l =
    let x = used_bits zeros all in
    let size = ap length (sym same) ∙ bits_taken used skip in
    let sum = length-append x (joined s.pieces) in
    let w = s.whole in
    record {
      pieces = x ∷ s.pieces;
      puts = one_piece_more bits tape rest end s.pieces x s.puts e;
      few = omega arith;
      whole = omega (arith, size, sum, w, l);
    }

-- pieces with one row of marks are the same
pub same_pieces : (xs ys : List (List Bool)) → map (λ y. leaf_mark (bits y)) xs ≡ map (λ y. leaf_mark (bits y)) ys → xs ≡ ys
same_pieces [] [] e = refl
same_pieces [] (y ∷ ys) e = absurd (cc)
same_pieces (x ∷ xs) [] e = absurd (cc)
same_pieces (x ∷ xs) (y ∷ ys) e =
    let first : x ≡ y = cc in
    let rest : map (λ y. leaf_mark (bits y)) xs ≡ map (λ y. leaf_mark (bits y)) ys = cc in
    let others = same_pieces xs ys rest in
    cc

no_digits : (c n : ℕ) → c ≡ 0 → digits_2 c n ≡ []
no_digits zero n e = refl
no_digits (suc c) n e = absurd (omega (arith, e))

-- contents octets of bits that fill their octets
pub content_filled : (bs : List Bool) (p q : Pending) (old mid : List ℕ) → p.number ≡ 0 → p.count ≤ 7 →
    (length bs + p.count) % 8 ≡ 0 → (s : PushesBits bs p old mid q) → IsBitContent strict (p.count ∷ s.octets) bs
content_filled bs p q old mid z few whole s =
    let a = ap length s.said ∙ length-append bs (pending_bits p) in
    let b = length-append (pending_bits q) (bits_in s.octets) in
    let c = digits_length q.count q.number in
    let d = digits_length p.count p.number in
    let e = bits_length s.octets in
    let most = s.pending.0 in
    let none : q.count ≡ 0 = omega (arith, a, b, c, d, e, most, whole) in
    let size = length-replicate p.count false in
    record {
      unused = replicate p.count false;
      octets = s.octets;
      are_octets = s.are_octets;
      few = omega (arith, size, few);
      is = ap (λ (n : ℕ). n ∷ s.octets) (sym size);
      bits = ap (λ (x : List Bool). x ++ bits_in s.octets) (sym (no_digits q.count q.number none))
          ∙ (s.said ∙ ap (λ (x : List Bool). bs ++ x) (ap (digits_2 p.count) z ∙ zero_digits p.count));
      allowed = ap (λ (n : ℕ). replicate n false) (sym size);
    }

pub bit_pieces_put : (tape : List Item) (start end : ℕ) (p q : Pending) (old mid new : List ℕ)
    (r : Result (Unit {0}) Fault) → LeavesUnused tape start end p.count → p.number ≡ 0 →
    JoinsBits tape start end p old mid q → OnOk r (new ≡ (p.count ∷ []) ++ mid) →
    IfErr r (λ e. (e ≡ faults.Memory) × (new ≡ mid)) → IsOctets (p.count ∷ []) →
    WritingAnswers (λ _. PutsBitPieces tape start end old new) (NoPieces bits tape start end) old new r
bit_pieces_put tape start end p q old mid new (Err e) u z j ok err b = (
  λ is. absurd (is err.0),
  (j.pushes.octets, err.1 ∙ j.pushes.put),
)
bit_pieces_put tape start end p q old mid new (Ok x) u z j ok err b =
    let same = same_pieces u.pieces j.pieces (same_parts (before tape start) (before tape start)
    (map (λ y. leaf_mark (bits y)) u.pieces) (map (λ y. leaf_mark (bits y)) j.pieces) refl
    (sym u.puts.taken ∙ j.puts.taken)).1 in
    let whole = subst (λ (z : List (List Bool)). (length (joined z) + p.count) % 8 ≡ 0) same u.whole in
    record {
      pieces = j.pieces;
      puts = j.puts;
      content = p.count ∷ j.pushes.octets;
      are_octets = octets_append (p.count ∷ []) j.pushes.octets b j.pushes.are_octets;
      said = content_filled (joined j.pieces) p q old mid z u.few whole j.pushes;
      put = ok ∙ ap (λ (z : List ℕ). p.count ∷ z) j.pushes.put;
    }

-- Bits as values.

pub bits_shape : (k : Kept) (bs : List Bool) → value_of k ≡ leaf (bits bs) →
    (k ≡ kept_leaf (bits bs)) ⊎
    ((x : List Bool) × (xs : List (List Bool)) × (k ≡ kept_bits x xs) × (bs ≡ joined (x ∷ xs)))
bits_shape (kept_leaf l) bs e = inl (cc)
bits_shape (kept_bits x xs) bs e = inr (x, xs, refl, cc)
bits_shape (kept_string of_octets x xs) bs e = absurd (cc)
bits_shape (kept_string (of_text j) x xs) bs e = absurd (cc)
bits_shape (kept_string (of_time j) x xs) bs e = absurd (cc)
bits_shape (kept_row ks) bs e = absurd (cc)
bits_shape (kept_chosen k v) bs e = absurd (cc)

pub no_bits : (tape : List Mark) → ((bs : List Bool) (r : List Mark) → tape ≡ r ++ leaf_mark (bits bs) ∷ [] → ⊥) →
    ((x : List Bool) (xs : List (List Bool)) (r : List Mark) → tape ≡ r ++ pieces bits x xs → ⊥) →
    NoneAtEnd IsPlainBits tape
no_bits tape no_leaf none word kept rest h e = elim (bits_shape kept h.0 h.1) [
  | inl k ↦ no_leaf h.0 rest (e ∙ ap (λ (z : Kept). rest ++ tape_of z) k)
  | inr k ↦ none k.0 k.1 rest (e ∙ ap (λ (z : Kept). rest ++ tape_of z) k.2)
]

pub end_is_no_bits : (tape r : List Mark) (count : ℕ) → tape ≡ r ++ pieces_end_mark count ∷ [] →
    (bs : List Bool) (q : List Mark) → tape ≡ q ++ leaf_mark (bits bs) ∷ [] → ⊥
end_is_no_bits tape r count e bs q f =
    let u = (same_last r q (pieces_end_mark count) (leaf_mark (bits bs)) (sym e ∙ f)).1 in
    absurd (cc)

pub nothing_ends : (tape : List Item) (at : ℕ) → at ≡ 0 → (m : Mark) (r : List Mark) → before tape at ≡ r ++ m ∷ [] → ⊥
nothing_ends tape zero z m [] e = absurd (cc)
nothing_ends tape zero z m (x ∷ r) e = absurd (cc)
nothing_ends tape (suc n) z m r e = absurd (omega (arith, z))

-- bits in pieces are written
pub bits_written : (tape : List Item) (at count start : ℕ) (old new : List ℕ) → at ≤ length tape →
    before tape at ≡ before tape (at - 1) ++ pieces_end_mark count ∷ [] →
    BeginPieces tape count (at - 1) (Some start) → PutsBitPieces tape start (at - 1) old new →
    Writes IsPlainBits tape at old new (Ok (start - 1))
bits_written tape at count start old new fits last b j = by_pieces j.pieces j.puts j.said
  where
    by_pieces : (xs : List (List Bool)) → TakesPieces bits tape start (at - 1) xs → IsBitContent strict j.content (joined xs) →
        Writes IsPlainBits tape at old new (Ok (start - 1))
    by_pieces [] p s =
        let c = p.counted in
        let sum = b.2 in
        absurd (omega (arith, c, sum, b.1))
    by_pieces (x ∷ xs) p s = (
      omega (arith, p.within),
      record {
        word = j.content;
        kept = kept_bits x xs;
        are_octets = j.are_octets;
        holds = (joined (x ∷ xs), refl, s);
        taken = pieces_closed bits tape at count start x xs last b p;
        put = j.put;
      },
    )

-- and bits in one piece
pub bits_leaf_written : (tape : List Item) (at : ℕ) (old new : List ℕ) → 0 < at → PutsBitPieces tape (at - 1) at old new →
    Writes IsPlainBits tape at old new (Ok (at - 1))
bits_leaf_written tape at old new some j = by_pieces j.pieces j.puts j.said
  where
    by_pieces : (xs : List (List Bool)) → TakesPieces bits tape (at - 1) at xs → IsBitContent strict j.content (joined xs) →
        Writes IsPlainBits tape at old new (Ok (at - 1))
    by_pieces [] p s = let c = p.counted in absurd (omega (arith, c, some))
    by_pieces (x ∷ y ∷ ys) p s = let c = p.counted in absurd (omega (arith, c, some))
    by_pieces (x ∷ []) p s = (
      omega arith,
      record {
        word = j.content;
        kept = kept_leaf (bits x);
        are_octets = j.are_octets;
        holds = (x, refl, subst (λ (z : List Bool). IsBitContent strict j.content z) (append-nil x) s);
        taken = p.taken;
        put = j.put;
      },
    )

pub never_bits : (tape : List Item) (at : ℕ) → 0 < at → at ≤ length tape → NoPieces bits tape (at - 1) at →
    (bs : List Bool) (r : List Mark) → before tape at ≡ r ++ leaf_mark (bits bs) ∷ [] → ⊥
never_bits tape at some fits n bs r e =
    let f = before_truncated tape (at - 1) at r (leaf_mark (bits bs) ∷ []) fits e (omega (arith, some)) in
    n (bs ∷ []) (e ∙ ap (λ (z : List Mark). z ++ leaf_mark (bits bs) ∷ []) (sym f))

-- what contents octets of bits say
pub bits_said : (nodes : List Node) (depth : ℕ) (named : Bool) (o : List ℕ) (v : Value) →
    IsContentOfKind nodes depth (kinds.Bits named) o v →
    (bs : List Bool) × (v ≡ leaf (bits bs)) × IsBitContent strict o bs × (named ≡ true → trimmed bs ≡ bs)
bits_said nodes depth true o v (bs, is, inl c, t) =
    (bs, is ∙ ap (λ (z : List Bool). leaf (bits z)) (t refl), c.1, t)
bits_said nodes depth false o v (bs, is, inl c, t) = (bs, is, c.1, λ e. absurd (cc))
bits_said nodes depth named o v (bs, is, inr c, t) = absurd (let f = c.0 in cc)

-- the same by DER
pub der_bits : (c : List ℕ) (bs : List Bool) → IsBitContent strict c bs → IsBitContent der c bs
der_bits c bs h = record {
  unused = h.unused;
  octets = h.octets;
  are_octets = h.are_octets;
  few = h.few;
  is = h.is;
  bits = h.bits;
  allowed = h.allowed;
}

pub not_trimmed : (nodes : List Node) (depth : ℕ) (named : Bool) (tape : List Item) (at : ℕ) (old new : List ℕ) (rest : ℕ) →
    named ≡ true → Writes IsPlainBits tape at old new (Ok rest) →
    ((word : List ℕ) (bs : List Bool) → new ≡ word ++ old → IsBitContent strict word bs → trimmed bs ≡ bs → ⊥) →
    Writes (IsContentOfKind nodes depth (kinds.Bits named)) tape at old new (Err faults.Refused)
not_trimmed nodes depth named tape at old new rest n w a = (
  λ f word kept front h e.
      let t = one_tape_back kept w.1.kept front (before tape rest) (sym e ∙ w.1.taken) in
      let i = bits_said nodes depth named word (value_of kept) h in
      let same = same_bits i.0 w.1.holds.0 (sym i.1 ∙ (ap value_of t.0 ∙ w.1.holds.1)) in
      a w.1.word w.1.holds.0 w.1.put w.1.holds.2 (subst (λ (z : List Bool). trimmed z ≡ z) same (i.3 n)),
  (w.1.word, w.1.put),
)
  where
    same_bits : (x y : List Bool) → leaf (bits x) ≡ leaf (bits y) → x ≡ y
    same_bits x y e = cc

pub bits_stopped : (nodes : List Node) (depth : ℕ) (named : Bool) (tape : List Item) (at : ℕ) (old new : List ℕ) (e : Fault) →
    Writes IsPlainBits tape at old new (Err e) → Writes (IsContentOfKind nodes depth (kinds.Bits named)) tape at old new (Err e)
bits_stopped nodes depth named tape at old new e w = (
  λ is word kept front h f.
      let i = bits_said nodes depth named word (value_of kept) h in
      w.0 is word kept front (i.0, i.1, i.2) f,
  w.1,
)
