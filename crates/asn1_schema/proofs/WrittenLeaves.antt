-- What stands at the end of a tape is a leaf, and is written; or none is written.
use Rattle.std.proofs.Common.{◌≡◌, ◌∙◌, ap, sym, subst, refl, ℕ, ◌-◌, ◌<◌, true, List, [], ◌∷◌, ◌++◌, append_assoc, arith}
use Rattle.std.specs.Prelude.{Result, Ok, Err, MatchResult}
use Rattle.x690.specs.Octets.{IsOctets}
use Rattle.asn1_schema.specs.declared.fault.Fault.{Fault}
use Rattle.asn1_schema.specs.declared.fault.Fault.TheVariants as faults
use Rattle.asn1_schema.specs.declared.tape.Item.{Item}
use Rattle.asn1_schema.specs.Values.{LeafValue, Value, leaf}
use Rattle.asn1_schema.specs.Tape.{Kept, kept_leaf, Mark, leaf_mark, tape_of, value_of}
use Rattle.asn1_schema.specs.Writing.{before, Grew, NoneAtEnd, Writes}
use Rattle.asn1_schema.proofs.OneTape.{one_tape_back}
use Rattle.asn1_schema.proofs.LastMarks.{is_whole, whole_kept}

-- nothing was put in front
pub same_grew : (old : List ℕ) → Grew old old
same_grew old = ([], refl)

pub grew_on : (old mid new : List ℕ) → Grew old mid → Grew mid new → Grew old new
grew_on old mid new g h =
    (h.0 ++ g.0, h.1 ∙ (ap (λ (z : List ℕ). h.0 ++ z) g.1 ∙ sym (append_assoc h.0 g.0 old)))

-- nothing is written, for there is nothing
pub refused : (P : List ℕ → Value → Type 0) (tape : List Item) (at : ℕ) (old : List ℕ) → NoneAtEnd P (before tape at) →
    Writes P tape at old old (Err faults.Refused)
refused P tape at old n = (λ _. n, same_grew old)

-- what is written of one grammar is of another with the same words
pub writes_map : (P Q : List ℕ → Value → Type 0) → ((o : List ℕ) (v : Value) → P o v → Q o v) →
    ((o : List ℕ) (v : Value) → Q o v → P o v) → (tape : List Item) (at : ℕ) (old new : List ℕ) (r : Result ℕ Fault) →
    Writes P tape at old new r → Writes Q tape at old new r
writes_map P Q f g tape at old new (Ok rest) w = (
  w.0,
  record {
    word = w.1.word;
    kept = w.1.kept;
    are_octets = w.1.are_octets;
    holds = f w.1.word (value_of w.1.kept) w.1.holds;
    taken = w.1.taken;
    put = w.1.put;
  },
)
writes_map P Q f g tape at old new (Err e) w = (λ is o k r h t. w.0 is o k r (g o (value_of k) h) t, w.1)

-- the one value at the end of a tape with a leaf
pub one_leaf : (tape r rest : List Mark) (l : LeafValue) (k : Kept) → tape ≡ r ++ leaf_mark l ∷ [] →
    tape ≡ rest ++ tape_of k → value_of k ≡ leaf l
one_leaf tape r rest l k e f = ap value_of (one_tape_back k (kept_leaf l) rest r (sym f ∙ e)).0

module _ (P : List ℕ → Value → Type 0) (tape : List Item) (at : ℕ) where
  -- a leaf is written
  pub leaf_written : (old new o : List ℕ) (l : LeafValue) (result : Result ℕ Fault) → IsOctets o → P o (leaf l) →
      (0 < at) × (before tape at ≡ before tape (at - 1) ++ leaf_mark l ∷ []) →
      MatchResult result (λ rest. (rest ≡ at - 1) × (new ≡ o ++ old)) (λ e. (e ≡ faults.Memory) × (new ≡ old)) →
      Writes P tape at old new result
  leaf_written old new o l (Ok rest) b p e r = (
    omega (arith, r.0),
    record {
      word = o;
      kept = kept_leaf l;
      are_octets = b;
      holds = p;
      taken = subst (λ (z : ℕ). before tape at ≡ before tape z ++ leaf_mark l ∷ []) (sym r.0) e.1;
      put = r.1;
    },
  )
  leaf_written old new o l (Err x) b p e r =
      (λ is. absurd (is r.0), subst (λ (z : List ℕ). Grew old z) (sym r.1) (same_grew old))

  -- no leaf of the kind stands at the end, so no value does
  pub no_leaf : {Y : Type 0} (made : Y → LeafValue) → ((y : Y) → is_whole (made y) ≡ true) →
      ((o : List ℕ) (v : Value) → P o v → (y : Y) × (v ≡ leaf (made y))) →
      ((y : Y) (rest : List Mark) → before tape at ≡ rest ++ leaf_mark (made y) ∷ [] → ⊥) → (old : List ℕ) →
      Writes P tape at old old (Err faults.Refused)
  no_leaf made whole shape nothing old = refused P tape at old (λ word kept rest holds e.
      let s = shape word (value_of kept) holds in
      let k = whole_kept kept (made s.0) (whole s.0) s.1 in
      nothing s.0 rest (e ∙ ap (λ (z : Kept). rest ++ tape_of z) k))

  -- a leaf stands at the end that is no value
  pub wrong_leaf : (l : LeafValue) → (before tape at ≡ before tape (at - 1) ++ leaf_mark l ∷ []) →
      ((o : List ℕ) → P o (leaf l) → ⊥) → NoneAtEnd P (before tape at)
  wrong_leaf l e n word kept rest holds f =
      n word (subst (λ (v : Value). P word v) (one_leaf (before tape at) (before tape (at - 1)) rest l kept e f) holds)
