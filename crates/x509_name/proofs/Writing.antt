-- Writing what may be refused with a refusal of its own.
use Rattle.std.proofs.Common.{◌≡◌, ◌∙◌, ap, refl, subst, sym, inl, inr, arith, ℕ}
use Rattle.std.proofs.Common.{◌≤◌, Bool, true, false, List, [], ◌∷◌, append-nil}
use Rattle.std.proofs.Common.{get_or, length, map, Result, Ok, Err, IfErr, MatchResult}
use Rattle.std.proofs.lemmas.List.{get_or-map, length-map}
use Rattle.std.proofs.lemmas.Simd.{map-map}
use Rattle.std.specs.List.{All, concat}
use Rattle.x690.specs.Ascending.{arranged, put_in}
use Rattle.asn1_headers.specs.Error.{tells_of_io, written_refusal}
use Rattle.asn1_headers.specs.Laws.Prepending.{Prepended_refused}
use Rattle.asn1_headers.specs.Laws.Writing.{Appends_none, MayRefuse_either}
use Rattle.asn1_headers.specs.Prepended.{Prepended}
use Rattle.asn1_headers.specs.Writer.{MayRefuse, WriterState, Wrote}
use Rattle.asn1_headers.specs.declared.error.Error.{Error}
use Rattle.asn1_headers.specs.declared.error.Error.TheVariants as errors
use Rattle.asn1_headers.specs.declared.error.SerializeError.{SerializeError}
use Rattle.asn1_headers.specs.declared.error.SerializeError.TheVariants as serialize_errors
use Rattle.asn1_rs.specs.Lists.{SomeRefuses}
use Rattle.asn1_rs.specs.Set.{set_content}
use Rattle.asn1_rs.specs.ToDer.{Either, HasNone, IntoVector, Refuses, RefusesAtOnce}
use Rattle.asn1_rs.specs.ToDer.{RefusesCount, VectorRefuses, WrittenRefusal}
use Rattle.x509_name.proofs.Headers.{counted_may}

-- A refused count is no refusal of the writer.
no_io : (e : Error) → tells_of_io (written_refusal e) ≡ false
no_io errors.InvalidLength = refl
no_io errors.OutOfMemory = refl
no_io _ = refl

-- A writing that is refused with the writer as it was.
pub own_kept : (e : Error) (octets : List ℕ) (s : WriterState) → Wrote octets s s (Err (written_refusal e))
own_kept e octets s = record {
  ok = tt;
  err = record { front = []; rest = octets; parts = refl; grown = Appends_none s.told };
  mark = rw (no_io e) refl;
  marked = λ t. tt;
  nothing = λ n. no_io e;
}

-- A putting before a buffer that is refused with the buffer as it was.
pub own_not_put : (e : Error) (octets old : List ℕ) → Prepended octets old old (Err (written_refusal e))
own_not_put e octets old = Prepended_refused octets old old (written_refusal e) refl (no_io e)

-- The contents octets of a set of one item are those of the item.
pub only_content : {X : Type 0} (octets : X → List ℕ) (xs : List X) (x : X) → xs ≡ x ∷ [] →
    set_content octets xs ≡ octets x
unfolding put_in arranged
only_content octets xs x is = ap (set_content octets) is ∙ append-nil (octets x)

-- So those of a set of what holds the items are those of the set of the items.
pub held_content : {X Y : Type 0} (held : X → Y) (octets : Y → List ℕ) (xs : List X) (ys : List Y) →
    map held xs ≡ ys → set_content (λ x. octets (held x)) xs ≡ set_content octets ys
held_content held octets xs ys is =
    ap (λ (os : List (List ℕ)). concat (arranged os)) (sym (map-map octets held xs) ∙ ap (map octets) is)

-- A refused count whose items have no refusal of their own.
pub count_refused : {X : Type 0} (allocates : Bool) (n : ℕ) (own : Error → Type 0) (xs : List X) (r : Result ℕ Error) →
    IfErr r (RefusesCount allocates n (SomeRefuses (λ _ _. ⊥) xs)) → IfErr r (RefusesCount allocates n own)
count_refused allocates n own xs (Ok k) h = tt
count_refused allocates n own xs (Err e) (inl h) = inl h
count_refused allocates n own xs (Err e) (inr o) = absurd o.4

-- how such a count comes out of a writing, with the writer as it was
pub counted_at_once : (e : Error) (own : Error → Type 0) (m n : ℕ) → m ≤ n → RefusesCount false m own e →
    RefusesAtOnce false n (WrittenRefusal own) (written_refusal e)
counted_at_once e own m n l (inl h) = inl (counted_may e m n l h, no_io e)
counted_at_once e own m n l (inr o) = inr (e, o, refl)

-- no refusal is one of neither
pub neither : {E : Type 0} (e : E) → Either (λ _. ⊥) (λ _. ⊥) e → ⊥
neither e (inl o) = o
neither e (inr o) = o

-- A writing of one item that has no refusal of its own.
pub one_written : (n : ℕ) (r : Result ℕ SerializeError) →
    IfErr r (Refuses false n (Either (λ _. ⊥) (λ _. ⊥))) → IfErr r (MayRefuse true n)
one_written n (Ok k) h = tt
one_written n (Err e) (inl h) = MayRefuse_either e false true n h
one_written n (Err e) (inr o) = absurd (neither e o)

-- A putting of one before a buffer.
pub one_put : (n : ℕ) (r : Result ℕ SerializeError) →
    IfErr r (VectorRefuses n (Either (λ _. ⊥) (λ _. ⊥))) → IfErr r (MayRefuse true n)
one_put n (Ok k) h = tt
one_put n (Err e) (inl h) = h
one_put n (Err e) (inr o) = absurd (neither o.0 o.1)

-- What holds of the items holds of what holds them.
pub all_held : {X Y : Type 0} (held : X → Y) (P : Y → Type 0) (xs : List X) (ys : List Y) → map held xs ≡ ys →
    All P ys → All (λ x. P (held x)) xs
all_held held P xs ys is each k d l =
    let long : length ys ≡ length xs = ap length (sym is) ∙ length-map xs held in
    subst P (ap (λ zs. get_or zs k (held d)) (sym is) ∙ get_or-map held xs k d (held d) l)
    (each k (held d) (omega (arith, long, l)))

-- A writing of a set of items that have no refusal of their own.
pub set_written : {X : Type 0} (n : ℕ) (xs : List X) (own : X → SerializeError → Type 0) →
    ((x : X) → HasNone (own x)) → (r : Result ℕ SerializeError) →
    IfErr r (Refuses true n (SomeRefuses (λ x. IntoVector (own x)) xs)) → IfErr r (MayRefuse true n)
set_written n xs own none (Ok k) h = tt
set_written n xs own none (Err e) (inl h) = h
set_written n xs own none (Err e) (inr (k, x, l, at, o)) = absurd (none x o.0 o.1)

-- A putting of one before a buffer.
pub set_put : {X : Type 0} (n : ℕ) (xs : List X) (own : X → SerializeError → Type 0) →
    ((x : X) → HasNone (own x)) → (r : Result ℕ SerializeError) →
    IfErr r (VectorRefuses n (SomeRefuses (λ x. IntoVector (own x)) xs)) → IfErr r (MayRefuse true n)
set_put n xs own none (Ok k) h = tt
set_put n xs own none (Err e) (inl h) = h
set_put n xs own none (Err e) (inr (f, (k, x, l, at, o), w)) = absurd (none x o.0 o.1)

-- A writing that is refused when out of memory alone.
pub memory_alone : (P : ℕ → Type 0) (Q : Type 0) (r : Result ℕ SerializeError) →
    MatchResult r P (λ e. (e ≡ serialize_errors.OutOfMemory) × Q) →
    MatchResult r P (λ e. e ≡ serialize_errors.OutOfMemory)
memory_alone P Q (Ok k) h = h
memory_alone P Q (Err e) h = h.0
