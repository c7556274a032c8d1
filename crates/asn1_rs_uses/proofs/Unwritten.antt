-- Values that are not written.
use Rattle.std.proofs.Common.{◌≡◌, ◌<◌, ◌^◌, ◌∙◌, ap, refl, inl, inr, ℕ, Bool, false, true, List, [], ◌∷◌, ◌++◌, length}
use Rattle.std.proofs.Common.{Result, Ok, Err, IfErr, arith, lit≤}
use Rattle.std.specs.Prelude.{None, ◌⊎◌, IsErr, IsErrAnd, codes}
use Rattle.x690.specs.Strict.{header_octets, identifier_octets, length_octets}
use Rattle.asn1_headers.specs.declared.class.Class.{Class}
use Rattle.asn1_headers.specs.declared.header.Header.{Header}
use Rattle.asn1_headers.specs.declared.length.Length.TheVariants.{Definite}
use Rattle.asn1_headers.specs.declared.error.Error.{Error}
use Rattle.asn1_headers.specs.declared.error.Error.TheVariants as errors
use Rattle.asn1_headers.specs.declared.error.SerializeError.{SerializeError}
use Rattle.asn1_headers.specs.declared.error.SerializeError.TheVariants as serialize_errors
use Rattle.asn1_headers.specs.Class.{class_number}
use Rattle.asn1_headers.specs.Header.{HasParts}
use Rattle.asn1_rs.specs.Lists.{SomeRefuses}
use Rattle.asn1_headers.specs.Header.Writing.{strict_header}
use Rattle.asn1_headers.specs.Writer.{MayRefuse, WriterState}
use Rattle.asn1_rs.specs.ToDer.{Refuses, RefusesCount, IsRefusedAtOnce, IntoVector, WrittenRefusal, Either}
use Rattle.asn1_headers.specs.Error.{vector_refusal, tells_of_io}
use Rattle.asn1_headers.specs.Laws.Message.{short_message}
use Rattle.asn1_rs_uses.specs.declared.refusals.InClass.{InClass}
use Rattle.asn1_rs_uses.specs.declared.refusals.NamePart.{NamePart}
use Rattle.asn1_rs_uses.specs.Refusals.{NamesNoClass, TellsOfNoClass, SomeInNoClass, AsAnyWriting, TellsOfEmptyPart}
use Rattle.asn1_rs_uses.specs.Refusals.{IsEmptyPart, WrittenEmptyPart, IsMemoryOrAnyLength, SomeEmpty}

-- the header of an element of one octet, with tag number 0
pub header_of_one : (h : Header) (class : Class) (n : ℕ) → n ≡ class_number class →
    HasParts h class false (record { 0 = 0 }) (Definite 1) None → strict_header h ≡ header_octets n false 0 1
unfolding header_octets
header_of_one h class n e p =
    let is = p.class_is in
    let of = p.constructed_is in
    let tag = p.tag_is in
    let form = p.length_is in
    rw (e, is, of, tag, form) refl

-- Of few octets, where no memory is allocated, the writer's failure is the only refusal.
few_may : (n m : ℕ) → n < 2 ^ 64 → (e : SerializeError) → MayRefuse false n e → MayRefuse false m e
few_may n m few (serialize_errors.ASN1Error e) p = absurd p
few_may n m few (serialize_errors.InvalidClass c) p = absurd p
few_may n m few serialize_errors.InvalidLength p = absurd (omega arith)
few_may n m few (serialize_errors.IOError e) p = tt
few_may n m few serialize_errors.OutOfMemory p = p

pub few_refused : (n m : ℕ) (own : SerializeError → Type 0) (r : Result ℕ SerializeError) → n < 2 ^ 64 →
    IfErr r (Refuses false n (λ e. ⊥)) → IfErr r (Refuses false m own)
few_refused n m own (Ok k) few p = tt
few_refused n m own (Err e) few p = elim p [ inl may ↦ inl (few_may n m few e may) | inr none ↦ absurd none ]

either_same : {E : Type 0} (P : E → Type 0) (e : E) → Either P P e → P e
either_same P e (inl p) = p
either_same P e (inr p) = p

-- an element of one octet has three
pub three_octets : (n o : ℕ) → length (header_octets n false 0 1 ++ o ∷ []) ≡ 3
unfolding header_octets identifier_octets length_octets
three_octets n o = refl

-- an item of no class is refused with the class
pub names_some : (xs : List InClass) → SomeInNoClass xs →
    (e : SerializeError) × SomeRefuses (λ x. Either (NamesNoClass x.class) (NamesNoClass x.class)) xs e ×
    SomeRefuses (λ x. IntoVector (Either (NamesNoClass x.class) (NamesNoClass x.class))) xs e
names_some xs (k, x, lt, at, h) =
    let e = serialize_errors.InvalidClass x.class in
    (e, (k, x, lt, at, inl (h, refl)), (k, x, lt, at, (e, inl (h, refl), refl)))

-- a list is refused as any writing, or with the class of an item
pub list_refused : (allocates : Bool) (n : ℕ) (xs : List InClass) (r : Result ℕ SerializeError) →
    IfErr r (Refuses allocates n (Either (WrittenRefusal (SomeRefuses (λ (x : InClass) e. ⊥) xs))
    (SomeRefuses (λ x. Either (NamesNoClass x.class) (NamesNoClass x.class)) xs))) →
    IfErr r (λ e. MayRefuse allocates n e ⊎ TellsOfNoClass xs e)
list_refused allocates n xs (Ok k) why = tt
list_refused allocates n xs (Err e) (inl may) = inl may
list_refused allocates n xs (Err e) (inr (inl (f, (k, x, lt, at, none), is))) = absurd none
list_refused allocates n xs (Err e) (inr (inr (k, x, lt, at, own))) =
    inr (k, x, lt, at, either_same (NamesNoClass x.class) e own)

may_as_any : (allocates : Bool) (n : ℕ) (e : SerializeError) → MayRefuse allocates n e → AsAnyWriting e
may_as_any allocates n (serialize_errors.ASN1Error e) p = p
may_as_any allocates n (serialize_errors.InvalidClass c) p = p
may_as_any allocates n serialize_errors.InvalidLength p = tt
may_as_any allocates n (serialize_errors.IOError e) p = tt
may_as_any allocates n serialize_errors.OutOfMemory p = tt

-- and so is a set, where memory may be wanted first
pub set_refused : (allocates : Bool) (n : ℕ) (xs : List InClass) (r : Result ℕ SerializeError) →
    IfErr r (Refuses allocates n (Either (WrittenRefusal (SomeRefuses (λ (x : InClass) e. ⊥) xs))
    (SomeRefuses (λ x. IntoVector (Either (NamesNoClass x.class) (NamesNoClass x.class))) xs))) →
    IfErr r (λ e. AsAnyWriting e ⊎ TellsOfNoClass xs e)
set_refused allocates n xs (Ok k) why = tt
set_refused allocates n xs (Err e) (inl may) = inl (may_as_any allocates n e may)
set_refused allocates n xs (Err e) (inr (inl (f, (k, x, lt, at, none), is))) = absurd none
set_refused allocates n xs (Err e) (inr (inr (k, x, lt, at, (f, own, is)))) =
    let named = either_same (NamesNoClass x.class) f own in
    inr (k, x, lt, at, (named.0, is ∙ ap vector_refusal named.1))

-- an empty part has a refusal
pub empty_part : (parts : List NamePart) → SomeEmpty parts →
    (e : Error) × SomeRefuses (λ p. IsEmptyPart p.0.now) parts e × TellsOfEmptyPart e
empty_part parts (k, p, lt, at, empty) =
    let text = short_message (codes "empty part") (lit≤ tt) refl in
    let e = errors.InvalidValue (record { 0 = 12 }) text.0 in
    (e, (k, p, lt, at, (empty, (refl, text.1))), (refl, text.1))

-- a name with an empty part is not counted
pub name_uncounted : (n : ℕ) (parts : List NamePart) (r : Result ℕ Error) → IsErr r →
    IfErr r (RefusesCount false n (SomeRefuses (λ p. IsEmptyPart p.0.now) parts)) →
    IsErrAnd r (λ e. TellsOfEmptyPart e ⊎ (e ≡ errors.InvalidLength))
name_uncounted n parts (Ok k) refused why = cc
name_uncounted n parts (Err e) refused (inr (k, p, lt, at, own)) = inl own.1
name_uncounted n parts (Err errors.InvalidLength) refused (inl may) = inr refl
name_uncounted n parts (Err errors.OutOfMemory) refused (inl may) = cc
name_uncounted n parts (Err e) refused (inl may) = absurd may

written_empty : (octets : List ℕ) (e : SerializeError) → WrittenRefusal (IsEmptyPart octets) e → WrittenEmptyPart e
written_empty octets e (errors.InvalidValue tag msg, own, is) = rw is own.1
written_empty octets e (f, own, is) = absurd own.1

-- nor is it written, and nothing is appended
may_at_once : (allocates : Bool) (n : ℕ) (e : SerializeError) → MayRefuse allocates n e → tells_of_io e ≡ false →
    IsMemoryOrAnyLength e
may_at_once allocates n (serialize_errors.ASN1Error e) p h = absurd p
may_at_once allocates n (serialize_errors.InvalidClass c) p h = absurd p
may_at_once allocates n serialize_errors.InvalidLength p h = inr refl
may_at_once allocates n (serialize_errors.IOError e) p h = cc
may_at_once allocates n serialize_errors.OutOfMemory p h = inl refl

own_unwritten : (parts : List NamePart) (e : SerializeError) →
    Either (WrittenRefusal (SomeRefuses (λ p. IsEmptyPart p.0.now) parts))
    (SomeRefuses (λ p. Either (WrittenRefusal (IsEmptyPart p.0.now)) (WrittenRefusal (IsEmptyPart p.0.now))) parts) e →
    WrittenEmptyPart e
own_unwritten parts e (inl (f, (k, p, lt, at, own), is)) = written_empty p.0.now e (f, own, is)
own_unwritten parts e (inr (k, p, lt, at, own)) =
    written_empty p.0.now e (either_same (WrittenRefusal (IsEmptyPart p.0.now)) e own)

pub name_unwritten : (allocates : Bool) (n : ℕ) (parts : List NamePart) (old new : WriterState)
    (r : Result ℕ SerializeError) →
    IsRefusedAtOnce allocates n (Either (WrittenRefusal (SomeRefuses (λ p. IsEmptyPart p.0.now) parts))
    (SomeRefuses (λ p. Either (WrittenRefusal (IsEmptyPart p.0.now)) (WrittenRefusal (IsEmptyPart p.0.now))) parts)) old
    new r → IsErrAnd r (λ e. WrittenEmptyPart e ⊎ IsMemoryOrAnyLength e) × (new ≡ old)
name_unwritten allocates n parts old new r (e, why, at) =
    let telling : WrittenEmptyPart e ⊎ IsMemoryOrAnyLength e =
    elim why [ inl may ↦ inr (may_at_once allocates n e may.0 may.1) | inr own ↦ inl (own_unwritten parts e own) ] in
    (rw at.refused telling, at.kept)

-- so few octets has the header of an element of one
pub two_octets : (h : Header) (class : Class) (n : ℕ) → n ≡ class_number class →
    HasParts h class false (record { 0 = 0 }) (Definite 1) None → length (strict_header h ++ []) ≡ 2
unfolding header_octets identifier_octets length_octets
two_octets h class n e p = rw (header_of_one h class n e p) refl
