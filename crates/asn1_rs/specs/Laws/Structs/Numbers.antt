-- A header at the front tells whether a field of several tag numbers is left out.
use Rattle.std.proofs.Common.{◌≡◌, ◌∙◌, ap, sym, subst, refl, inl, inr, ℕ, Bool, true, false, List, [], ◌∷◌, length, IsTrue}
use Rattle.std.specs.Prelude.{◌||◌, ◌↔◌, Option, None, Result, Ok, Err, nat_eq, not}
use Rattle.std.proofs.lemmas.Bool.{eqb-true, eq-eqb, false≢true}
use Rattle.x690.specs.Rules.{Rule}
use Rattle.x690.specs.Faults.{Violation}
use Rattle.x690.specs.Laws.Faults.{header_or_fault}
use Rattle.asn1_headers.specs.declared.error.Err.{Err as Refusal}
use Rattle.asn1_headers.specs.declared.error.Error.{Error}
use Rattle.asn1_headers.specs.declared.header.Header.{Header}
use Rattle.asn1_headers.specs.Header.{identifier_of}
use Rattle.asn1_headers.specs.Header.Reading.{HeaderGives, refusal_of}
use Rattle.asn1_headers.specs.Length.{form_of}
use Rattle.asn1_rs.specs.Optional.{OptionGives, in_some}
use Rattle.asn1_rs.specs.Structs.{among, is_one_of, BeginsWithNumber, BeginsApart}
use Rattle.asn1_rs.specs.Laws.Structs.Fields.{not_apart}

-- a number is the only one of its own
pub is_the_one : (n m : ℕ) → nat_eq n m ≡ is_one_of m (n ∷ [])
is_the_one n m = elim (nat_eq n m) as (λ b. b ≡ (b || false)) [ true ↦ refl | false ↦ refl ]

none_is : (b : Bool) → IsTrue (not b) → b ≡ false
none_is true t = absurd (cc)
none_is false t = refl

is_none : (b : Bool) → (b ≡ true → ⊥) → IsTrue (not b)
is_none true h = absurd (h refl)
is_none false h = refl

-- a header that was read begins the octets
begins_read : (rule : Rule) (refuses : Violation → Error) (octets : List ℕ) (x : List ℕ × Header) →
    HeaderGives rule (refusal_of refuses) octets (Ok x) → BeginsWithNumber rule x.1.tag.0 octets
begins_read rule refuses octets x g = record {
  header = g.octets;
  rest = x.0;
  id = identifier_of x.1;
  form = form_of x.1.length;
  header_is = g.header;
  is = g.is;
  number_is = refl;
}

-- it tells by its tag number whether a field of these numbers is left out
pub read_tells_among : (rule : Rule) (refuses : Violation → Error) (octets : List ℕ) (x : List ℕ × Header) (read : ℕ)
    (numbers : List ℕ) → read ≡ x.1.tag.0 → HeaderGives rule (refusal_of refuses) octets (Ok x) →
    IsTrue (not (is_one_of read numbers)) ↔ BeginsApart rule (among numbers) octets
read_tells_among rule refuses octets x read numbers e g =
    let begins : BeginsWithNumber rule read octets =
    subst (λ (n : ℕ). BeginsWithNumber rule n octets) (sym e) (begins_read rule refuses octets x g) in (
      λ told. inr (read, begins, none_is (is_one_of read numbers) told),
      λ out. is_none (is_one_of read numbers) (λ own. not_apart rule read numbers octets begins own out),
    )

-- where no header could be read, it is left out at the end alone
pub refusal_tells_among : (rule : Rule) (refuses : Violation → Error) (octets : List ℕ) (r : Refusal Error)
    (numbers : List ℕ) → HeaderGives rule (refusal_of refuses) octets (Err r) →
    IsTrue (nat_eq (length octets) 0) ↔ BeginsApart rule (among numbers) octets
refusal_tells_among rule refuses octets r numbers g =
    (λ told. inl (none octets (eqb-true (length octets) 0 told)), ended)
  where
    none : (xs : List ℕ) → length xs ≡ 0 → xs ≡ []
    none [] e = refl
    none (x ∷ xs) e = cc

    ended : BeginsApart rule (among numbers) octets → IsTrue (nat_eq (length octets) 0)
    ended (inl e) = eq-eqb (length octets) 0 (ap length e)
    ended (inr (m, b, other)) =
        absurd (header_or_fault rule octets b.header b.rest b.id b.form g.0 g.1 b.header_is b.is)

-- none is answered where the value is told to be left out
pub gives_none : {T E : Type 0} (LeftOut : List ℕ → Type 0)
    (reads : List ℕ → Result (List ℕ × T) (Refusal E) → Type 0) (octets : List ℕ) (told : Bool) →
    IsTrue told ↔ LeftOut octets → told ≡ true → OptionGives LeftOut reads octets (Ok (octets, None))
gives_none LeftOut reads octets told tells is = inl (tells.0 is, refl)

-- and else the whole answer of the reader of the value
pub gives_some : {T E : Type 0} (LeftOut : List ℕ → Type 0)
    (reads : List ℕ → Result (List ℕ × T) (Refusal E) → Type 0) (octets : List ℕ) (told : Bool) →
    IsTrue told ↔ LeftOut octets → told ≡ false → (its : Result (List ℕ × T) (Refusal E)) → reads octets its →
    (answer : Result (List ℕ × Option T) (Refusal E)) → answer ≡ in_some its → OptionGives LeftOut reads octets answer
gives_some LeftOut reads octets told tells stays its gives answer is =
    inr (λ out. absurd (false≢true (sym stays ∙ tells.1 out)), (its, gives, is))
