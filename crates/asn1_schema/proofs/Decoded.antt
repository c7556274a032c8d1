-- What is decoded, and what is not.
use Rattle.std.proofs.Common.{◌≡◌, ◌≢◌, ◌∙◌, ap, sym, subst, refl, arith, inl, inr, ℕ, ◌+◌, ◌≤◌, ◌<◌, List, [], ◌++◌, append-nil, length}
use Rattle.std.specs.Prelude.{Some, None, Err}
use Rattle.x690.specs.Joined.{NoPrefix}
use Rattle.asn1_schema.specs.declared.coding.Coding.{Coding}
use Rattle.asn1_schema.specs.declared.coding.Coding.TheVariants as codings
use Rattle.asn1_schema.specs.declared.fault.Fault.{Fault}
use Rattle.asn1_schema.specs.declared.fault.Fault.TheVariants as faults
use Rattle.asn1_schema.specs.declared.schema.Node.{Node}
use Rattle.asn1_schema.specs.declared.tape.Item.{Item}
use Rattle.asn1_schema.specs.Values.{Value}
use Rattle.asn1_schema.specs.Tape.{marks, value_of, tape_of}
use Rattle.asn1_schema.specs.Reading.{rules_of, IsWordOf, BeginsWord, ReadsPrefix, PutsPrefix, HasNoPrefix}
use Rattle.asn1_schema.specs.Decoding.{HasNoWord, Decodes, DecodesWhole, IsFollowed, IsTruncatedByCoding, TellsMissing}
use Rattle.asn1_schema.proofs.StrictIsBer.{der_deeper, ber_deeper}
use Rattle.asn1_schema.proofs.Taken.{refused_last, lawful_of}

-- A word of a type is an element.
module _ (e : Coding) (table : List Node) (depth t : ℕ) (octets : List ℕ) where
  -- a value is put on a tape that was empty
  pub decoded : (old new : List Item) (rest : List ℕ) → old ≡ [] →
      PutsPrefix (BeginsWord e table depth t octets) old new rest → Decodes (IsWordOf e table depth t) octets rest new
  decoded old new rest empty puts = record {
    kept = puts.kept;
    front = record { word = puts.holds.word; fits = puts.holds.says; is = puts.holds.is };
    is = puts.is ∙ ap (λ (z : List Item). marks z ++ tape_of puts.kept) empty;
  }

  -- no value begins the octets
  pub none_decoded : HasNoPrefix (BeginsWord e table depth t octets) → NoPrefix (IsWordOf e table depth t) octets
  none_decoded none = λ word rest v begins w. none v rest (record { word = word; says = w; is = begins })

  pub not_decoded : (old new : List Item) (fault : Fault) → ReadsPrefix (BeginsWord e table depth t octets) old new (Err fault) →
      fault ≢ faults.Memory → NoPrefix (IsWordOf e table depth t) octets
  not_decoded old new faults.Memory a some = absurd (some refl)
  not_decoded old new faults.Refused a some = none_decoded a
  not_decoded old new faults.TooDeep a some = none_decoded a

  no_element_no_word : (others : List ℕ) → NoPrefix (rules_of e).ElementOf (octets ++ others) →
      NoPrefix (IsWordOf e table depth t) (octets ++ others)
  no_element_no_word others none = λ word rest v is w. none word rest w.parts is w.element

  -- a refusal is final
  pub refused_for_good : NoPrefix (IsWordOf e table depth t) octets →
      TellsMissing (rules_of e).ElementOf (IsTruncatedByCoding e octets) octets None →
      HasNoWord (IsWordOf e table depth t) (IsTruncatedByCoding e octets) octets
  refused_for_good none tells = record { none = none; lasting = by_front tells }
    where
      by_front : TellsMissing (rules_of e).ElementOf (IsTruncatedByCoding e octets) octets None →
          (IsTruncatedByCoding e octets → ⊥) →
          (others : List ℕ) → NoPrefix (IsWordOf e table depth t) (octets ++ others)
      by_front (inl whole) ends others = refused_last (rules_of e) (lawful_of e) table depth t octets others none whole
      by_front (inr never) ends others = no_element_no_word others (never ends others)

  -- so few octets do not suffice
  pub still_truncated : (n : ℕ) → TellsMissing (rules_of e).ElementOf (IsTruncatedByCoding e octets) octets (Some n) →
      (others : List ℕ) → length others < n → NoPrefix (IsWordOf e table depth t) (octets ++ others)
  still_truncated n lacks others few = no_element_no_word others (lacks others few)

  -- where no octets follow, they are one word
  pub decoded_whole : (rest : List ℕ) (tape : List Item) → rest ≡ [] →
      Decodes (IsWordOf e table depth t) octets rest tape → DecodesWhole (IsWordOf e table depth t) octets tape
  decoded_whole rest tape ended d =
      let is : octets ≡ d.front.word = d.front.is ∙ ap (λ (z : List ℕ). d.front.word ++ z) ended ∙ append-nil d.front.word in
      record {
        kept = d.kept;
        word = subst (λ (z : List ℕ). IsWordOf e table depth t z (value_of d.kept)) (sym is) d.front.fits;
        is = d.is;
      }

  -- else others follow it
  pub followed : (rest : List ℕ) (tape : List Item) → (rest ≡ [] → ⊥) →
      Decodes (IsWordOf e table depth t) octets rest tape → IsFollowed (IsWordOf e table depth t) octets
  followed rest tape some d = record { value = value_of d.kept; rest = rest; front = d.front; some = some }

word_deeper : (e : Coding) (table : List Node) (d f t : ℕ) → d ≤ f → (o : List ℕ) (v : Value) → IsWordOf e table d t o v →
    IsWordOf e table f t o v
word_deeper codings.Der table d f t l o v a = der_deeper table d f t l o v a
word_deeper (codings.Ber max) table d f t l o v a = ber_deeper table max d f t l o v a

-- what is refused is refused to each depth
pub no_depth_decodes : (e : Coding) (table : List Node) (depth t : ℕ) (octets : List ℕ) (old new : List Item) →
    ((d : ℕ) → depth ≤ d → ReadsPrefix (BeginsWord e table d t octets) old new (Err faults.Refused)) → (d : ℕ) →
    NoPrefix (IsWordOf e table d t) octets
no_depth_decodes e table depth t octets old new none d = λ word rest v is w.
    none_decoded e table (d + depth) t octets (none (d + depth) (omega arith)) word rest v is
    (word_deeper e table d (d + depth) t (omega arith) word v w)
