-- Octets of a value by DER, beside its strict encoding.
use Rattle.std.proofs.Common.{◌≡◌, ◌∙◌, ap, sym, refl, subst, arith, ℕ, List, [], ◌++◌, append-nil}
use Rattle.std.specs.Prelude.{true, Some, None, slice_get, ◌≢◌, Err, IsErrOf}
use Rattle.asn1_schema.specs.declared.decode.DecodeError.{DecodeError}
use Rattle.asn1_schema.specs.declared.decode.DecodeError.TheVariants as errors
use Rattle.asn1_schema.specs.declared.refusal.Refusal.{Refusal}
use Rattle.asn1_schema.specs.declared.schema.Node.{Node}
use Rattle.asn1_schema.specs.declared.tape.Item.{Item}
use Rattle.asn1_schema.specs.Values.{Value}
use Rattle.asn1_schema.specs.Grammar.{Word}
use Rattle.asn1_schema.specs.Rules.{strict, der}
use Rattle.asn1_schema.specs.Sound.{is_sound}
use Rattle.asn1_schema.specs.Tape.{Kept, value_of}
use Rattle.asn1_schema.specs.Decoding.{DecodesWhole, Fails, IsFollowed}
use Rattle.asn1_schema.specs.Differing.{FirstDiffer, IsNotStrict, IsDerOf, HasOther, HasNoEncoding}
use Rattle.asn1_schema.specs.Encoding.{Encodes, IsOfNoWord}
use Rattle.asn1_schema.proofs.Lawful.{front_der}
use Rattle.asn1_schema.proofs.OneTape.{one_tape_back}
use Rattle.asn1_schema.proofs.OneWord.{one_word}
use Rattle.asn1_schema.proofs.SameParts.{same_parts}
use Rattle.asn1_schema.proofs.StrictIsBer.{strict_is_der}

-- what stands behind all of the octets is nothing
same_rest : (word rest : List ℕ) → word ++ rest ≡ word → rest ≡ []
same_rest word rest e = (same_parts word word rest [] refl (e ∙ sym (append-nil word))).1

module _ (table : List Node) (sound : is_sound table ≡ true) (depth t : ℕ) (octets : List ℕ) (tape : List Item) where
  -- who has the strict word of the octets has the value that is read of them
  value_read : (k : Kept) → Word der table depth t octets (value_of k) → (v : Value) → Word strict table depth t octets v →
      v ≡ value_of k
  value_read k d v w =
      ((front_der table sound depth t).one octets octets [] [] v (value_of k)
      (strict_is_der table depth depth t (omega arith) octets v w) d refl).1

  -- the value that is read is the one that is written
  pub one_kept : (d : DecodesWhole (Word der table depth t) octets tape) → (encoding : List ℕ) →
      (e : Encodes (Word strict table depth t) tape [] encoding) → Word strict table depth t encoding (value_of d.kept)
  one_kept d encoding e =
      let kept : e.kept ≡ d.kept = (one_tape_back e.kept d.kept [] [] (sym e.is ∙ d.is)).0 in
      let word : e.word ≡ encoding = sym (append-nil e.word) ∙ sym e.put in
      subst (λ (o : List ℕ). Word strict table depth t o (value_of d.kept)) word
      (subst (λ (k : Kept). Word strict table depth t e.word (value_of k)) kept e.holds)

  -- a strict word has no place where it differs from its encoding
  pub none_differs : (d : DecodesWhole (Word der table depth t) octets tape) → (encoding : List ℕ) →
      Encodes (Word strict table depth t) tape [] encoding → (n : ℕ) → FirstDiffer octets encoding (Some n) →
      IsNotStrict table depth t octets
  none_differs d encoding e n differs v w =
      let here = subst (λ (x : Value). Word strict table depth t octets x) (value_read d.kept d.word v w) w in
      let same = one_word table sound depth t octets encoding (value_of d.kept) here (one_kept d encoding e) in
      differs.1 (ap (λ (o : List ℕ). slice_get o n) same)

  pub has_other : (d : DecodesWhole (Word der table depth t) octets tape) → (encoding : List ℕ) →
      Encodes (Word strict table depth t) tape [] encoding → (n : ℕ) → FirstDiffer octets encoding (Some n) →
      IsDerOf table depth t octets tape (HasOther table depth t octets n)
  has_other d encoding e n differs = record {
    kept = d.kept;
    word = d.word;
    is = d.is;
    holds = record { other = encoding; strict_word = one_kept d encoding e; differs = differs };
  }

  pub is_strict : (d : DecodesWhole (Word der table depth t) octets tape) → (encoding : List ℕ) →
      Encodes (Word strict table depth t) tape [] encoding → FirstDiffer octets encoding None →
      DecodesWhole (Word strict table depth t) octets tape
  is_strict d encoding e same = record {
    kept = d.kept;
    word = subst (λ (o : List ℕ). Word strict table depth t o (value_of d.kept)) (sym same) (one_kept d encoding e);
    is = d.is;
  }

  -- what has no encoding is no strict word
  pub none_written : DecodesWhole (Word der table depth t) octets tape → IsOfNoWord (Word strict table depth t) tape →
      IsNotStrict table depth t octets
  none_written d none v w =
      none octets d.kept (subst (λ (x : Value). Word strict table depth t octets x) (value_read d.kept d.word v w) w) d.is

  pub has_none : (d : DecodesWhole (Word der table depth t) octets tape) → IsOfNoWord (Word strict table depth t) tape →
      IsDerOf table depth t octets tape (HasNoEncoding table depth t)
  has_none d none = record { kept = d.kept; word = d.word; is = d.is; holds = λ other w. none other d.kept w d.is }

module _ (table : List Node) (sound : is_sound table ≡ true) (depth t : ℕ) (octets : List ℕ) where
  none_followed : IsFollowed (Word der table depth t) octets → (v : Value) → Word der table depth t octets v → ⊥
  none_followed f v w =
      let same = (front_der table sound depth t).one f.front.word octets f.rest [] f.value v f.front.fits w
      (sym f.front.is ∙ sym (append-nil octets)) in
      f.some (same_rest octets f.rest (ap (λ (z : List ℕ). z ++ f.rest) (sym same.0) ∙ sym f.front.is))

  -- where a decoder refuses, the octets are no word
  pub none_by_der : {truncated : Type 0} {tape : List Item} {refusal : Refusal} (e : DecodeError) → e ≢ errors.OutOfMemory →
      Fails {T = Unit {0}} table (λ d. Word der table d t) depth truncated octets tape refusal (Err e) →
      (IsErrOf {T = Unit {0}} (Err e) errors.TrailingOctets → IsFollowed (Word der table depth t) octets) → (v : Value) →
      Word der table depth t octets v → ⊥
  none_by_der errors.OutOfMemory some fails trailing v w = absurd (some refl)
  none_by_der errors.Refused some fails trailing v w =
      (fails.refused refl depth).none octets [] v (sym (append-nil octets)) w
  none_by_der errors.TooDeep some fails trailing v w = (fails.too_deep refl).none octets [] v (sym (append-nil octets)) w
  none_by_der (errors.Incomplete n) some fails trailing v w = fails.truncated n refl octets [] v (sym (append-nil octets)) w
  none_by_der errors.TrailingOctets some fails trailing v w = none_followed (trailing refl) v w
