-- A whole tape is written.
use Rattle.std.proofs.Common.{◌≡◌, ◌≢◌, ◌∙◌, ap, sym, refl, ℕ, suc, List, [], ◌++◌, length, arith, true}
use Rattle.std.specs.Prelude.{Ok, Err}
use Rattle.std.proofs.lemmas.List.{take_all}
use Rattle.x690.specs.Joined.{IsPrefixFree}
use Rattle.asn1_schema.specs.declared.fault.Fault.{Fault}
use Rattle.asn1_schema.specs.declared.fault.Fault.TheVariants as faults
use Rattle.asn1_schema.specs.declared.schema.Node.{Node}
use Rattle.asn1_schema.specs.declared.tape.Item.{Item}
use Rattle.asn1_schema.specs.Values.{Value}
use Rattle.asn1_schema.specs.Grammar.{Word}
use Rattle.asn1_schema.specs.Rules.{strict, der, ber}
use Rattle.asn1_schema.specs.Sound.{is_sound}
use Rattle.asn1_schema.specs.Tape.{Kept, marks, tape_of, value_of}
use Rattle.asn1_schema.specs.Writing.{before, Writes}
use Rattle.asn1_schema.specs.Encoding.{Encodes, IsOfNoWord, IsReadAs}
use Rattle.asn1_schema.proofs.OneTape.{one_tape_back}
use Rattle.asn1_schema.proofs.TruncatedTapes.{length_before}
use Rattle.asn1_schema.proofs.SameParts.{same_parts}
use Rattle.asn1_schema.proofs.Lawful.{front_der, front_ber}
use Rattle.asn1_schema.proofs.StrictIsBer.{strict_is_der, der_is_ber}

-- all of a tape stands before its end
pub whole : (tape : List Item) → before tape (length tape) ≡ marks tape
whole tape = ap (λ (z : List Item). marks z) (take_all (length tape) tape (omega arith))

module _ (G : List ℕ → Value → Type 0) (tape : List Item) (old new : List ℕ) where
  -- other marks stand in front of the value
  pub more_in_front : (rest : ℕ) → Writes G tape (length tape) old new (Ok rest) → rest ≢ 0 → IsOfNoWord G tape
  more_in_front rest w some word kept h e =
      let u = one_tape_back kept w.1.kept [] (before tape rest) (sym e ∙ (sym (whole tape) ∙ w.1.taken)) in
      let n = length_before tape rest w.0 in
      let m = ap length u.1 in
      absurd (some (omega (arith, n, m)))

  pub tape_refused : (e : Fault) → Writes G tape (length tape) old new (Err e) → (e ≡ faults.Memory → ⊥) → IsOfNoWord G tape
  tape_refused e w is word kept h t = w.0 is word kept [] h (whole tape ∙ t)

-- What was written is read back.

same_rest : (word x y : List ℕ) → word ++ x ≡ word ++ y → x ≡ y
same_rest word x y e = (same_parts word word x y refl e).1

read_back : (G : List ℕ → Value → Type 0) → IsPrefixFree G → (tape : List Item) (kept : Kept) (word old new : List ℕ) →
    marks tape ≡ tape_of kept → G word (value_of kept) → new ≡ word ++ old → IsReadAs G tape new old
read_back G one tape kept word old new is h put = record {
  kept = kept;
  is = is;
  front = record { word = word; fits = h; is = put };
  only = λ v others f.
      let u = one.one f.word word others old v (value_of kept) f.fits h (sym f.is ∙ put) in
      (u.1, same_rest word others old (ap (λ (z : List ℕ). z ++ others) (sym u.0) ∙ (sym f.is ∙ put)));
}

pub der_back : (table : List Node) → is_sound table ≡ true → (depth t : ℕ) (tape : List Item) (old new : List ℕ) →
    Encodes (Word strict table depth t) tape old new → IsReadAs (Word der table depth t) tape new old
der_back table sound depth t tape old new e =
    read_back (Word der table depth t) (front_der table sound depth t) tape e.kept e.word old new e.is
    (strict_is_der table depth depth t (omega arith) e.word (value_of e.kept) e.holds) e.put

pub ber_back : (table : List Node) → is_sound table ≡ true → (max depth t : ℕ) (tape : List Item) (old new : List ℕ) →
    Encodes (Word strict table depth t) tape old new → IsReadAs (Word (ber (suc max)) table depth t) tape new old
ber_back table sound max depth t tape old new e =
    read_back (Word (ber (suc max)) table depth t) (front_ber table sound (suc max) depth t) tape e.kept e.word old new e.is
    (der_is_ber table max depth depth t (omega arith) e.word (value_of e.kept)
    (strict_is_der table depth depth t (omega arith) e.word (value_of e.kept) e.holds)) e.put
