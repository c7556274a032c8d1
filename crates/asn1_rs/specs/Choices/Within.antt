-- Arms that stand within a value of another type: its laws are theirs.
use Rattle.std.specs.Prelude.{◌≡◌, false, Result, Ok, Err}
use Rattle.asn1_rs.specs.Prelude.{Error, has_a_tag, IsOctets, parts_of}
use Rattle.asn1_rs.specs.declared.asn1_types.any.Any.{Any}
use Rattle.asn1_rs.specs.Choices.{ArmsGrammar, IsNoArm}
use Rattle.asn1_rs.specs.Choices.Data.{LawfulArmsOf}
use Rattle.asn1_rs.specs.Grammar.{TakesBody}
use Rattle.asn1_rs.specs.Laws.Choices.{AreLawfulArms}
use Rattle.asn1_rs.specs.Laws.Choices.Readers.{AreTagged}

-- the same words, of what holds the arms
abbrev pub within : {S W : Type 0} → (W → S) → ArmsGrammar S → ArmsGrammar W
within inner G = record {
  Value = G.Value;
  value = λ w. G.value (inner w);
  IsValue = G.IsValue;
  IsDer = G.IsDer;
  Der = G.Der;
  Body = G.Body;
  Check = G.Check;
  Form = G.Form;
  tags = G.tags;
  allocates = G.allocates;
}

-- the same answers
abbrev pub GivesWithin : {S W E : Type 0} → (W → S) → (Result S E → Type 0) → Result W E → Type 0
GivesWithin inner gives (Ok w) = gives (Ok (inner w))
GivesWithin inner gives (Err e) = gives (Err e)

module _ {S W : Type 0} (inner : W → S) (G : ArmsGrammar S) where
  pub tagged_within : AreTagged G → AreTagged (within inner G)
  tagged_within t = record {
    der_element = t.der_element;
    der_tagged = t.der_tagged;
    body_tagged = t.body_tagged;
    check_tagged = t.check_tagged;
  }

  module _ (takes : Any → Result S Error → Type 0) where
    pub takes_within : ((any : Any) (answer : Result S Error) → IsOctets any.content.now → takes any answer →
        TakesBody G.Body G.value G.allocates (λ (e f : Error). f ≡ e) (parts_of any) answer) →
        (any : Any) (answer : Result W Error) → IsOctets any.content.now → GivesWithin inner (takes any) answer →
        TakesBody G.Body (λ w. G.value (inner w)) G.allocates (λ (e f : Error). f ≡ e) (parts_of any) answer
    takes_within exact any (Ok w) o g = exact any (Ok (inner w)) o g
    takes_within exact any (Err e) o g = exact any (Err e) o g

    pub other_within : ((any : Any) (answer : Result S Error) → has_a_tag G.tags (parts_of any).id ≡ false →
        takes any answer → IsNoArm (λ (e : Error). e) (parts_of any).id.number answer) →
        (any : Any) (answer : Result W Error) → has_a_tag G.tags (parts_of any).id ≡ false →
        GivesWithin inner (takes any) answer → IsNoArm (λ (e : Error). e) (parts_of any).id.number answer
    other_within other any (Ok w) none g = let is = other any (Ok (inner w)) none g in absurd (cc)
    other_within other any (Err e) none g = let is = other any (Err e) none g in cc

-- They are lawful where the arms are.
module _ {S W : Type 0} (inner : W → S) where
  pub lawful_within : (G : ArmsGrammar S) → AreLawfulArms G → AreLawfulArms (within inner G)
  lawful_within G l = record {
    one_equality = l.one_equality;
    der_element = l.der_element;
    der_values = l.der_values;
    body_values = l.body_values;
    form_values = l.form_values;
    der_one = l.der_one;
    body_one = l.body_one;
    one_form = l.one_form;
    one_value = l.one_value;
    form_fits = l.form_fits;
    form_check = l.form_check;
    form_der = l.form_der;
    form_body = l.form_body;
    strict_der = l.strict_der;
    tagged = l.tagged;
  }

  abbrev pub arms_within : LawfulArmsOf S → LawfulArmsOf W
  arms_within A = record {
    grammar = within inner A.grammar;
    arm_of = λ w. A.arm_of (inner w);
    told = A.told;
    lawful = λ t. lawful_within A.grammar (A.lawful t);
    puts = λ t. let p = A.puts t in record {
      tells_all = λ x. p.tells_all (inner x);
      by_value = λ x y e. p.by_value (inner x) (inner y) e;
      form = λ x i c f. p.form (inner x) i c f;
      der_form = λ x d s. p.der_form (inner x) d s;
      der_writable = λ x d. p.der_writable (inner x) d;
      assert_valid = λ x h. p.assert_valid (inner x) h;
    };
  }
