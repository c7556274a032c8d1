-- The octets 00 00 that end indefinite contents (X.690 8.1.5), as an element that is read by BER alone.
use Rattle.std.specs.Prelude.{◌≡◌, ℕ, false, []}
use Rattle.asn1_rs.specs.declared.asn1_types.end_of_content.EndOfContent.{EndOfContent}
use Rattle.asn1_rs.specs.Checks.{nothing, has_length}
use Rattle.asn1_rs.specs.Grammar.Item.{ItemGrammar}
use Rattle.asn1_rs.specs.Leaf.{Leaf, LeafBody}

-- the number of its tag
abbrev pub end_number : ℕ
end_number = 0

-- no contents octets, and no value in DER form
abbrev pub end_leaf : Leaf EndOfContent
end_leaf = record {
  number = end_number;
  Value = Unit {0};
  value = λ x. tt;
  IsValue = λ v. Unit {0};
  IsDer = λ v. ⊥;
  checks = has_length 0;
  Says = λ content v. content ≡ [];
  constraints = nothing;
  octets = λ v. [];
}

-- a type that is read by BER alone: it has no words by DER, and no strict parts
abbrev pub by_ber_alone : {S : Type 0} → Leaf S → ItemGrammar S
by_ber_alone L = record {
  Value = L.Value;
  value = L.value;
  IsValue = L.IsValue;
  IsDer = λ v. ⊥;
  Der = λ o v. ⊥;
  Body = LeafBody L;
  Check = λ p. ⊥;
  Form = λ v i c. ⊥;
  allocates = false;
}
