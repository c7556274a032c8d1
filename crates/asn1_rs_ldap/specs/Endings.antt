-- How the rows of an assertion by a rule and of a search end.
use Rattle.asn1_rs_ldap.specs.declared.assertion.MatchingRuleAssertion.{MatchingRuleAssertion}
use Rattle.asn1_rs_ldap.specs.declared.matching.ComparedValue.{ComparedValue}
use Rattle.asn1_rs_ldap.specs.declared.search.SearchRequest.{SearchRequest}
use Rattle.asn1_rs_ldap.specs.declared.wanted.Wanted.{Wanted}

-- the last three fields of a search
abbrev pub wanted_of : SearchRequest → Wanted
wanted_of x = record {
  types_only = x.types_only;
  filter = x.filter;
  attributes = x.attributes;
}

-- the last two fields of an assertion by a rule
abbrev pub compared_of : MatchingRuleAssertion → ComparedValue
compared_of x = record { value = x.value; dn_attributes = x.dn_attributes }
