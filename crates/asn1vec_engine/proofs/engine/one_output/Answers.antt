use Rattle.asn1vec_engine.specs.Lines.{lines_of}
use Rattle.asn1vec_engine.proofs.OneOutput.{lines_alike, begun_alike, lines_once, lines_begun}
use Rattle.asn1vec_engine.proofs.engine.one_output.Goals as goal

pub returns-clause-alike : goal.returns-clause-alike
returns-clause-alike c =
    λ octets texts others a b. lines_alike c.one_answer.ensures.alike (lines_of octets) texts others a b

pub returns-clause-begins_alike : goal.returns-clause-begins_alike
returns-clause-begins_alike c =
    λ octets front texts a b. begun_alike c.one_answer.ensures.alike (lines_of octets) front texts a b

pub returns-clause-whole : goal.returns-clause-whole
returns-clause-whole c =
    λ octets texts others n a b. lines_once c.one_answer.ensures.one (lines_of octets) texts others n a b

pub returns-clause-beginning : goal.returns-clause-beginning
returns-clause-beginning c =
    λ octets front texts n a b. lines_begun c.one_answer.ensures.one (lines_of octets) front texts n a b
