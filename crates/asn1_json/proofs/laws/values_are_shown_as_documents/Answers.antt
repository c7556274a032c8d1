use Rattle.asn1_json.proofs.Documents.{tree_tokens}
use Rattle.asn1_json.proofs.laws.values_are_shown_as_documents.Goals as goal

pub returns : goal.returns
returns c = tree_tokens
