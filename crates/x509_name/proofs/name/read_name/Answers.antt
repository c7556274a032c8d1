use Rattle.asn1_headers.specs.Answers.{seen}
use Rattle.x509_name.specs.Laws.Name.{attributes_in_word_order}
use Rattle.x509_name.proofs.name.read_name.Goals as goal

pub returns-clause-in_word_order : goal.returns-clause-in_word_order
returns-clause-in_word_order c =
    attributes_in_word_order c.args.octets.now (seen c.read_der.result) c.read_der.ensures.gives
