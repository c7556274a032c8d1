use Rattle.x690.specs.Laws.Collections.{zip_joined, multiset_content_made, set_content_made}
use Rattle.x690.proofs.collections.contents_of_encodings.Goals as goal

pub returns-clause-lists : goal.returns-clause-lists
returns-clause-lists g c = zip_joined g.E.Encodings.Strict

pub returns-clause-multisets : goal.returns-clause-multisets
returns-clause-multisets g c = multiset_content_made g.E.Encodings.Strict

pub returns-clause-sets : goal.returns-clause-sets
returns-clause-sets g c = set_content_made g.E.Encodings.Strict
