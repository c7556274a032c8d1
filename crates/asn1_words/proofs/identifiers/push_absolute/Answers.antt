use Rattle.x690.specs.Arcs.{pieces_of}
use Rattle.asn1_words.proofs.Pieces.{first_is_small}
use Rattle.asn1_words.proofs.identifiers.push_absolute.Goals as goal

pub split_subidentifier-first-requires-clause-small : goal.split_subidentifier-first-requires-clause-small
split_subidentifier-first-requires-clause-small c = first_is_small (pieces_of c.args.content.now) c.requires.few
