use Rattle.std.proofs.Common.{rules}
use Rattle.std.proofs.lemmas.Str.{chars_from_encodes}
use Rattle.asn1_rs_profiles.proofs.refined.sizes.characters_in.Goals as goal

pub returns : goal.returns
returns c = search (rules, chars_from_encodes)
