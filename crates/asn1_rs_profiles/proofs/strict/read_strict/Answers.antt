use Rattle.asn1_rs_profiles.proofs.Comparing.{no_word, not_strict, strict_again}
use Rattle.asn1_rs_profiles.proofs.strict.read_strict.Goals as goal

pub returns-in-Err : goal.returns-in-Err
returns-in-Err g c = no_word g.T.Grammar.grammar g.met.T.LawfulItem.lawful_item g.T.ToDer.writing
    c.args.octets.now c.in-Err.e c.in-Err.ensures.exact

pub returns-in-Ok-compare : goal.returns-in-Ok-compare
returns-in-Ok-compare g c = strict_again g.T.Grammar.grammar g.met.T.LawfulItem.lawful_item g.T.ToDer.writing
    c.args.octets.now c.in-Ok.value c.in-Ok.ensures.exact g.met.T.LawfulWrite.lawful_writing c.is_der.ensures
    c.length_fits.ensures c.in-Ok-compare.ensures

pub returns-in-Err-compare : goal.returns-in-Err-compare
returns-in-Err-compare g c = not_strict g.T.Grammar.grammar g.met.T.LawfulItem.lawful_item g.T.ToDer.writing
    c.args.octets.now c.in-Ok.value c.in-Ok.ensures.exact g.met.T.LawfulWrite.lawful_writing c.is_der.ensures
    c.in-Err-compare.e c.in-Err-compare.ensures
