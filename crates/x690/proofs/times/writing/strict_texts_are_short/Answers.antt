use Rattle.x690.specs.Laws.TimeTexts.{utc_visible, generalized_visible, utc_octets, generalized_octets, utc_length}
use Rattle.x690.specs.Laws.TimeTexts.{generalized_length}
use Rattle.x690.proofs.times.writing.strict_texts_are_short.Goals as goal

pub returns : goal.returns
returns c = record {
  utc = utc_visible;
  generalized = generalized_visible;
  utc_octets = utc_octets;
  generalized_octets = generalized_octets;
  utc_length = utc_length;
  generalized_length = generalized_length;
}
