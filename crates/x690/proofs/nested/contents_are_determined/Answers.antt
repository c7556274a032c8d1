use Rattle.x690.specs.Laws.Nested.Contents.{content_unique, content_extends, one_content_fault, content_or_fault}
use Rattle.x690.proofs.nested.contents_are_determined.Goals as goal

pub returns : goal.returns
returns c = record {
  unique = content_unique;
  last = content_extends;
  one_fault = one_content_fault;
  no_fault = content_or_fault;
}
