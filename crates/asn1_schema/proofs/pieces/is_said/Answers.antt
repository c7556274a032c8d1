use Rattle.std.proofs.Common.{◌↔◌, sym, subst, List, ℕ, IsTrue}
use Rattle.asn1_schema.specs.declared.pieces.Sort.{Sort}
use Rattle.asn1_schema.specs.Grammar.{IsText}
use Rattle.asn1_schema.specs.Reading.{rules_of}
use Rattle.asn1_schema.specs.Pieces.{Elem, string_of, IsSaid}
use Rattle.asn1_schema.proofs.pieces.is_said.Goals as goal

pub returns-in-Text : goal.returns-in-Text
returns-in-Text c = subst (λ (s : Sort). (xs : List (Elem s)) → (string_of c.args.coding s).Content c.args.content.now xs →
    IsTrue c.is_text.result ↔ IsSaid c.args.coding s xs) (sym c.in-Text.is)
    (λ xs a. subst (λ (o : List ℕ). IsTrue c.is_text.result ↔ IsText c.in-Text.kind o) (sym a) c.is_text.ensures)

pub returns-in-Time : goal.returns-in-Time
returns-in-Time c = subst (λ (s : Sort). (xs : List (Elem s)) → (string_of c.args.coding s).Content c.args.content.now xs →
    IsTrue c.is_time.result ↔ IsSaid c.args.coding s xs) (sym c.in-Time.is)
    (λ xs a. subst (λ (o : List ℕ). IsTrue c.is_time.result ↔ (rules_of c.args.coding).Time c.in-Time.kind o) (sym a) c.is_time.ensures)
