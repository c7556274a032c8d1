use Rattle.asn1_module.proofs.Ends.{parts_end}
use Rattle.asn1_module.proofs.tokens.next_token.Goals as goal

pub returns-else-is_empty-2-clause-parts : goal.returns-else-is_empty-2-clause-parts
returns-else-is_empty-2-clause-parts c =
    parts_end c.args.octets.now _ c.in-Some-split_at_checked.octets.now c.in-Some-split_at_checked.rest.now _ _
    c.split_at.ensures.back c.in-Some-split_at_checked.ensures.cases
