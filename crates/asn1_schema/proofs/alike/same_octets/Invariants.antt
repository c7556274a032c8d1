use Rattle.std.proofs.Common.{◌≡◌, length}
use Rattle.asn1_schema.specs.Joined.{said}
use Rattle.asn1_schema.proofs.alike.same_octets.Given as goal

abbrev pub invariant-loop-octet : goal.invariant-loop-octet
invariant-loop-octet l = record {
  yes : said l.left ≡ said l.right → said l.fn.left ≡ said l.fn.right;
  no : said l.fn.left ≡ said l.fn.right → said l.left ≡ said l.right;
}

abbrev pub decreases-loop-octet : goal.decreases-loop-octet
decreases-loop-octet l = length (said l.left)
