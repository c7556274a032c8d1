use Rattle.asn1_schema.proofs.bits.+low.Given as goal

abbrev pub decreases-ends_in_zeros : goal.decreases-ends_in_zeros
decreases-ends_in_zeros l = l.count
