use Rattle.asn1_schema.proofs.bits.+bit.Given as goal

abbrev pub decreases-is_bit_set : goal.decreases-is_bit_set
decreases-is_bit_set l = l.place
