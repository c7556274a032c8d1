use Rattle.asn1_module.proofs.places.Places.+retag.Given as goal

abbrev pub decreases-retag : goal.decreases-retag
decreases-retag l = l.depth
