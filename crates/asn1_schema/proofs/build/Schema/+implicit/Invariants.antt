use Rattle.asn1_schema.proofs.build.Schema.+implicit.Given as goal

abbrev pub decreases-implicit : goal.decreases-implicit
decreases-implicit l = l.of
