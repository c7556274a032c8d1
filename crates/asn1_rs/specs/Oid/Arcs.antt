-- The arcs of object identifiers, as an iterator gives them (X.690 8.19, 8.20).
use Rattle.std.specs.Prelude.{◌≡◌, ℕ, ◌<◌, ◌^◌, Bool, List, Option, Some, None}
use Rattle.std.specs.List.{All, cons_option}
use Rattle.x690.specs.Arcs.{arcs_of}
use Rattle.asn1_rs.specs.declared.asn1_types.oid.Oid.{Oid}
use Rattle.asn1_rs.specs.declared.asn1_types.oid.iterator.SubIdentifierIterator.{SubIdentifierIterator}
use Rattle.asn1_rs.specs.Oid.{is_relative, oid_octets}

-- the arcs that are left: the second of a pair, where it is still to come, and those of the octets left
abbrev pub arcs_left : SubIdentifierIterator → List ℕ
arcs_left s = cons_option s.second (arcs_of s.relative s.left.now)

-- each arc of the contents octets is below 2^64
abbrev pub ArcsFit : Bool → List ℕ → Type 0
ArcsFit relative octets = All (λ arc. arc < 2 ^ 64) (arcs_of relative octets)

-- what an iterator over the arcs of an identifier is: there is one exactly where each arc is below 2^64
abbrev pub GivesArcs : Oid → Option SubIdentifierIterator → Type 0
GivesArcs x (Some s) = ArcsFit (is_relative x) (oid_octets x) × (arcs_left s ≡ arcs_of (is_relative x) (oid_octets x))
GivesArcs x None = ArcsFit (is_relative x) (oid_octets x) → ⊥
